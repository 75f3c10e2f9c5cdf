-- Which calls wait in which queues.
use Rattle.std.proofs.Common.{◌≡◌, ℕ, ℤ, ◌+◌, ◌<◌, ◌≤◌, ◌^◌, Bool, true, false, cond, List, [], ◌∷◌, length, ◌⊎◌, inl, inr, ⊎_elim, refl, sym, ◌∙◌, ap, subst, nat_eq, nat_lt, nat_le, arith}
use Rattle.std.specs.Prelude.{◌||◌, IsSome}
use Rattle.std.specs.List.{flat_map}
use Rattle.std.specs.Set.{is_member}
use Rattle.std.specs.declared.option.Option.TheVariants.{Some}
use Rattle.std.proofs.lemmas.Bool.{eq-eqb, eqb-true}
use Rattle.std.proofs.lemmas.Bool.Decides.{nat_tests}
use Rattle.pl_model.specs.declared.calls.Call.{Call}
use Rattle.pl_model.specs.declared.calls.Call.TheVariants as call
use Rattle.pl_model.specs.declared.calls.Mode.{Mode}
use Rattle.pl_model.specs.declared.cases.Polled.{Polled}
use Rattle.pl_model.specs.declared.flags.PollMask.{PollMask}
use Rattle.pl_model.specs.Numbers.{pipe_buf}
use Rattle.pl_model.specs.Flags.{has, poll_in, poll_out}
use Rattle.pl_model.specs.Keys.{Node, PipeNode, FileNode}
use Rattle.pl_model.specs.State.{Core, Description}
use Rattle.pl_model.specs.Poll.{bits_if, is_ready, mask_of}
use Rattle.pl_model.specs.Numbered.{numbers}
use Rattle.pl_model.proofs.settling.Members.{or_elim}
use Rattle.pl_state.specs.Sound.{Keeps}
use Rattle.pl_state.proofs.by_call.Begun.{there}
use Rattle.pl_kernel.specs.ToldNodes.{key_of}
use Rattle.pl_kernel.specs.Queues.{reads, others, writes_of, large_writes, queue_of_len, polls, is_polls, kind_of, queue_of_entry, to_pipes, from_pipes, to_pipe, from_pipe, queue_at_source, queue_at_target, ends, place_in, move_places, places, is_place}
use Rattle.pl_kernel.proofs.index.Places.{KeepsEnd, KeepsBoth, MovePlace, PollPlace, in-queue, to-queue, in-move, at-source, at-target, in-poll}

-- a poll waits in a queue of polls
end-polls : (mode : Mode) (i o : Bool) → is_polls (polls + (kind_of mode + (bits_if i 1 + bits_if o 2))) ≡ true
end-polls Mode.Read true true = refl
end-polls Mode.Read true false = refl
end-polls Mode.Read false true = refl
end-polls Mode.Read false false = refl
end-polls Mode.Write true true = refl
end-polls Mode.Write true false = refl
end-polls Mode.Write false true = refl
end-polls Mode.Write false false = refl
end-polls Mode.Both true true = refl
end-polls Mode.Both true false = refl
end-polls Mode.Both false true = refl
end-polls Mode.Both false false = refl

file-polls : (b : Bool) → is_polls (polls + bits_if b 1) ≡ true
file-polls true = refl
file-polls false = refl

pub entry-polls : (node : Node numbers) (mode : Mode) (asked : PollMask) → is_polls (queue_of_entry node mode asked) ≡ true
entry-polls (PipeNode p) mode asked = end-polls mode (has asked.0 poll_in) (has asked.0 poll_out)
entry-polls (FileNode f) mode asked = file-polls (is_ready (mask_of Polled.File asked))

-- of a file it is one of the first two
file-kind : (b : Bool) → polls + bits_if b 1 < 20
file-kind true = omega arith
file-kind false = omega arith

pub entry-of-file : (f : ℕ) (mode : Mode) (asked : PollMask) → queue_of_entry (FileNode f) mode asked < 20
entry-of-file f mode asked = file-kind (is_ready (mask_of Polled.File asked))

pub polls-low : (queue : ℕ) → is_polls queue ≡ true → queue < 32
polls-low queue h = grind (arith, nat_tests, h)

pub high-no-polls : (queue : ℕ) → 32 ≤ queue → is_polls queue ≡ false
high-no-polls queue l = grind (arith, nat_tests)

-- No other call waits in one of them.
abbrev pub IsApart : ℕ → Type 0
IsApart queue = (is_polls queue ≡ false) × (queue < 2 ^ 64)

apart-high : (queue : ℕ) → 32 ≤ queue → queue < 2 ^ 64 → IsApart queue
apart-high queue l fits = (high-no-polls queue l, fits)

apart-len : (n : ℕ) → IsApart (queue_of_len n)
apart-len n = by (nat_le n pipe_buf) refl
  where
    by : (b : Bool) → nat_le n pipe_buf ≡ b → IsApart (cond b (writes_of n) large_writes)
    by true few = apart-high (writes_of n) (omega arith) (let l : n < 4097 = grind (arith, nat_tests, few) in omega (arith, l))
    by false many = (refl, omega arith)

apart-to : (q : ℕ) → IsApart (to_pipe q)
apart-to q = by (nat_lt q to_pipes) refl
  where
    by : (b : Bool) → nat_lt q to_pipes ≡ b → IsApart (cond b (to_pipes + q) others)
    by true low = apart-high (to_pipes + q) (omega arith) (let l : q < 4294967296 = grind (arith, nat_tests, low) in omega (arith, l))
    by false high = (refl, omega arith)

apart-from : (p : ℕ) → IsApart (from_pipe p)
apart-from p = by (nat_lt p to_pipes) refl
  where
    by : (b : Bool) → nat_lt p to_pipes ≡ b → IsApart (cond b (from_pipes + p) others)
    by true low = apart-high (from_pipes + p) (omega arith) (let l : p < 4294967296 = grind (arith, nat_tests, low) in omega (arith, l))
    by false high = (refl, omega arith)

apart-source : (a b : Node numbers) → IsApart (queue_at_source a b)
apart-source (PipeNode p) (PipeNode q) = apart-to q
apart-source (PipeNode p) (FileNode f) = (refl, omega arith)
apart-source (FileNode f) b = (refl, omega arith)

apart-target : (a b : Node numbers) → IsApart (queue_at_target a b)
apart-target (PipeNode p) (PipeNode q) = apart-from p
apart-target (PipeNode p) (FileNode f) = (refl, omega arith)
apart-target (FileNode f) b = (refl, omega arith)

-- the call is no poll
abbrev pub IsNoPoll : {A : Type 0} → Call A → Type 0
IsNoPoll x = (entries : List (ℤ × PollMask)) (wait : Bool) → x ≡ call.Poll entries wait → ⊥

module _ {A : Type 0} (c : Core A numbers) where
  -- The place is that of a call that is no poll, at an end that it keeps.
  pub record OtherPlace (x : Call A) (kept : List ℕ) (key queue : ℕ) : Type 0 where
    pub no_poll : IsNoPoll x
    pub apart : IsApart queue
    pub end : KeepsEnd c kept key

  -- or that of a poll's entry
  abbrev pub IsOfKind : Call A → (kept : List ℕ) → (key queue : ℕ) → Type 0
  IsOfKind x kept key queue =
      ((entries : List (ℤ × PollMask)) × (wait : Bool) × (x ≡ call.Poll entries wait) × PollPlace c entries kept key queue) ⊎ OtherPlace x kept key queue

  queued : (x : Call A) → IsNoPoll x → (q : ℕ) (kept : List ℕ) (key queue : ℕ) → IsApart q → KeepsEnd c kept key × (q ≡ queue) → IsOfKind x kept key queue
  queued x off q kept key queue apart at = inr (record { no_poll = off; apart = subst IsApart at.1 apart; end = at.0 })

  moved : (x : Call A) → IsNoPoll x → (kept : List ℕ) (key queue : ℕ) → MovePlace c kept key queue → IsOfKind x kept key queue
  moved x off kept key queue m = inr (by m.at)
    where
      h : KeepsBoth c kept
      h = m.both

      end : (d : ℕ) (y : Description numbers) → is_member nat_eq (h.a ∷ h.b ∷ h.rest) d ≡ true → c.descriptions d ≡ Some y → key_of y.node ≡ key → KeepsEnd c kept key
      end d y member here at = record { d = d; member = ap (λ ks. is_member nat_eq ks d) h.both ∙ member; x = y; here = here; at = at }

      second : (x y : Bool) → (x || (nat_eq h.b h.b || y)) ≡ true
      second true y = refl
      second false y = λ i. eq-eqb h.b h.b refl i || y

      by : ((key_of h.from.node ≡ key) × (queue_at_source h.from.node h.to.node ≡ queue)) ⊎ ((key_of h.to.node ≡ key) × (queue_at_target h.from.node h.to.node ≡ queue)) → OtherPlace x kept key queue
      by (inl s) = record { no_poll = off; apart = subst IsApart s.1 (apart-source h.from.node h.to.node); end = end h.a h.from (λ i. eq-eqb h.a h.a refl i || is_member nat_eq (h.b ∷ h.rest) h.a) h.from_here s.0 }
      by (inr t) = record { no_poll = off; apart = subst IsApart t.1 (apart-target h.from.node h.to.node); end = end h.b h.to (second (nat_eq h.b h.a) (is_member nat_eq h.rest h.b)) h.to_here t.0 }

  pub place-kind : (x : Call A) (kept : List ℕ) (key queue : ℕ) → is_place (places x (ends c kept)) key queue ≡ true → IsOfKind x kept key queue
  place-kind (call.Poll entries wait) kept key queue h = inl (entries, wait, refl, in-poll c entries kept key queue h)
  place-kind (call.Splice from from_offset to to_offset len flags) kept key queue h = moved (call.Splice from from_offset to to_offset len flags) (λ entries wait e. cc) kept key queue (in-move c kept key queue h)
  place-kind (call.Tee from to len flags) kept key queue h = moved (call.Tee from to len flags) (λ entries wait e. cc) kept key queue (in-move c kept key queue h)
  place-kind (call.Read fd n) kept key queue h = queued (call.Read fd n) (λ entries wait e. cc) reads kept key queue (refl, omega arith) (in-queue c reads kept key queue h)
  place-kind (call.Write fd bytes) kept key queue h = queued (call.Write fd bytes) (λ entries wait e. cc) (queue_of_len (length bytes)) kept key queue (apart-len (length bytes)) (in-queue c (queue_of_len (length bytes)) kept key queue h)
  place-kind x kept key queue h = queued x (λ entries wait e. cc) others kept key queue (refl, omega arith) (in-queue c others kept key queue h)

  one-of-both : (kept : List ℕ) (a b d : ℕ) → kept ≡ a ∷ b ∷ [] → is_member nat_eq kept d ≡ true → (d ≡ a) ⊎ (d ≡ b)
  one-of-both kept a b d both member =
      or_elim (nat_eq d a) (nat_eq d b || false) (λ e. inl (eqb-true d a e)) (λ r. or_elim (nat_eq d b) false (λ e. inr (eqb-true d b e)) (λ no. absurd (cc)) r) (sym (ap (λ ks. is_member nat_eq ks d) both) ∙ member)

  -- A call that is no poll waits in a queue at each end that it keeps.
  abbrev pub IsSomewhere : List (ℕ × ℕ) → (key : ℕ) → Type 0
  IsSomewhere ps key = (q : ℕ) × (is_place ps key q ≡ true) × IsApart q

  module _ (kept : List ℕ) (described : (e : ℕ) → is_member nat_eq kept e ≡ true → IsSome (c.descriptions e)) (d : ℕ) (y : Description numbers) (member : is_member nat_eq kept d ≡ true) (here : c.descriptions d ≡ Some y) where
    moves-there : (a b : ℕ) → kept ≡ a ∷ b ∷ [] → IsSomewhere (move_places (ends c kept)) (key_of y.node)
    moves-there a b both = ⊎_elim from to (one-of-both kept a b d both member)
      where
        at : (e : ℕ) → is_member nat_eq (a ∷ b ∷ []) e ≡ true → (x : Description numbers) × (c.descriptions e ≡ Some x)
        at e m = there (c.descriptions e) (described e (ap (λ ks. is_member nat_eq ks e) both ∙ m))

        second : (x : Bool) → (x || (nat_eq b b || false)) ≡ true
        second true = refl
        second false = λ i. eq-eqb b b refl i || false

        f : (x : Description numbers) × (c.descriptions a ≡ Some x)
        f = at a (λ i. eq-eqb a a refl i || (nat_eq a b || false))

        t : (x : Description numbers) × (c.descriptions b ≡ Some x)
        t = at b (second (nat_eq b a))

        h : KeepsBoth c kept
        h = record { a = a; b = b; rest = []; both = both; from = f.0; to = t.0; from_here = f.1; to_here = t.1 }

        same : (e : ℕ) (x : Description numbers) → c.descriptions e ≡ Some x → d ≡ e → x ≡ y
        same e x is at = (let i : Some x ≡ Some y = sym is ∙ ap c.descriptions (sym at) ∙ here in cc)

        from : d ≡ a → IsSomewhere (move_places (ends c kept)) (key_of y.node)
        from is = subst (λ (z : Description numbers). IsSomewhere (move_places (ends c kept)) (key_of z.node)) (same a f.0 f.1 is) (queue_at_source f.0.node t.0.node, at-source c kept h, apart-source f.0.node t.0.node)

        to : d ≡ b → IsSomewhere (move_places (ends c kept)) (key_of y.node)
        to is = subst (λ (z : Description numbers). IsSomewhere (move_places (ends c kept)) (key_of z.node)) (same b t.0 t.1 is) (queue_at_target f.0.node t.0.node, at-target c kept h, apart-target f.0.node t.0.node)

    queues-there : (q : ℕ) → IsApart q → IsSomewhere (flat_map (place_in q) (ends c kept)) (key_of y.node)
    queues-there q apart = (q, to-queue c q kept d y member here, apart)

    pub some-place : (x : Call A) → Keeps x kept → IsNoPoll x → IsSomewhere (places x (ends c kept)) (key_of y.node)
    some-place (call.Poll entries wait) keeps off = absurd (off entries wait refl)
    some-place (call.Splice from from_offset to to_offset len flags) keeps off = moves-there keeps.0 keeps.1 keeps.2
    some-place (call.Tee from to len flags) keeps off = moves-there keeps.0 keeps.1 keeps.2
    some-place (call.Read fd n) keeps off = queues-there reads (refl, omega arith)
    some-place (call.Write fd bytes) keeps off = queues-there (queue_of_len (length bytes)) (apart-len (length bytes))
    some-place x keeps off = queues-there others (refl, omega arith)

-- a call that is no poll keeps some description
pub keeps-one : {A : Type 0} (x : Call A) (kept : List ℕ) → Keeps x kept → IsNoPoll x → (d : ℕ) × (is_member nat_eq kept d ≡ true)
keeps-one (call.Poll entries wait) kept keeps off = absurd (off entries wait refl)
keeps-one (call.Splice from from_offset to to_offset len flags) kept keeps off = (keeps.0, ap (λ ks. is_member nat_eq ks keeps.0) keeps.2 ∙ (λ i. eq-eqb keeps.0 keeps.0 refl i || (nat_eq keeps.0 keeps.1 || false)))
keeps-one (call.Tee from to len flags) kept keeps off = (keeps.0, ap (λ ks. is_member nat_eq ks keeps.0) keeps.2 ∙ (λ i. eq-eqb keeps.0 keeps.0 refl i || (nat_eq keeps.0 keeps.1 || false)))
keeps-one (call.Read fd n) kept keeps off = (keeps.0, ap (λ ks. is_member nat_eq ks keeps.0) keeps.1 ∙ (λ i. eq-eqb keeps.0 keeps.0 refl i || false))
keeps-one (call.Write fd bytes) kept keeps off = (keeps.0, ap (λ ks. is_member nat_eq ks keeps.0) keeps.1 ∙ (λ i. eq-eqb keeps.0 keeps.0 refl i || false))
keeps-one (call.OpenName name mode flags) kept keeps off = (keeps.0, ap (λ ks. is_member nat_eq ks keeps.0) keeps.1 ∙ (λ i. eq-eqb keeps.0 keeps.0 refl i || false))
keeps-one x kept keeps off = absurd keeps
