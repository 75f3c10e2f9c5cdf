-- Calls of one queue are alike.
use Rattle.std.proofs.Common.{◌≡◌, ◌≢◌, ℕ, ℤ, ◌+◌, ◌-◌, ◌<◌, ◌≤◌, Bool, true, false, cond, List, [], ◌∷◌, drop, length, Option, ◌⊎◌, inl, inr, refl, sym, ◌∙◌, ap, subst, nat_eq, nat_lt, nat_le, arith}
use Rattle.std.specs.Prelude.{◌&&◌, ◌||◌, not, IsSome, IfSome, option_map}
use Rattle.std.specs.declared.option.Option.TheVariants.{None, Some}
use Rattle.std.proofs.lemmas.Bool.{eq-eqb, leb-true}
use Rattle.std.specs.Set.{is_member}
use Rattle.std.proofs.lemmas.Bool.Decides.{nat_tests}
use Rattle.pl_model.specs.declared.calls.Call.{Call}
use Rattle.pl_model.specs.declared.calls.Call.TheVariants as call
use Rattle.pl_model.specs.declared.node.Node.{Node}
use Rattle.pl_model.specs.declared.node.Node.TheVariants as node
use Rattle.pl_model.specs.Numbers.{pipe_buf}
use Rattle.pl_model.specs.Modes.{any_mode}
use Rattle.pl_model.specs.Keys.{same_node, PipeNode, FileNode}
use Rattle.pl_model.specs.Keys.{Node as KeyNode}
use Rattle.pl_model.specs.State.{Core}
use Rattle.pl_model.specs.Live.{is_end, readers}
use Rattle.pl_model.specs.Trial.{pipe_at}
use Rattle.pl_model.specs.Transfer.{room}
use Rattle.pl_model.specs.Numbered.{numbers}
use Rattle.pl_model.specs.Waking.{progresses}
use Rattle.pl_model.specs.Touching.{keeps_at}
use Rattle.pl_model.proofs.settling.Members.{and_left, member_passes}
use Rattle.pl_model.proofs.settling.Opening.{same_is, same_refl}
use Rattle.pl_parked.specs.declared.call.ParkedCall.{ParkedCall}
use Rattle.pl_desc.specs.Rows.{at}
use Rattle.pl_desc.specs.Descs.{Opened}
use Rattle.pl_state.specs.Contents.{Contents, core_of, description_of, node_of, waiting_of}
use Rattle.pl_state.specs.Sound.{IsWaiting, Keeps, MayWait, KeepsNodes, OnNode, MayKeep, MayKeepFile}
use Rattle.pl_state.proofs.holders.OnNodes.{kept-one}
use Rattle.pl_kernel.specs.ToldNodes.{key_of}
use Rattle.pl_kernel.specs.Queues.{queue_of_len, reads, large_writes, others, to_files, is_polls, writes_of, to_pipes, from_pipes, answers_to, ends, places, is_place, queue_at_source, queue_at_target}
use Rattle.pl_kernel.proofs.index.Deciding.{is_readable, has_room_for, is_move_ended, is_drained, WaitsAt, WaitsBetween, reads-decide, small-decide, large-decide, splice-between, tee-between, splice-drained, tee-drained}
use Rattle.pl_kernel.proofs.index.Places.{KeepsEnd, KeepsBoth, in-queue, in-move, in-poll}
use Rattle.pl_kernel.proofs.index.Kinds.{entry-polls}

module _ {A : Type 0} (k : Contents A) (w : ParkedCall A) where
  abbrev c : Core A numbers
  c = core_of k

  -- what keeps one description, and no file, waits at a pipe
  waits-at : (key : ℕ) → w.kept ≡ key ∷ [] → OnNode (at k.opened) w key → IsSome (at k.opened key) → ((f : ℕ) → MayKeep w (node.File f) → ⊥) → (p : ℕ) × WaitsAt c (waiting_of w) p
  unfolding core_of
  waits-at key one on some no_file = by (at k.opened key) refl on some
    where
      to : (o : Opened) (n : Node) → at k.opened key ≡ Some o → o.node ≡ n → MayKeep w n → (p : ℕ) × WaitsAt c (waiting_of w) p
      to o (node.Pipe p) e is may = (p, record { key = key; description = description_of o; kept = one; here = ap (option_map description_of) e; on = ap node_of is })
      to o (node.File f) e is may = absurd (no_file f may)

      by : (o : Option Opened) → at k.opened key ≡ o → IfSome o (λ o. MayKeep w o.node) → IsSome o → (p : ℕ) × WaitsAt c (waiting_of w) p
      by None e may some = absurd (let none : IsSome {T = Opened} None = some in cc)
      by (Some o) e may some = to o o.node e refl may

  -- the node at which it waits is that pipe
  at-pipe : (p : ℕ) → WaitsAt c (waiting_of w) p → (key : KeyNode numbers) → keeps_at c key (waiting_of w) ≡ true → key_of key ≡ p
  at-pipe p h key keeps =
      let one : (is_end any_mode key (c.descriptions h.key) || false) ≡ true = subst (λ kept. keeps_at c key (record (waiting_of w) { kept = kept }) ≡ true) h.kept keeps in
      let found : (same_node h.description.node key && true) ≡ true = at_first _ (subst (λ o. (is_end any_mode key o || false) ≡ true) h.here one) in
      let is : PipeNode p ≡ key = subst (λ n. n ≡ key) h.on (same_is h.description.node key (and_left (same_node h.description.node key) true found)) in
      sym (ap key_of is)
    where
      at_first : (b : Bool) → (b || false) ≡ true → b ≡ true
      at_first true h = refl
      at_first false h = absurd (cc)

-- when the calls of a queue can get on
abbrev pub condition : {A : Type 0} → Core A numbers → (place queue : ℕ) → Bool
condition c place queue =
    cond (nat_eq queue reads) (is_readable c place)
    (cond (nat_eq queue large_writes) (has_room_for c place 1)
    (cond (nat_eq queue to_files) (is_drained c place)
    (cond (nat_lt queue to_pipes) (has_room_for c place (queue - 64))
    (cond (nat_lt queue from_pipes) (is_move_ended c place (queue - to_pipes)) (is_move_ended c (queue - from_pipes) place)))))

module _ {A : Type 0} (c : Core A numbers) (place : ℕ) where
  -- the condition of a queue that is none of the first
  by-rest : (queue : ℕ) → 64 ≤ queue → condition c place queue ≡ cond (nat_lt queue to_pipes) (has_room_for c place (queue - 64)) (cond (nat_lt queue from_pipes) (is_move_ended c place (queue - to_pipes)) (is_move_ended c (queue - from_pipes) place))
  by-rest queue l =
      let one : nat_eq queue reads ≡ false = grind (arith, nat_tests) in
      let two : nat_eq queue large_writes ≡ false = grind (arith, nat_tests) in
      let three : nat_eq queue to_files ≡ false = grind (arith, nat_tests) in
      let rest : Bool = cond (nat_lt queue to_pipes) (has_room_for c place (queue - 64)) (cond (nat_lt queue from_pipes) (is_move_ended c place (queue - to_pipes)) (is_move_ended c (queue - from_pipes) place)) in
      λ i. cond (one i) (is_readable c place) (cond (two i) (has_room_for c place 1) (cond (three i) (is_drained c place) rest))

  pub by-size : (queue : ℕ) → 64 ≤ queue → queue < to_pipes → condition c place queue ≡ has_room_for c place (queue - 64)
  by-size queue l m =
      let low : nat_lt queue to_pipes ≡ true = grind (arith, nat_tests) in
      by-rest queue l ∙ (λ i. cond (low i) (has_room_for c place (queue - 64)) (cond (nat_lt queue from_pipes) (is_move_ended c place (queue - to_pipes)) (is_move_ended c (queue - from_pipes) place)))

  condition-small : (n : ℕ) → n ≤ pipe_buf → condition c place (writes_of n) ≡ has_room_for c place n
  condition-small n few = by-size (writes_of n) (omega arith) (omega (arith, few)) ∙ ap (has_room_for c place) (let e : n + 64 - 64 ≡ n = omega arith in e)

  condition-to : (q : ℕ) → q < to_pipes → condition c place (to_pipes + q) ≡ is_move_ended c place q
  condition-to q l =
      let low : nat_lt (to_pipes + q) to_pipes ≡ false = grind (arith, nat_tests) in
      let next : nat_lt (to_pipes + q) from_pipes ≡ true = grind (arith, nat_tests) in
      by-rest (to_pipes + q) (omega arith) ∙ (λ i. cond (low i) (has_room_for c place (to_pipes + q - 64)) (cond (next i) (is_move_ended c place (to_pipes + q - to_pipes)) (is_move_ended c (to_pipes + q - from_pipes) place)))
      ∙ ap (is_move_ended c place) (let e : 4294967296 + q - 4294967296 ≡ q = omega arith in e)

  condition-from : (p : ℕ) → p < to_pipes → condition c place (from_pipes + p) ≡ is_move_ended c p place
  condition-from p l =
      let low : nat_lt (from_pipes + p) to_pipes ≡ false = grind (arith, nat_tests) in
      let next : nat_lt (from_pipes + p) from_pipes ≡ false = grind (arith, nat_tests) in
      by-rest (from_pipes + p) (omega arith) ∙ (λ i. cond (low i) (has_room_for c place (from_pipes + p - 64)) (cond (next i) (is_move_ended c place (from_pipes + p - to_pipes)) (is_move_ended c (from_pipes + p - from_pipes) place)))
      ∙ ap (λ q. is_move_ended c q place) (let e : 8589934592 + p - 8589934592 ≡ p = omega arith in e)

  -- a write that is too large leaves no room for a larger one
  no-room : (n m : ℕ) → n ≤ m → has_room_for c place n ≡ false → has_room_for c place m ≡ false
  no-room n m l h = by (nat_lt 0 (readers c place)) h
    where
      by : (reader : Bool) → (not reader || nat_le n (room (pipe_at c place))) ≡ false → (not reader || nat_le m (room (pipe_at c place))) ≡ false
      by false h = absurd (cc)
      by true h = grind (arith, nat_tests, h)

  pub stuck-too : (one other : ℕ) → one ≤ other → other ≤ answers_to one → condition c place one ≡ false → condition c place other ≡ false
  stuck-too one other up down stuck = by (nat_le 64 one && nat_le one 4160) refl
    where
      by : (b : Bool) → (nat_le 64 one && nat_le one 4160) ≡ b → condition c place other ≡ false
      by false is = (let same : answers_to one ≡ one = ap (λ b. cond b 4160 one) is in subst (λ q. condition c place q ≡ false) (let e : one ≡ other = omega (arith, up, down, same) in e) stuck)
      by true is =
          let last : answers_to one ≡ 4160 = ap (λ b. cond b 4160 one) is in
          let low : 64 ≤ one = grind (arith, nat_tests, is) in
          by-size other (omega (arith, low, up)) (omega (arith, down, last))
          ∙ no-room (one - 64) (other - 64) (omega (arith, low, up)) (sym (by-size one low (omega (arith, up, down, last))) ∙ stuck)

module _ {A : Type 0} (k : Contents A) (w : ParkedCall A) (waits : IsWaiting A w) (on : KeepsNodes (at k.opened) w) (described : (d : ℕ) → is_member nat_eq w.kept d ≡ true → IsSome (at k.opened d)) where
  abbrev core : Core A numbers
  core = core_of k

  -- whether it gets on
  abbrev gets : Bool
  gets = progresses core (Some (waiting_of w))

  only-one : (key : ℕ) → w.kept ≡ key ∷ [] → ((f : ℕ) → MayKeep w (node.File f) → ⊥) → (p : ℕ) × WaitsAt core (waiting_of w) p
  only-one key one no_file = waits-at k w key one (kept-one (at k.opened) w key one on) (described key (ap (λ kept. is_member nat_eq kept key) one ∙ itself key)) no_file
    where
      itself : (key : ℕ) → (nat_eq key key || false) ≡ true
      itself key = ap (λ b. b || false) (eq-eqb key key refl)

  no_file : (x : Call A) → w.call ≡ x → MayKeepFile x ≡ ⊥ → (f : ℕ) → MayKeep w (node.File f) → ⊥
  no_file x is none f may = subst (λ (t : Type 0). t) none (subst MayKeepFile is may)

  -- one description is kept, on a pipe: its key is that of the place
  at-place : (p : ℕ) → WaitsAt core (waiting_of w) p → (key : ℕ) → KeepsEnd core w.kept key → key ≡ p
  at-place p h key e = sym e.at ∙ at-pipe k w p h e.x.node (member_passes (λ d. is_end any_mode e.x.node (core.descriptions d)) w.kept e.d e.member (ap (is_end any_mode e.x.node) e.here ∙ (λ i. same_refl e.x.node i && true)))

  module _ (key queue : ℕ) (apart : queue ≢ others) (no_poll : is_polls queue ≡ false) where
    abbrev Decided : Type 0
    Decided = gets ≡ condition core key queue

    small : (fd : ℤ) (bytes : List ℕ) → w.call ≡ call.Write fd bytes → (p : ℕ) → WaitsAt core (waiting_of w) p → length bytes ≤ pipe_buf → w.taken ≡ 0 → key ≡ p → writes_of (length bytes) ≡ queue → Decided
    small fd bytes is p h few none place of =
        small-decide core (waiting_of w) p fd bytes h is none few ∙ sym (condition-small core p (length bytes) few) ∙ (λ i. condition core (sym place i) (of i))

    write : (fd : ℤ) (bytes : List ℕ) → w.call ≡ call.Write fd bytes → (p : ℕ) → WaitsAt core (waiting_of w) p → (w.taken < length bytes) × (length bytes ≤ pipe_buf → w.taken ≡ 0) → key ≡ p →
        (t : Bool) → nat_le (length bytes) pipe_buf ≡ t → cond t (writes_of (length bytes)) large_writes ≡ queue → Decided
    write fd bytes is p h may place true t of = (let few : length bytes ≤ pipe_buf = leb-true (length bytes) pipe_buf t in small fd bytes is p h few (may.1 few) place of)
    write fd bytes is p h may place false t of = large-decide core (waiting_of w) p fd bytes h is (above (length bytes) pipe_buf t) may.0 ∙ (λ i. condition core (sym place i) (of i))
      where
        above : (a b : ℕ) → nat_le a b ≡ false → b < a
        above a b l = grind (arith, nat_tests, l)

    -- a splice or a tee
    module _ (h : WaitsBetween core (waiting_of w)) (between : (p q : ℕ) → h.from.node ≡ PipeNode p → h.to.node ≡ PipeNode q → gets ≡ is_move_ended core p q) (drained : (p f : ℕ) → h.from.node ≡ PipeNode p → h.to.node ≡ FileNode f → gets ≡ is_drained core p) where
      to-case : (p q : ℕ) → h.from.node ≡ PipeNode p → h.to.node ≡ PipeNode q → p ≡ key → (b : Bool) → nat_lt q to_pipes ≡ b → cond b (to_pipes + q) others ≡ queue → Decided
      to-case p q e f place true low of = (let l : q < 4294967296 = grind (arith, nat_tests, low) in between p q e f ∙ sym (condition-to core p q l) ∙ (λ i. condition core (place i) (of i)))
      to-case p q e f place false high of = absurd (apart (sym of))

      from-case : (p q : ℕ) → h.from.node ≡ PipeNode p → h.to.node ≡ PipeNode q → q ≡ key → (b : Bool) → nat_lt p to_pipes ≡ b → cond b (from_pipes + p) others ≡ queue → Decided
      from-case p q e f place true low of = (let l : p < 4294967296 = grind (arith, nat_tests, low) in between p q e f ∙ sym (condition-from core q p l) ∙ (λ i. condition core (place i) (of i)))
      from-case p q e f place false high of = absurd (apart (sym of))

      move : (a b : KeyNode numbers) → h.from.node ≡ a → h.to.node ≡ b → ((key_of a ≡ key) × (queue_at_source a b ≡ queue)) ⊎ ((key_of b ≡ key) × (queue_at_target a b ≡ queue)) → Decided
      move (PipeNode p) (PipeNode q) e f (inl s) = to-case p q e f s.0 (nat_lt q to_pipes) refl s.1
      move (PipeNode p) (PipeNode q) e f (inr t) = from-case p q e f t.0 (nat_lt p to_pipes) refl t.1
      move (PipeNode p) (FileNode g) e f (inl s) = drained p g e f ∙ (λ i. condition core (s.0 i) (s.1 i))
      move (PipeNode p) (FileNode g) e f (inr t) = absurd (apart (sym t.1))
      move (FileNode g) b e f (inl s) = absurd (apart (sym s.1))
      move (FileNode g) b e f (inr t) = absurd (apart (sym t.1))

    -- the two that it keeps
    two : (h : KeepsBoth core w.kept) (a b : ℕ) → w.kept ≡ a ∷ b ∷ [] → WaitsBetween core (waiting_of w)
    two h a b both = record { from_key = h.a; to_key = h.b; from = h.from; to = h.to; kept = h.both ∙ ap (λ r. h.a ∷ h.b ∷ r) (ap (drop 2) (sym h.both ∙ both)); from_here = h.from_here; to_here = h.to_here }

    pub decided-at : is_place (places w.call (ends core w.kept)) key queue ≡ true → Decided
    unfolding two
    decided-at here = by w.call refl waits.keeps waits.may here
      where
        by : (x : Call A) → w.call ≡ x → Keeps x w.kept → MayWait x w.taken → is_place (places x (ends core w.kept)) key queue ≡ true → Decided
        by (call.Read fd n) is kept may here =
            let h = only-one kept.0 kept.1 (no_file (call.Read fd n) is refl) in
            let q = in-queue core reads w.kept key queue here in
            reads-decide core (waiting_of w) h.0 n fd h.1 is may ∙ (λ i. condition core (sym (at-place h.0 h.1 key q.0) i) (q.1 i))
        by (call.Write fd bytes) is kept may here =
            let h = only-one kept.0 kept.1 (no_file (call.Write fd bytes) is refl) in
            let q = in-queue core (queue_of_len (length bytes)) w.kept key queue here in
            write fd bytes is h.0 h.1 may (at-place h.0 h.1 key q.0) (nat_le (length bytes) pipe_buf) refl q.1
        by (call.Splice from from_offset to to_offset len flags) is kept may here =
            let m = in-move core w.kept key queue here in
            let h = two m.both kept.0 kept.1 kept.2 in
            move h (λ p q e f. splice-between core (waiting_of w) p q from to from_offset to_offset len flags h e f is may.0) (λ p g e f. splice-drained core (waiting_of w) p g from to from_offset to_offset len flags h e f is may.0)
            h.from.node h.to.node refl refl m.at
        by (call.Tee from to len flags) is kept may here =
            let m = in-move core w.kept key queue here in
            let h = two m.both kept.0 kept.1 kept.2 in
            move h (λ p q e f. tee-between core (waiting_of w) p q from to len flags h e f is may.0) (λ p g e f. tee-drained core (waiting_of w) p g from to len flags h e f is may.0)
            h.from.node h.to.node refl refl m.at
        by (call.Poll entries wait) is kept may here =
            let p = in-poll core entries w.kept key queue here in
            absurd (let no : false ≡ true = sym no_poll ∙ ap is_polls (sym p.of) ∙ entry-polls p.end.x.node p.end.x.mode p.asked in cc)
        by x is kept may here = absurd (apart (sym (in-queue core others w.kept key queue here).1))
