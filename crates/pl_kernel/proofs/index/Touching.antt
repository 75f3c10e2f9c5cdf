-- What is touched, one description after another.
use Rattle.std.proofs.Common.{◌≡◌, ℕ, zero, suc, ◌+◌, ◌<◌, ◌≤◌, Bool, true, false, cond, List, [], ◌∷◌, drop, length, slice_index_or, inl, inr, refl, sym, ◌∙◌, ap, subst, nat_eq, arith}
use Rattle.std.specs.Prelude.{◌⊎◌, is_some, IsSome, option_map, ◌||◌, ◌&&◌}
use Rattle.std.specs.declared.option.Option.{Option}
use Rattle.std.specs.declared.option.Option.TheVariants.{None, Some}
use Rattle.std.specs.List.{list_any}
use Rattle.std.specs.Set.{is_member}
use Rattle.std.proofs.lemmas.Bool.{eq-eqb, eqb-true}
use Rattle.std.proofs.lemmas.List.{drop_more}
use Rattle.std.proofs.lemmas.List.Folds.{list_any_at}
use Rattle.pl_model.specs.declared.calls.Step.{Step}
use Rattle.pl_model.specs.declared.node.Node.{Node}
use Rattle.pl_model.specs.Keys.{same_node}
use Rattle.pl_model.specs.Keys.{Node as KeyNode}
use Rattle.pl_model.specs.Modes.{any_mode}
use Rattle.pl_model.specs.Numbered.{numbers}
use Rattle.pl_model.specs.State.{Core, Waiting}
use Rattle.pl_model.specs.Live.{is_end}
use Rattle.pl_model.proofs.settling.Members.{and_left, and_right, or_elim, any_number}
use Rattle.pl_model.proofs.settling.Opening.{same_is}
use Rattle.pl_model.specs.Map.{Map, get, EachOnce}
use Rattle.pl_model.specs.Numbers.{numbers_from}
use Rattle.pl_model.specs.Touching.{is_at, keeps_at, waits_at, has_at, touches}
use Rattle.pl_parked.specs.declared.call.ParkedCall.{ParkedCall}
use Rattle.pl_desc.specs.Rows.{at}
use Rattle.pl_desc.specs.Descs.{Opened}
use Rattle.pl_state.specs.Contents.{Contents, core_of, description_of, node_of, waiting_of}
use Rattle.pl_state.proofs.waiting.Calls.{get-parked}
use Rattle.pl_waiters.specs.declared.waiters.Waiters.{Waiters}
use Rattle.pl_waiters.specs.Seen.{is_touched}
use Rattle.pl_model.specs.Waking.{can_progress}
use Rattle.pl_kernel.specs.Progress.{is_ready}
use Rattle.pl_kernel.specs.ToldNodes.{key_of}
use Rattle.pl_kernel.proofs.NextReady.{mapped}
use Rattle.pl_kernel.specs.Index.{IsNoLess, IsTouched, TouchesAll, Touches}
use Rattle.pl_model.specs.Tables.{descriptor_limit}

-- what stands in a list is a member of it
pub member-at : (keys : List ℕ) (i : ℕ) → i < length keys → is_member nat_eq keys (slice_index_or keys i 0) ≡ true
member-at keys i l = (let d = slice_index_or keys i 0 in list_any_at (nat_eq d) keys i 0 l (eq-eqb d d refl))

-- what passes a test from a place on, passes it there or behind
pub any-next : (t : ℕ → Bool) (keys : List ℕ) (i : ℕ) → i < length keys → list_any t (drop i keys) ≡ true → (t (slice_index_or keys i 0) ≡ true) ⊎ (list_any t (drop (i + 1) keys) ≡ true)
any-next t keys i l h = or_elim (t (slice_index_or keys i 0)) (list_any t (drop (i + 1) keys)) (λ e. inl e) (λ e. inr e) (ap (list_any t) (sym (drop_more keys i 0 l)) ∙ h)

-- behind the end nothing does
pub any-past : (t : ℕ → Bool) (keys : List ℕ) (i : ℕ) → length keys ≤ i → list_any t (drop i keys) ≡ false
any-past t [] zero l = refl
any-past t [] (suc i) l = refl
any-past t (k ∷ ks) zero l = absurd (omega (arith, l))
any-past t (k ∷ ks) (suc i) l = any-past t ks i (omega (arith, l))

-- the node of a description has the key of the one that it is on
pub key-on : {A : Type 0} (k : Contents A) (d : ℕ) (n : Node) → option_map (λ (o : Opened). o.node) (at k.opened d) ≡ Some n → (node : KeyNode numbers) → is_end any_mode node ((core_of k).descriptions d) ≡ true → key_of (node_of n) ≡ key_of node
unfolding core_of
key-on k d n told node on = by (at k.opened d) told on
  where
    by : (o : Option Opened) → option_map (λ (o : Opened). o.node) o ≡ Some n → is_end any_mode node (option_map description_of o) ≡ true → key_of (node_of n) ≡ key_of node
    by None e h = absurd (cc)
    by (Some o) e h = (let is : o.node ≡ n = cc in ap (λ m. key_of (node_of m)) (sym is) ∙ ap key_of (same_is (node_of o.node) node (and_left (same_node (node_of o.node) node) true h)))

module _ {A : Type 0} (w v u : Waiters A) where
  pub less_then : IsNoLess w v → IsNoLess v u → IsNoLess w u
  less_then first second = record {
    queues = λ key. second.queues key ∙ first.queues key;
    least_ones = second.least_ones ∙ first.least_ones;
    known = second.known ∙ first.known;
    more = λ key h. second.more key (first.more key h);
  }

  -- what was touched before stays so
  pub touched_before : (key : ℕ) → IsTouched w v key → IsNoLess v u → IsTouched w u key
  touched_before key touched less x at there = less.more key (touched x at there)

  -- what is touched now was at the node before
  pub touched_now : (key other : ℕ) → key ≡ other → IsNoLess w v → IsTouched v u key → IsTouched w u other
  touched_now key other same less touched x at there = subst (λ q. is_touched u q ≡ true) same (touched x (at ∙ sym same) (less.queues x ∙ there))

-- where the call of a number waits
module _ {A : Type 0} (k : Contents A) (node : KeyNode numbers) (number : ℕ) where
  waits-by : (o : Option (ParkedCall A)) → get nat_eq k.calls.calls number ≡ o → waits_at (core_of k) node (get nat_eq (core_of k).parked number) ≡ waits_at (core_of k) node (option_map waiting_of o)
  unfolding core_of
  waits-by o here = ap (waits_at (core_of k) node) (get-parked k.calls.calls number ∙ ap (λ o. option_map waiting_of o) here)

  pub waits-nowhere : get nat_eq k.calls.calls number ≡ None → waits_at (core_of k) node (get nat_eq (core_of k).parked number) ≡ true → ⊥
  waits-nowhere none waits = (let no : false ≡ true = sym (waits-by None none) ∙ waits in cc)

  pub waits-where : (w : ParkedCall A) → get nat_eq k.calls.calls number ≡ Some w → waits_at (core_of k) node (get nat_eq (core_of k).parked number) ≡ true → list_any (λ d. is_end any_mode node ((core_of k).descriptions d)) w.kept ≡ true
  waits-where w here waits = sym (waits-by (Some w) here) ∙ waits

-- the call of the kernel that is the machine's
pub call-found : {A : Type 0} (k : Contents A) (number : ℕ) (v : Waiting A numbers) → get nat_eq (core_of k).parked number ≡ Some v → (w : ParkedCall A) × (get nat_eq k.calls.calls number ≡ Some w) × (waiting_of w ≡ v)
unfolding core_of
call-found {A = A} k number v here = by (get nat_eq k.calls.calls number) refl
  where
    by : (o : Option (ParkedCall A)) → get nat_eq k.calls.calls number ≡ o → (w : ParkedCall A) × (get nat_eq k.calls.calls number ≡ Some w) × (waiting_of w ≡ v)
    by None e = absurd (let none : None ≡ Some v = sym (ap (λ o. option_map waiting_of o) e) ∙ sym (get-parked k.calls.calls number) ∙ here in cc)
    by (Some w) e = (w, e, (let is : Some (waiting_of w) ≡ Some v = sym (ap (λ o. option_map waiting_of o) e) ∙ sym (get-parked k.calls.calls number) ∙ here in cc))

-- the number of the next call
pub next-is : {A : Type 0} (k : Contents A) → (core_of k).next_call ≡ k.calls.next
unfolding core_of
next-is k = refl

-- a call is parked where the kernel has one
pub parked-some : {A : Type 0} (k : Contents A) (number : ℕ) → is_some (get nat_eq (core_of k).parked number) ≡ is_some (get nat_eq k.calls.calls number)
unfolding core_of
parked-some k number = ap (λ o. is_some o) (get-parked k.calls.calls number) ∙ mapped waiting_of (get nat_eq k.calls.calls number)

-- what isn't parked can't be ready
pub unready : {A : Type 0} (k : Contents A) (number : ℕ) → get nat_eq k.calls.calls number ≡ None → is_ready (core_of k) number ≡ false
unready k number none = ap (λ b. b && can_progress (core_of k) number) (parked-some k number ∙ ap (λ o. is_some o) none)

-- where a process is: what its descriptors name, and where its calls wait
module _ {A : Type 0} (c : Core A numbers) (once : EachOnce nat_eq c.parked) (node : KeyNode numbers) (pid : ℕ) where
  -- a call of the process that waits at the node is found by its number
  found-call : (es : Map ℕ (Waiting A numbers)) → EachOnce nat_eq es → list_any (λ (e : ℕ × Waiting A numbers). nat_eq e.1.pid pid && keeps_at c node e.1) es ≡ true →
      (n : ℕ) × (v : Waiting A numbers) × (get nat_eq es n ≡ Some v) × (v.pid ≡ pid) × (keeps_at c node v ≡ true)
  found-call [] once h = absurd (cc)
  found-call (e ∷ es) once h = by (nat_eq e.1.pid pid && keeps_at c node e.1) refl h (found-call es once.1)
    where
      later : (n : ℕ) (v : Waiting A numbers) → get nat_eq es n ≡ Some v → get nat_eq (e ∷ es) n ≡ Some v
      later n v there = at (nat_eq e.0 n) refl
        where
          at : (b : Bool) → nat_eq e.0 n ≡ b → cond b (Some e.1) (get nat_eq es n) ≡ Some v
          at true is = absurd (let no : None ≡ Some v = sym once.0 ∙ ap (get nat_eq es) (eqb-true e.0 n is) ∙ there in cc)
          at false is = there

      by : (b : Bool) → (nat_eq e.1.pid pid && keeps_at c node e.1) ≡ b → (b || list_any (λ (e : ℕ × Waiting A numbers). nat_eq e.1.pid pid && keeps_at c node e.1) es) ≡ true →
          (list_any (λ (e : ℕ × Waiting A numbers). nat_eq e.1.pid pid && keeps_at c node e.1) es ≡ true → (n : ℕ) × (v : Waiting A numbers) × (get nat_eq es n ≡ Some v) × (v.pid ≡ pid) × (keeps_at c node v ≡ true)) →
          (n : ℕ) × (v : Waiting A numbers) × (get nat_eq (e ∷ es) n ≡ Some v) × (v.pid ≡ pid) × (keeps_at c node v ≡ true)
      by true is h rest = (e.0, e.1, ap (λ b. cond b (Some e.1) (get nat_eq es e.0)) (eq-eqb e.0 e.0 refl), eqb-true e.1.pid pid (and_left (nat_eq e.1.pid pid) (keeps_at c node e.1) is), and_right (nat_eq e.1.pid pid) (keeps_at c node e.1) is)
      by false is h rest = (let f = rest h in (f.0, f.1, later f.0 f.1 f.2, f.3, f.4))

  pub at-process : has_at c node pid ≡ true → (list_any (λ fd. is_at c node (c.rows pid fd)) (numbers_from (descriptor_limit c.limits) 0) ≡ true) ⊎ ((n : ℕ) × (v : Waiting A numbers) × (get nat_eq c.parked n ≡ Some v) × (v.pid ≡ pid) × (keeps_at c node v ≡ true))
  at-process h = or_elim (list_any (λ fd. is_at c node (c.rows pid fd)) (numbers_from (descriptor_limit c.limits) 0)) _ (λ e. inl e) (λ e. inr (found-call c.parked once e)) h

  pub row-below : list_any (λ fd. is_at c node (c.rows pid fd)) (numbers_from (descriptor_limit c.limits) 0) ≡ true → (fd : ℕ) × (fd < descriptor_limit c.limits) × (is_at c node (c.rows pid fd) ≡ true)
  row-below h = (let f = any_number (λ fd. is_at c node (c.rows pid fd)) (descriptor_limit c.limits) 0 h in (f.0, omega (arith, f.2), f.3))

-- What a step touches is touched, if all is that it may touch.
module _ {A : Type 0} (c : Core A numbers) (x : Step A) (w u : Waiters A) where
  pub touches-all : IsNoLess w u → TouchesAll w u (touches c x) → Touches c x w u
  touches-all less all = record { no_less = less; touched = λ node t key at some there. all node t key at there }

-- where it touches nothing, or nobody waits, nothing is to be touched
module _ {A : Type 0} (c : Core A numbers) (x : Step A) (w : Waiters A) where
  same : IsNoLess w w
  same = record { queues = λ key. refl; least_ones = refl; known = refl; more = λ key h. h }

  pub touches-nothing : ((node : KeyNode numbers) → touches c x node ≡ false) → Touches c x w w
  touches-nothing off = record { no_less = same; touched = λ node t key at some there. absurd (let no : false ≡ true = sym (off node) ∙ t in cc) }

  pub touches-nobody : ((number : ℕ) → IsSome (get nat_eq c.parked number) → ⊥) → Touches c x w w
  touches-nobody none = record { no_less = same; touched = λ node t key at some there. absurd (none key.number some) }

-- nobody waits where no call is parked
pub nobody : {A : Type 0} (k : Contents A) → length k.calls.calls ≡ 0 → (number : ℕ) → IsSome (get nat_eq (core_of k).parked number) → ⊥
unfolding core_of
nobody {A = A} k none number some = by k.calls.calls none refl
  where
    no : (o : Option (ParkedCall A)) → o ≡ None → is_some o ≡ true → ⊥
    no None e h = absurd (cc)
    no (Some w) e h = absurd (cc)

    is-there : {X : Type 0} (o : Option X) → IsSome o → is_some o ≡ true
    is-there {X = X} None h = absurd (let none : IsSome {T = X} None = h in cc)
    is-there (Some x) h = refl

    by : (es : Map ℕ (ParkedCall A)) → length es ≡ 0 → k.calls.calls ≡ es → ⊥
    by [] l is = no (get nat_eq k.calls.calls number) (ap (λ es. get nat_eq es number) is) (sym (parked-some k number) ∙ is-there (get nat_eq (core_of k).parked number) some)
    by (e ∷ es) l is = absurd (omega (arith, l))

-- a parked call of the kernel is one of the machine
pub parked-in : {A : Type 0} (k : Contents A) (number : ℕ) (w : ParkedCall A) → get nat_eq k.calls.calls number ≡ Some w → get nat_eq (core_of k).parked number ≡ Some (waiting_of w)
unfolding core_of
parked-in k number w here = get-parked k.calls.calls number ∙ ap (λ o. option_map waiting_of o) here
