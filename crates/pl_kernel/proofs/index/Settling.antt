-- What the index knows as a touched node is asked.
use Rattle.std.proofs.Common.{◌≡◌, ◌≢◌, ℕ, ◌<◌, ◌≤◌, ◌^◌, Bool, true, false, Option, inl, inr, refl, sym, ◌∙◌, ap, subst, nat_eq, arith}
use Rattle.std.specs.Prelude.{IsSome, if◌then◌else◌}
use Rattle.std.specs.declared.option.Option.TheVariants.{None, Some}
use Rattle.std.proofs.lemmas.Bool.{eq-eqb, eqb-true}
use Rattle.std.proofs.lemmas.Bool.Decides.{nat_tests}
use Rattle.pl_model.specs.Map.{get}
use Rattle.pl_model.specs.State.{Core}
use Rattle.pl_model.specs.Numbered.{numbers}
use Rattle.pl_model.specs.Waking.{can_progress}
use Rattle.pl_least.specs.Numbers.{number_at}
use Rattle.pl_waiters.specs.declared.waiter.Waiter.{Waiter}
use Rattle.pl_waiters.specs.declared.waiters.Waiters.{Waiters}
use Rattle.pl_waiters.specs.Marks.{is_marked}
use Rattle.pl_waiters.specs.Queue.{waiter}
use Rattle.pl_waiters.specs.Seen.{stands, is_touched, least, SameQueues, SameLeast, SameTouched, SameKnown}
use Rattle.pl_kernel.specs.Queues.{is_polls}
use Rattle.pl_kernel.specs.Asking.{AreUnderstood, Prunes, Covers}
use Rattle.pl_kernel.specs.Index.{is_open, IsUpBut, Knows, KnowsBut}
use Rattle.pl_kernel.proofs.index.Opening.{open-call, open-parked}

module _ {A : Type 0} (c : Core A numbers) where
  -- What is known goes over to other queues in which the same calls stand that wait, where what was up is up.
  module _ (a b : Waiters A) (old new : Option ℕ) (fewer : (key : Waiter) → stands b key ≡ true → stands a key ≡ true) (more : (key : Waiter) → IsSome (get nat_eq c.parked key.number) → stands a key ≡ true → stands b key ≡ true) (same : SameKnown a b)
      (up : (key number : ℕ) → IsUpBut a old key number → IsUpBut b new key number) where
    pub goes-over : KnowsBut c a old → KnowsBut c b new
    goes-over k = record {
      coming = subst (λ n. n ≤ c.next_call) (sym same) k.coming;
      placed = λ key v here low in_it. more key (subst (λ o. IsSome o) (sym here) refl) (k.placed key v here (subst (λ n. key.number < n) same low) in_it);
      whole = λ number v here low. k.whole number v here (subst (λ n. number < n) same low);
      polled = λ key is_poll there opens. up key.node key.number (k.polled key is_poll (fewer key there) opens);
      told = λ key no_poll there opens low. (let s = k.told key no_poll (fewer key there) opens (subst (λ n. key.number < n) same low) in
          let some : IsSome (get nat_eq c.parked s.key.number) = subst (λ n. IsSome (get nat_eq c.parked n)) (sym s.of_it) (subst (λ o. IsSome o) (sym (open-parked c key opens).1) refl) in
          record { key = s.key; of_it = s.of_it; no_poll = s.no_poll; there = more s.key some s.there; up = up s.key.node key.number s.up });
      right = λ key there v here. k.right key (fewer key there) v here;
      given = λ key there. k.given key (fewer key there);
    }

  -- What is known stays known where no node is touched any more, and none was.
  pub knows-none : (a b : Waiters A) → SameQueues a b → ((node : ℕ) → is_touched a node ≡ false) → SameLeast a b → SameKnown a b → Knows c a → Knows c b
  knows-none a b queues off same known k = goes-over a b None None (λ key there. sym (queues key) ∙ there) (λ key some there. queues key ∙ there) known up k
    where
      up : (key number : ℕ) → IsUpBut a None key number → IsUpBut b None key number
      up key number (inl at) = inl at
      up key number (inr (inl touched)) = absurd (let no : false ≡ true = sym (off key) ∙ touched in cc)
      up key number (inr (inr found)) = inr (inr (found.0, ap (λ l. number_at l key) same ∙ found.1, found.2))

  same_key : (a b : ℕ) → nat_eq a b ≡ false → a ≢ b
  same_key a b h = grind (arith, nat_tests, h)

  -- A node is taken out of those that are to be asked: but for its calls all are up that were.
  pub taken-out : (a b : Waiters A) (node : ℕ) → SameQueues a b → ((other : ℕ) → other ≢ node → is_touched b other ≡ is_touched a other) → SameLeast a b → SameKnown a b → Knows c a → KnowsBut c b (Some node)
  taken-out a b node queues others same known k = goes-over a b None (Some node) (λ key there. sym (queues key) ∙ there) (λ key some there. queues key ∙ there) known (λ key number h. up key number (nat_eq key node) refl h) k
    where
      up : (key number : ℕ) (t : Bool) → nat_eq key node ≡ t → IsUpBut a None key number → IsUpBut b (Some node) key number
      up key number t is (inl at) = absurd (cc)
      up key number true is (inr h) = inl (ap (λ n. Some n) (sym (eqb-true key node is)))
      up key number false is (inr (inl touched)) = inr (inl (others key (same_key key node is) ∙ touched))
      up key number false is (inr (inr found)) = inr (inr (found.0, ap (λ l. number_at l key) same ∙ found.1, found.2))

  -- calls that ended are taken out of their queues
  pub pruned : (a b : Waiters A) (hole : Option ℕ) → Prunes c a b → KnowsBut c a hole → KnowsBut c b hole
  pruned a b hole p = goes-over a b hole hole p.fewer p.kept p.known up
    where
      up : (key number : ℕ) → IsUpBut a hole key number → IsUpBut b hole key number
      up key number (inl at) = inl at
      up key number (inr (inl touched)) = inr (inl (ap (λ m. is_marked m key) p.touched ∙ touched))
      up key number (inr (inr found)) = inr (inr (found.0, ap (λ l. number_at l key) p.least_ones ∙ found.1, found.2))

  pub pruned-knows : (a b : Waiters A) → Prunes c a b → Knows c a → Knows c b
  pruned-knows a b p k = pruned a b None p k

  -- The least number of those at the node that can get on is noted: then all calls are up again.
  module _ (a b : Waiters A) (u : AreUnderstood c a) (node : ℕ) (found : Option ℕ) (k : KnowsBut c a (Some node)) (covers : (queue : ℕ) → queue < 2 ^ 64 → Covers c a node queue 0 found)
      (queues : SameQueues a b) (touched : SameTouched a b) (known : SameKnown a b) (noted : (other : ℕ) → least b other ≡ (if nat_eq other node then found else least a other)) where
    noted-here : (key : ℕ) → key ≡ node → least b key ≡ found
    noted-here key is = noted key ∙ ap (λ t. if t then found else least a key) (eq-eqb key node is)

    noted-there : (key : ℕ) → nat_eq key node ≡ false → least b key ≡ least a key
    noted-there key is = noted key ∙ ap (λ t. if t then found else least a key) is

    -- an open call at the node was covered
    at-node : (key : Waiter) → stands a key ≡ true → is_open c key ≡ true → key.node ≡ node → IsUpBut b None key.node key.number
    at-node key there opens is =
        let low = u.below key.number (u.sound key there opens) in
        let some : IsSome (get nat_eq c.parked key.number) = subst (λ o. IsSome o) (sym (open-parked c key opens).1) refl in
        let n = covers key.queue (u.fits key there some) key.number (omega arith) (omega (arith, low)) (subst (λ n. stands a (waiter n key.queue key.number) ≡ true) is there) (subst (λ n. is_open c (waiter n key.queue key.number) ≡ true) is opens) in
        inr (inr (n.0, noted-here key.node is ∙ n.1, n.2))

    up : (key : Waiter) → stands a key ≡ true → is_open c key ≡ true → (t : Bool) → nat_eq key.node node ≡ t → IsUpBut a (Some node) key.node key.number → IsUpBut b None key.node key.number
    up key there opens true is h = at-node key there opens (eqb-true key.node node is)
    up key there opens false is (inl at) = absurd (same_key key.node node is (let e : node ≡ key.node = cc in sym e))
    up key there opens false is (inr (inl t)) = inr (inl (ap (λ m. is_marked m key.node) touched ∙ t))
    up key there opens false is (inr (inr f)) = inr (inr (f.0, noted-there key.node is ∙ f.1, f.2))

    -- a call that stands elsewhere too, and is no poll, is open there
    open-too : (key : Waiter) → is_polls key.queue ≡ false → is_open c key ≡ true → (other : Waiter) → is_polls other.queue ≡ false → other.number ≡ key.number → is_open c other ≡ true
    open-too key no_poll opens other off is =
        let v = open-parked c key opens in
        open-call c other v.0 (ap (get nat_eq c.parked) is ∙ v.1) off ∙ ap (can_progress c) is ∙ sym (open-call c key v.0 v.1 no_poll) ∙ opens

    pub filled : Knows c b
    filled = record {
      coming = subst (λ n. n ≤ c.next_call) (sym known) k.coming;
      placed = λ key v here low in_it. queues key ∙ k.placed key v here (subst (λ n. key.number < n) known low) in_it;
      whole = λ number v here low. k.whole number v here (subst (λ n. number < n) known low);
      polled = λ key is_poll there opens.
          let before = sym (queues key) ∙ there in
          up key before opens (nat_eq key.node node) refl (k.polled key is_poll before opens);
      told = λ key no_poll there opens low.
          let s = k.told key no_poll (sym (queues key) ∙ there) opens (subst (λ n. key.number < n) known low) in
          let now : IsUpBut b None s.key.node s.key.number = up s.key s.there (open-too key no_poll opens s.key s.no_poll s.of_it) (nat_eq s.key.node node) refl (subst (IsUpBut a (Some node) s.key.node) (sym s.of_it) s.up) in
          record { key = s.key; of_it = s.of_it; no_poll = s.no_poll; there = queues s.key ∙ s.there; up = subst (IsUpBut b None s.key.node) s.of_it now };
      right = λ key there v here. k.right key (sym (queues key) ∙ there) v here;
      given = λ key there. k.given key (sym (queues key) ∙ there);
    }

  -- what is understood stays so where calls that ended are taken out
  pub understood-fewer : (a b : Waiters A) → ((key : Waiter) → stands b key ≡ true → stands a key ≡ true) → ((key : Waiter) → IsSome (get nat_eq c.parked key.number) → stands a key ≡ true → stands b key ≡ true) → b.looked ≡ a.looked →
      AreUnderstood c a → AreUnderstood c b
  understood-fewer a b fewer more looked u = record {
    alike = λ at one other x y apart up down there_x there_y some stuck. u.alike at one other x y apart up down (fewer (waiter at one x) there_x) (fewer (waiter at other y) there_y) some stuck;
    sound = λ key there opens. u.sound key (fewer key there) opens;
    some = λ n ready low. (let s = u.some n ready (subst (λ l. n < l) looked low) in (s.0, s.1, more s.0 (subst (λ o. IsSome o) (sym (open-parked c s.0 s.3).1) refl) s.2, s.3));
    there = λ key there some is_poll high. u.there key (fewer key there) some is_poll high;
    fits = λ key there some. u.fits key (fewer key there) some;
    below = u.below;
  }
