-- What the index knows as a call is placed in its queues.
use Rattle.std.proofs.Common.{◌≡◌, ℕ, ◌+◌, ◌<◌, ◌≤◌, Bool, true, false, List, [], ◌++◌, inl, inr, ⊎_elim, refl, sym, ◌∙◌, ap, subst, nat_eq, arith}
use Rattle.std.specs.Prelude.{◌⊎◌, IsSome}
use Rattle.std.specs.declared.option.Option.TheVariants.{None, Some}
use Rattle.pl_model.specs.Map.{get}
use Rattle.pl_model.specs.State.{Core, Waiting}
use Rattle.pl_model.specs.Numbered.{numbers}
use Rattle.pl_model.proofs.settling.Members.{or_left, or_right, or_elim}
use Rattle.pl_least.specs.Numbers.{number_at}
use Rattle.pl_waiters.specs.declared.waiter.Waiter.{Waiter}
use Rattle.pl_waiters.specs.declared.waiters.Waiters.{Waiters}
use Rattle.pl_waiters.specs.Marks.{is_marked}
use Rattle.pl_waiters.specs.Seen.{stands, SameQueues, SameTouched, SameLeast}
use Rattle.pl_kernel.specs.Queues.{ends, places, is_place, is_placed, is_polls}
use Rattle.pl_kernel.specs.Index.{is_open, IsIn, IsUpBut, IsUpSomewhere, Knows, Adds}
use Rattle.pl_kernel.proofs.NextReady.{sides}
use Rattle.pl_kernel.proofs.index.Opening.{open-parked}
use Rattle.pl_kernel.proofs.index.Places.{places-apart}

module _ {A : Type 0} (c : Core A numbers) (number : ℕ) where
  -- the call is placed nowhere
  pub adds_none : (w : Waiters A) (done : Bool) → Adds c w w number [] done
  adds_none w done = record {
    looked = refl;
    least_ones = λ node. refl;
    more = λ key h. h;
    kept = λ key some there. there;
    only = λ key there. inl there;
    added = λ d key is h. absurd (cc);
  }

  -- where it isn't done, nothing is claimed of the places
  no : false ≡ true → ⊥
  no e = cc

  pub adds_nothing : (w : Waiters A) (ps : List (ℕ × ℕ)) → Adds c w w number ps false
  adds_nothing w ps = record {
    looked = refl;
    least_ones = λ node. refl;
    more = λ key h. h;
    kept = λ key some there. there;
    only = λ key there. inl there;
    added = λ d key is h. absurd (no d);
  }

  -- it ended at the first of them
  pub adds_short : (w u : Waiters A) (ps qs : List (ℕ × ℕ)) → Adds c w u number ps false → Adds c w u number (ps ++ qs) false
  adds_short w u ps qs a = record {
    looked = a.looked;
    least_ones = a.least_ones;
    more = a.more;
    kept = a.kept;
    only = λ key there. ⊎_elim (λ old. inl old) (λ n. inr (n.0, places-apart ps qs key.node key.queue ∙ or_left (is_place ps key.node key.queue) (is_place qs key.node key.queue) n.1, n.2)) (a.only key there);
    added = λ d key is h. absurd (no d);
  }

  pub adds_then : (w v u : Waiters A) (ps qs : List (ℕ × ℕ)) (done : Bool) → IsSome (get nat_eq c.parked number) → Adds c w v number ps true → Adds c v u number qs done → Adds c w u number (ps ++ qs) done
  adds_then w v u ps qs done parked first second = record {
    looked = second.looked ∙ first.looked;
    least_ones = λ node. second.least_ones node ∙ first.least_ones node;
    more = λ key h. second.more key (first.more key h);
    kept = λ key some there. second.kept key some (first.kept key some there);
    only = λ key there. ⊎_elim
        (λ was. ⊎_elim (λ old. inl old) (λ n. inr (n.0, places-apart ps qs key.node key.queue ∙ or_left (is_place ps key.node key.queue) (is_place qs key.node key.queue) n.1, second.more key.node n.2)) (first.only key was))
        (λ n. inr (n.0, places-apart ps qs key.node key.queue ∙ or_right (is_place ps key.node key.queue) (is_place qs key.node key.queue) n.1, n.2))
        (second.only key there);
    added = λ d key is h. or_elim (is_place ps key.node key.queue) (is_place qs key.node key.queue)
        (λ f. (let a = first.added refl key is f in (second.kept key (subst (λ n. IsSome (get nat_eq c.parked n)) (sym is) parked) a.0, second.more key.node a.1)))
        (λ r. second.added d key is r)
        (sym (places-apart ps qs key.node key.queue) ∙ h);
  }

-- The first call that wasn't looked at is placed, in some of its queues at least.
module _ {A : Type 0} (c : Core A numbers) (w p : Waiters A) (knows : Knows c w) (number : ℕ) (v : Waiting A numbers) (here : get nat_eq c.parked number ≡ Some v)
    (low : number < c.next_call) (from : w.looked ≤ number) (done : Bool) (adds : Adds c w p number (places v.call (ends c v.kept)) done) where
  up_to : (key n : ℕ) → IsUpBut w None key n → IsUpBut p None key n
  up_to key n (inl at) = inl at
  up_to key n (inr (inl t)) = inr (inl (adds.more key t))
  up_to key n (inr (inr f)) = inr (inr (f.0, adds.least_ones key ∙ f.1, f.2))

  -- what is parked under its number is it
  same : (n : ℕ) (z : Waiting A numbers) → get nat_eq c.parked n ≡ Some z → n ≡ number → v ≡ z
  same n z there is = (let e : Some v ≡ Some z = sym here ∙ ap (get nat_eq c.parked) (sym is) ∙ there in cc)

  before : (n : ℕ) → n < p.looked → n < w.looked
  before n below = subst (λ l. n < l) adds.looked below

  told_to : (key : Waiter) → is_polls key.queue ≡ false → stands p key ≡ true → is_open c key ≡ true → key.number < p.looked → IsUpSomewhere p None key.number
  told_to key no_poll there opens below = ⊎_elim
      (λ old. (let s = knows.told key no_poll old opens (before key.number below) in
      let some : IsSome (get nat_eq c.parked s.key.number) = subst (λ n. IsSome (get nat_eq c.parked n)) (sym s.of_it) (subst (λ o. IsSome o) (sym (open-parked c key opens).1) refl) in
      record { key = s.key; of_it = s.of_it; no_poll = s.no_poll; there = adds.kept s.key some s.there; up = up_to s.key.node key.number s.up }))
      (λ n. record { key = key; of_it = refl; no_poll = no_poll; there = there; up = inr (inl n.2) })
      (adds.only key there)

  pub tried-at : Knows c p
  tried-at = record {
    coming = subst (λ l. l ≤ c.next_call) (sym adds.looked) knows.coming;
    placed = λ key z there below in_it. adds.kept key (subst (λ o. IsSome o) (sym there) refl) (knows.placed key z there (before key.number below) in_it);
    whole = λ n z there below. knows.whole n z there (before n below);
    polled = λ key is_poll there opens. ⊎_elim (λ old. up_to key.node key.number (knows.polled key is_poll old opens)) (λ n. inr (inl n.2)) (adds.only key there);
    told = told_to;
    right = λ key there z is. ⊎_elim (λ old. knows.right key old z is) (λ n. subst (IsIn c key) (same key.number z is n.0) n.1) (adds.only key there);
    given = λ key there. ⊎_elim (λ old. knows.given key old) (λ n. (let e = n.0 in omega (arith, e, low))) (adds.only key there);
  }

  -- It was placed in all, and so was looked at.
  module _ (u : Waiters A) (is_done : done ≡ true) (whole : is_placed v.call (ends c v.kept) ≡ true) (first : (other : ℕ) (z : Waiting A numbers) → w.looked ≤ other → get nat_eq c.parked other ≡ Some z → number ≤ other)
      (queues : SameQueues p u) (touched : SameTouched p u) (least_ones : SameLeast p u) (looked : u.looked ≡ number + 1) where
    up : (key n : ℕ) → IsUpBut p None key n → IsUpBut u None key n
    up key n (inl at) = inl at
    up key n (inr (inl t)) = inr (inl (ap (λ m. is_marked m key) touched ∙ t))
    up key n (inr (inr f)) = inr (inr (f.0, ap (λ l. number_at l key) least_ones ∙ f.1, f.2))

    -- what was looked at was so before, or is it
    which : (n : ℕ) (z : Waiting A numbers) → get nat_eq c.parked n ≡ Some z → n < u.looked → (n < p.looked) ⊎ (n ≡ number)
    which n z there below = ⊎_elim (λ early. inl (subst (λ l. n < l) (sym adds.looked) early)) (λ late. inr (let up = first n z late there in omega (arith, up, below, looked))) (sides n w.looked)

    placed_on : (key : Waiter) (z : Waiting A numbers) → get nat_eq c.parked key.number ≡ Some z → key.number < u.looked → IsIn c key z → stands u key ≡ true
    placed_on key z there below in_it = ⊎_elim
        (λ early. queues key ∙ tried-at.placed key z there early in_it)
        (λ is. queues key ∙ (adds.added is_done key is (subst (IsIn c key) (sym (same key.number z there is)) in_it)).0)
        (which key.number z there below)

    whole_on : (n : ℕ) (z : Waiting A numbers) → get nat_eq c.parked n ≡ Some z → n < u.looked → is_placed z.call (ends c z.kept) ≡ true
    whole_on n z there below = ⊎_elim
        (λ early. tried-at.whole n z there early)
        (λ is. subst (λ (y : Waiting A numbers). is_placed y.call (ends c y.kept) ≡ true) (same n z there is) whole)
        (which n z there below)

    told_on : (key : Waiter) → is_polls key.queue ≡ false → stands u key ≡ true → is_open c key ≡ true → key.number < u.looked → IsUpSomewhere u None key.number
    told_on key no_poll there opens below =
        let z = open-parked c key opens in
        let was : stands p key ≡ true = sym (queues key) ∙ there in
        ⊎_elim
        (λ early. (let s = tried-at.told key no_poll was opens early in record { key = s.key; of_it = s.of_it; no_poll = s.no_poll; there = queues s.key ∙ s.there; up = up s.key.node key.number s.up }))
        (λ is. (let a = adds.added is_done key is (subst (IsIn c key) (sym (same key.number z.0 z.1 is)) (tried-at.right key was z.0 z.1)) in
        record { key = key; of_it = refl; no_poll = no_poll; there = there; up = up key.node key.number (inr (inl a.1)) }))
        (which key.number z.0 z.1 below)

    pub looked-at : Knows c u
    looked-at = record {
      coming = omega (arith, looked, low);
      placed = placed_on;
      whole = whole_on;
      polled = λ key is_poll there opens. up key.node key.number (tried-at.polled key is_poll (sym (queues key) ∙ there) opens);
      told = told_on;
      right = λ key there z is. tried-at.right key (sym (queues key) ∙ there) z is;
      given = λ key there. tried-at.given key (sym (queues key) ∙ there);
    }

-- All were looked at, up to a number: none waits that wasn't.
pub looked-on : {A : Type 0} (c : Core A numbers) (w u : Waiters A) → Knows c w → SameQueues w u → SameTouched w u → SameLeast w u → u.looked ≤ c.next_call
    → ((number : ℕ) (v : Waiting A numbers) → get nat_eq c.parked number ≡ Some v → w.looked ≤ number → ⊥) → Knows c u
looked-on {A = A} c w u knows queues touched least_ones coming none = record {
  coming = coming;
  placed = λ key v here low in_it. queues key ∙ knows.placed key v here (was key.number v here) in_it;
  whole = λ number v here low. knows.whole number v here (was number v here);
  polled = λ key is_poll there opens. up_on key.node key.number (knows.polled key is_poll (sym (queues key) ∙ there) opens);
  told = λ key no_poll there opens low. (let v = open-parked c key opens in
      let s = knows.told key no_poll (sym (queues key) ∙ there) opens (was key.number v.0 v.1) in
      record { key = s.key; of_it = s.of_it; no_poll = s.no_poll; there = queues s.key ∙ s.there; up = up_on s.key.node key.number s.up });
  right = λ key there v here. knows.right key (sym (queues key) ∙ there) v here;
  given = λ key there. knows.given key (sym (queues key) ∙ there);
}
  where
    was : (number : ℕ) (v : Waiting A numbers) → get nat_eq c.parked number ≡ Some v → number < w.looked
    was number v here = ⊎_elim (λ early. early) (λ late. absurd (none number v here late)) (sides number w.looked)

    up_on : (key n : ℕ) → IsUpBut w None key n → IsUpBut u None key n
    up_on key n (inl at) = inl at
    up_on key n (inr (inl t)) = inr (inl (ap (λ m. is_marked m key) touched ∙ t))
    up_on key n (inr (inr f)) = inr (inr (f.0, ap (λ l. number_at l key) least_ones ∙ f.1, f.2))

-- where no call was looked at, and none is in a queue, all is known
pub knows-nothing : {A : Type 0} (c : Core A numbers) (u : Waiters A) → ((key : Waiter) → stands u key ≡ false) → u.looked ≡ 0 → Knows c u
knows-nothing c u none looked = record {
  coming = omega (arith, looked);
  placed = λ key v here low in_it. absurd (omega (arith, low, looked));
  whole = λ number v here low. absurd (omega (arith, low, looked));
  polled = λ key is_poll there opens. absurd (nobody key there);
  told = λ key no_poll there opens low. absurd (nobody key there);
  right = λ key there v here. absurd (nobody key there);
  given = λ key there. absurd (nobody key there);
}
  where
    nobody : (key : Waiter) → stands u key ≡ true → ⊥
    nobody key there = (let e : false ≡ true = sym (none key) ∙ there in cc)
