-- The least of all calls that can get on, by the least numbers of the nodes.
use Rattle.std.proofs.Common.{◌≡◌, ℕ, ◌<◌, ◌≤◌, Bool, true, false, Option, inl, inr, ⊎_elim, refl, sym, ◌∙◌, ap, subst, nat_eq, max, arith}
use Rattle.std.specs.Prelude.{IfSome, IsSome}
use Rattle.std.specs.declared.option.Option.TheVariants.{None, Some}
use Rattle.pl_model.specs.Map.{get}
use Rattle.pl_model.specs.State.{Core}
use Rattle.pl_model.specs.Numbered.{numbers}
use Rattle.pl_model.specs.Waking.{can_progress}
use Rattle.pl_waiters.specs.declared.waiter.Waiter.{Waiter}
use Rattle.pl_waiters.specs.declared.waiters.Waiters.{Waiters}
use Rattle.pl_waiters.specs.Seen.{stands, is_touched, least, IsFirst}
use Rattle.pl_kernel.specs.Progress.{is_ready, IsLeastFrom}
use Rattle.pl_kernel.specs.Queues.{is_polls}
use Rattle.pl_kernel.specs.Index.{is_open, IsUpBut, Knows}
use Rattle.pl_kernel.specs.Asking.{AreUnderstood, CoversNode, FindsBelow}
use Rattle.pl_kernel.proofs.NextReady.{sides}
use Rattle.pl_kernel.proofs.index.Opening.{open-call, open-parked, ready-parked, ready-is}

module _ {A : Type 0} (c : Core A numbers) (w : Waiters A) (u : AreUnderstood c w) (k : Knows c w) (settled : (node : ℕ) → is_touched w node ≡ false) where
  -- A call that can get on is open in a queue at whose node a call was found with its number, or a lesser one.
  pub record IsFoundAt (n : ℕ) : Type 0 where
    pub key : Waiter
    pub of_it : key.number ≡ n
    pub there : stands w key ≡ true
    pub opens : is_open c key ≡ true
    pub m : ℕ
    pub here : least w key.node ≡ Some m
    pub most : m ≤ n

  found-at : (n : ℕ) → n < w.looked → is_ready c n ≡ true → IsFoundAt n
  found-at n low r = (let s = u.some n r low in by s.0 s.1 s.2 s.3 (is_polls s.0.queue) refl)
    where
      up : (key : Waiter) → key.number ≡ n → stands w key ≡ true → is_open c key ≡ true → IsUpBut w None key.node n → IsFoundAt n
      up key is there opens (inl at) = absurd (cc)
      up key is there opens (inr (inl touched)) = absurd (let no : false ≡ true = sym (settled key.node) ∙ touched in cc)
      up key is there opens (inr (inr f)) = record { key = key; of_it = is; there = there; opens = opens; m = f.0; here = f.1; most = f.2 }

      by : (key : Waiter) → key.number ≡ n → stands w key ≡ true → is_open c key ≡ true → (t : Bool) → is_polls key.queue ≡ t → IsFoundAt n
      by key is there opens true is_poll = up key is there opens (subst (IsUpBut w None key.node) is (k.polled key is_poll there opens))
      by key is there opens false no_poll =
          let s = k.told key no_poll there opens (subst (λ m. m < w.looked) (sym is) low) in
          let v = ready-parked c n r in
          let of_it : s.key.number ≡ n = s.of_it ∙ is in
          let opens : is_open c s.key ≡ true = open-call c s.key v.0 (ap (get nat_eq c.parked) of_it ∙ v.1) s.no_poll ∙ ap (can_progress c) of_it ∙ sym (ready-is c n v.0 v.1) ∙ r in
          up s.key of_it s.there opens (subst (IsUpBut w None s.key.node) is s.up)

  pub nothing : ((key : ℕ) → least w key ≡ None) → FindsBelow c 0 w.looked None
  nothing none = record { some = tt; most = λ n on low r. absurd (let f = found-at n low r in let no : None ≡ Some f.m = sym (none f.key.node) ∙ f.here in cc) }

  pub it-is : (node number : ℕ) → IsFirst w node → least w node ≡ Some number → is_ready c number ≡ true → FindsBelow c 0 w.looked (Some number)
  it-is node number first here r = record {
    some = (omega arith, r);
    most = λ n on low ready.
        let same : first.number ≡ number = (let e : Some first.number ≡ Some number = sym first.here ∙ here in cc) in
        let f = found-at n low ready in
        let m = first.first f.key.node f.m f.here in
        let b = f.most in
        (number, refl, omega (arith, same, m, b));
  }

  -- The least of what was found from a number on, at each node where a call was found before.
  module _ (from : ℕ) (found : Option ℕ) (covers : (key : ℕ) → CoversNode c w key from found) where
    at_most : (n : ℕ) → from ≤ n → n < w.looked → is_ready c n ≡ true → (m : ℕ) × (found ≡ Some m) × (m ≤ n)
    at_most n l below r =
        let f = found-at n below r in
        let low = u.below n r in
        let some : IsSome (get nat_eq c.parked f.key.number) = subst (λ o. IsSome o) (sym (open-parked c f.key f.opens).1) refl in
        let of_it = f.of_it in
        let m = covers f.key.node f.m f.here f.key.queue (u.fits f.key f.there some) f.key.number (omega (arith, l, of_it)) (omega (arith, low, of_it)) f.there f.opens in
        let most = m.2 in
        (m.0, m.1, omega (arith, most, of_it))

    pub least-from : IfSome found (λ n. (from ≤ n) × (is_ready c n ≡ true)) → FindsBelow c from w.looked found
    least-from some = record { some = some; most = at_most }

module _ {A : Type 0} (c : Core A numbers) where
  -- the least of all is at most any
  pub least-below : (from looked : ℕ) (found : Option ℕ) → IsLeastFrom (is_ready c) from found → FindsBelow c from looked found
  least-below from looked None is = record { some = tt; most = λ n on low r. absurd (let no : false ≡ true = sym (is n on) ∙ r in cc) }
  least-below from looked (Some m) is = record { some = (is.0, is.1); most = λ n on low r. (m, refl, is.2 n on r) }

  -- What was found below a number is the least of all.
  pub least-found : (from looked number : ℕ) → number < looked → FindsBelow c from looked (Some number) → IsLeastFrom (is_ready c) from (Some number)
  least-found from looked number low f = (
    f.some.0,
    f.some.1,
    λ other on r. ⊎_elim
        (λ early. (let m = f.most other on early r in let e : Some number ≡ Some m.0 = m.1 in let same : number ≡ m.0 = cc in let most = m.2 in omega (arith, same, most)))
        (λ late. omega (arith, low, late))
        (sides other looked),
  )

  -- Where none was found below it, the least of those from there on is the least of all.
  module _ (from looked : ℕ) (found : Option ℕ) (f : FindsBelow c from looked found) (late : (number : ℕ) → found ≡ Some number → looked ≤ number) where
    none-below : (n : ℕ) → from ≤ n → n < looked → is_ready c n ≡ true → ⊥
    none-below n on low r = (let m = f.most n on low r in let l = late m.0 m.1 in let most = m.2 in omega (arith, l, most, low))

    later : (n : ℕ) → from ≤ n → is_ready c n ≡ true → max from looked ≤ n
    later n on r = ⊎_elim (λ early. absurd (none-below n on early r)) (λ on_or_after. grind (arith, on, on_or_after)) (sides n looked)

    pub least-rest : (rest : Option ℕ) → IsLeastFrom (is_ready c) (max from looked) rest → IsLeastFrom (is_ready c) from rest
    least-rest None is = λ other on. none other on (is_ready c other) refl
      where
        none : (other : ℕ) → from ≤ other → (b : Bool) → is_ready c other ≡ b → b ≡ false
        none other on false r = refl
        none other on true r = absurd (let no : false ≡ true = sym (is other (later other on r)) ∙ r in cc)
    least-rest (Some m) is = ((let l = is.0 in grind (arith, l)), is.1, λ other on r. is.2 other (later other on r) r)
