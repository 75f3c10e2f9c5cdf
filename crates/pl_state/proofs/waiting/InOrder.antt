-- The parked calls of a sound kernel are in order.
use Rattle.std.proofs.Common.{◌≡◌, ℕ, ◌+◌, ◌<◌, ◌≤◌, Bool, true, false, cond, Option, [], ◌∷◌, ◌++◌, refl, sym, ◌∙◌, ap, subst, nat_eq, IfSome, arith}
use Rattle.std.specs.Prelude.{option_map}
use Rattle.std.specs.declared.option.Option.TheVariants.{None, Some}
use Rattle.std.proofs.lemmas.Bool.{eq-eqb, eqb-true, ne_eqb}
use Rattle.pl_model.specs.declared.calls.Call.{Call}
use Rattle.pl_model.specs.declared.calls.Call.TheVariants as call
use Rattle.pl_model.specs.Map.{Map, get, put, EachOnce}
use Rattle.pl_model.specs.State.{Waiting}
use Rattle.pl_model.specs.Numbered.{numbers}
use Rattle.pl_model.specs.InOrder.{AreInOrder, HasTaken}
use Rattle.pl_parked.specs.declared.call.ParkedCall.{ParkedCall}
use Rattle.pl_numbered.specs.Rising.{Rise}
use Rattle.pl_state.specs.Contents.{Contents, core_of, waiting_of, parked_of}
use Rattle.pl_state.specs.Sound.{IsSound, IsWaiting, MayWait}
use Rattle.pl_state.proofs.waiting.Calls.{get-parked}
use Rattle.pl_state.proofs.holders.Holding.{absent_low}

module _ {A : Type 0} where
  rise_low : (low next : ℕ) (es : Map ℕ (ParkedCall A)) → Rise low next es → low ≤ next
  rise_low low next [] r = r
  rise_low low next (e ∷ es) r = omega (arith, r.0, rise_low (e.0 + 1) next es r.1)

  rise_below : (low next n : ℕ) (es : Map ℕ (ParkedCall A)) (w : ParkedCall A) → Rise low next es → get nat_eq es n ≡ Some w → n < next
  rise_below low next n [] w r h = absurd (cc)
  rise_below low next n (e ∷ es) w r h = at (nat_eq e.0 n) refl h (rise_below (e.0 + 1) next n es w r.1) where
    at : (b : Bool) → nat_eq e.0 n ≡ b → cond b (Some e.1) (get nat_eq es n) ≡ Some w → (get nat_eq es n ≡ Some w → n < next) → n < next
    at true i g rest = omega (arith, eqb-true e.0 n i, rise_low (e.0 + 1) next es r.1)
    at false i g rest = rest g

  pub rise_once : (low next : ℕ) (es : Map ℕ (ParkedCall A)) → Rise low next es → EachOnce nat_eq (parked_of es)
  rise_once low next [] r = tt
  rise_once low next (e ∷ es) r =
      (get-parked es e.0 ∙ ap (option_map waiting_of) (absent_low (e.0 + 1) next e.0 es r.1 (omega arith)), rise_once (e.0 + 1) next es r.1)

  -- the call of the next number stands last
  pub get_last : (low next : ℕ) (es : Map ℕ (ParkedCall A)) → Rise low next es → (w : ParkedCall A) → get nat_eq (es ++ (next, w) ∷ []) next ≡ Some w
  get_last low next [] r w = ap (λ b. cond b (Some w) None) (eq-eqb next next refl)
  get_last low next (e ∷ es) r w = let below = rise_low (e.0 + 1) next es r.1 in
      ap (λ b. cond b (Some e.1) (get nat_eq (es ++ (next, w) ∷ []) next)) (ne_eqb e.0 next (λ same. omega (arith, same, below))) ∙ get_last (e.0 + 1) next es r.1 w

  pub put_last : (low next : ℕ) (es : Map ℕ (ParkedCall A)) → Rise low next es → (w v : ParkedCall A) → put nat_eq (es ++ (next, w) ∷ []) next v ≡ es ++ (next, v) ∷ []
  put_last low next [] r w v = ap (λ b. cond b ((next, v) ∷ []) ((next, w) ∷ put nat_eq [] next v)) (eq-eqb next next refl)
  put_last low next (e ∷ es) r w v = let below = rise_low (e.0 + 1) next es r.1 in
      ap (λ b. cond b ((next, v) ∷ es ++ (next, w) ∷ []) (e ∷ put nat_eq (es ++ (next, w) ∷ []) next v)) (ne_eqb e.0 next (λ same. omega (arith, same, below)))
      ∙ ap (λ ys. e ∷ ys) (put_last (e.0 + 1) next es r.1 w v)

  may_has : (x : Call A) (t : ℕ) → MayWait x t → HasTaken x t
  may_has (call.Write fd bytes) t h = (let left = h.0 in omega (arith, left), h.1)
  may_has x t h = tt

  from_parked : (o : Option (ParkedCall A)) (w : Waiting A numbers) → option_map waiting_of o ≡ Some w → (v : ParkedCall A) × (o ≡ Some v) × (waiting_of v ≡ w)
  from_parked None w h = absurd (cc)
  from_parked (Some v) w h = (let same : waiting_of v ≡ w = cc in (v, refl, same))

  pub order_of : (k : Contents A) → IsSound A k → AreInOrder (core_of k)
  unfolding core_of
  order_of k sound =
      record {
        once = rise_once 0 k.calls.next k.calls.calls sound.rise;
        below = λ n w h. (let f = from_parked (get nat_eq k.calls.calls n) w (sym (get-parked k.calls.calls n) ∙ h) in rise_below 0 k.calls.next n k.calls.calls f.0 sound.rise f.1);
        taken = λ n w h.
            (let f = from_parked (get nat_eq k.calls.calls n) w (sym (get-parked k.calls.calls n) ∙ h) in
            let waits : IsWaiting A f.0 = subst (λ o. IfSome o (IsWaiting A)) f.1 (sound.waiting n) in
            subst (λ (z : Waiting A numbers). HasTaken z.call z.taken) f.2 (may_has f.0.call f.0.taken waits.may));
      }
