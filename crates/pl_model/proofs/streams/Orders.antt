-- The parked calls are in order at the start, and under other keys.
use Rattle.std.proofs.Common.{◌≡◌, ℕ, Bool, true, false, cond, Option, nat_eq, [], ◌∷◌, refl, sym, ◌∙◌, ap, subst}
use Rattle.std.specs.Prelude.{map, option_map}
use Rattle.std.specs.declared.option.Option.TheVariants.{None, Some}
use Rattle.pl_model.specs.declared.calls.Limits.{Limits}
use Rattle.pl_model.specs.Map.{Map, get, EachOnce}
use Rattle.pl_model.specs.State.{Core, Waiting}
use Rattle.pl_model.specs.Numbered.{numbers, State, opening}
use Rattle.pl_model.specs.InOrder.{AreInOrder, HasTaken}
use Rattle.pl_model.specs.Renaming.{Renamings, rename, rename_waiting}
use Rattle.pl_model.specs.StandsFor.{StandsFor}

module _ {A : Type 0} where
  pub opening_order : (limits : Limits) → AreInOrder (opening {A = A} limits).core
  opening_order limits = record { once = tt; below = λ c w h. absurd (cc); taken = λ c w h. absurd (cc) }

  -- the order of the parked calls has no keys in it
  module _ (r : Renamings) where
    get_renamed : (es : Map ℕ (Waiting A numbers)) (c : ℕ) → get nat_eq (map (λ e. (e.0, rename_waiting r e.1)) es) c ≡ option_map (rename_waiting r) (get nat_eq es c)
    get_renamed [] c = refl
    get_renamed (e ∷ es) c = at (nat_eq e.0 c) (get_renamed es c) where
      at : (b : Bool) → get nat_eq (map (λ e. (e.0, rename_waiting r e.1)) es) c ≡ option_map (rename_waiting r) (get nat_eq es c) →
          cond b (Some (rename_waiting r e.1)) (get nat_eq (map (λ e. (e.0, rename_waiting r e.1)) es) c) ≡ option_map (rename_waiting r) (cond b (Some e.1) (get nat_eq es c))
      at true h = refl
      at false h = h

    once_renamed : (es : Map ℕ (Waiting A numbers)) → EachOnce nat_eq es → EachOnce nat_eq (map (λ e. (e.0, rename_waiting r e.1)) es)
    once_renamed [] h = tt
    once_renamed (e ∷ es) h = (get_renamed es e.0 ∙ ap (option_map (rename_waiting r)) h.0, once_renamed es h.1)

    from_renamed : (o : Option (Waiting A numbers)) (w : Waiting A numbers) → option_map (rename_waiting r) o ≡ Some w → (v : Waiting A numbers) × (o ≡ Some v) × (rename_waiting r v ≡ w)
    from_renamed None w h = absurd (cc)
    from_renamed (Some v) w h = (let same : rename_waiting r v ≡ w = cc in (v, refl, same))

    pub order_renamed : (c : Core A numbers) → AreInOrder c → AreInOrder (rename r c)
    order_renamed c o =
        record {
          once = once_renamed c.parked o.once;
          below = λ n w h. (let f = from_renamed (get nat_eq c.parked n) w (sym (get_renamed c.parked n) ∙ h) in o.below n f.0 f.1);
          taken = λ n w h. (let f = from_renamed (get nat_eq c.parked n) w (sym (get_renamed c.parked n) ∙ h) in subst (λ (z : Waiting A numbers). HasTaken z.call z.taken) f.2 (o.taken n f.0 f.1));
        }

  pub stands_order : (c : Core A numbers) (s : State A) → StandsFor c s → AreInOrder c → AreInOrder s.core
  stands_order c s stands o = subst AreInOrder stands.renamed (order_renamed stands.numbered c o)
