-- Which numbers a map has, before and after a change of it.
use Rattle.std.proofs.Common.{◌≡◌, ℕ, Bool, true, false, not, [], ◌∷◌, ◌++◌, Option, refl, sym, ◌∙◌, ap, inl, inr, nat_eq}
use Rattle.std.specs.Prelude.{◌&&◌, ◌||◌, is_some}
use Rattle.std.proofs.lemmas.Bool.Decides.{eqb_tells}
use Rattle.pl_model.specs.Map.{Map, get, without}
use Rattle.pl_numbered.proofs.Replacing.{get-without, get-without-other}
use Rattle.pl_numbered.proofs.Rising.{get_first, get_later}

module _ {X : Type 0} (m n : ℕ) where
  -- which numbers a map has once one is added or taken out
  pub has-push : (es : Map ℕ X) (x : X) → is_some (get nat_eq (es ++ (m, x) ∷ []) n) ≡ (nat_eq m n || is_some (get nat_eq es n))
  has-push [] x = elim (eqb_tells m n) as (λ _. is_some (get nat_eq ((m, x) ∷ []) n) ≡ (nat_eq m n || false)) [
    | inl t ↦ ap (λ (o : Option X). is_some o) (get_first n (m, x) [] t.1) ∙ sym (ap (λ b. b || false) t.0)
    | inr t ↦ ap (λ (o : Option X). is_some o) (get_later n (m, x) [] t.1) ∙ sym (ap (λ b. b || false) t.0)
  ]
  has-push (e ∷ es) x = elim (eqb_tells e.0 n) as (λ _. is_some (get nat_eq (e ∷ es ++ (m, x) ∷ []) n) ≡ (nat_eq m n || is_some (get nat_eq (e ∷ es) n))) [
    | inl t ↦ ap (λ (o : Option X). is_some o) (get_first n e (es ++ (m, x) ∷ []) t.1) ∙ sym (ap (λ (o : Option X). nat_eq m n || is_some o) (get_first n e es t.1) ∙ or-true (nat_eq m n))
    | inr t ↦ ap (λ (o : Option X). is_some o) (get_later n e (es ++ (m, x) ∷ []) t.1) ∙ has-push es x ∙ sym (ap (λ (o : Option X). nat_eq m n || is_some o) (get_later n e es t.1))
  ]
    where
      or-true : (b : Bool) → (b || true) ≡ true
      or-true true = refl
      or-true false = refl

  pub has-without : (es : Map ℕ X) → is_some (get nat_eq (without nat_eq es m) n) ≡ (not (nat_eq m n) && is_some (get nat_eq es n))
  has-without es = elim (eqb_tells m n) as (λ _. is_some (get nat_eq (without nat_eq es m) n) ≡ (not (nat_eq m n) && is_some (get nat_eq es n))) [
    | inl t ↦ ap (λ k. is_some (get nat_eq (without nat_eq es m) k)) (sym t.1) ∙ ap (λ (o : Option X). is_some o) (get-without m es) ∙ sym (ap (λ b. not b && is_some (get nat_eq es n)) t.0)
    | inr t ↦ ap (λ (o : Option X). is_some o) (get-without-other m n es t.1) ∙ sym (ap (λ b. not b && is_some (get nat_eq es n)) t.0)
  ]
