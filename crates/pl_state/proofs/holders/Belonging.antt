-- Whose calls wait, where the processes are others.
use Rattle.std.proofs.Common.{◌≡◌, ℕ, Bool, true, false, Option, None, Some, refl, sym, ap, subst, inl, inr, nat_eq, ◌∙◌}
use Rattle.std.specs.Prelude.{IfSome, IsTrue, if◌then◌else◌}
use Rattle.std.proofs.lemmas.Bool.Decides.{eqb_tells}
use Rattle.pl_model.specs.Map.{Map, get, set_at}
use Rattle.pl_parked.specs.declared.call.ParkedCall.{ParkedCall}
use Rattle.pl_state.specs.Sound.{Belong}

-- what follows of what is there
pub if_some : {X : Type 0} (P Q : X → Type 0) (o : Option X) → ((x : X) → P x → Q x) → IfSome o P → IfSome o Q
if_some P Q None f h = h
if_some P Q (Some x) f h = f x h

-- and of what is there and has another property
if_both : {X : Type 0} (P Q R : X → Type 0) (o : Option X) → ((x : X) → P x → Q x → R x) → IfSome o P → IfSome o Q → IfSome o R
if_both P Q R None f h k = h
if_both P Q R (Some x) f h k = f x h k

module _ {A : Type 0} (calls : Map ℕ (ParkedCall A)) (old new : ℕ → Bool) (belong : Belong calls old) where
  pub belong-same : new ≡ old → Belong calls new
  belong-same same = subst (Belong calls) (sym same) belong

  -- there is one process more
  pub belong-more : (pid : ℕ) → new ≡ set_at nat_eq old pid true → Belong calls new
  belong-more pid more number = if_some (λ w. IsTrue (old w.pid)) (λ w. IsTrue (new w.pid)) (get nat_eq calls number) (λ w h. (λ i. more i w.pid) ∙ either (nat_eq pid w.pid) (old w.pid) h) (belong number)
    where
      either : (b is : Bool) → is ≡ true → (if b then true else is) ≡ true
      either true is h = refl
      either false is h = h

  -- there is one less, whose calls don't wait
  pub belong-fewer : (pid : ℕ) → new ≡ set_at nat_eq old pid false → ((number : ℕ) → IfSome (get nat_eq calls number) (λ w. ¬ (w.pid ≡ pid))) → Belong calls new
  belong-fewer pid fewer others number =
      if_both (λ w. IsTrue (old w.pid)) (λ w. ¬ (w.pid ≡ pid)) (λ w. IsTrue (new w.pid)) (get nat_eq calls number) (λ w h o. (λ i. fewer i w.pid) ∙ elsewhere w.pid o h) (belong number) (others number)
    where
      elsewhere : (q : ℕ) → ¬ (q ≡ pid) → old q ≡ true → (if nat_eq pid q then false else old q) ≡ true
      elsewhere q o h = elim (eqb_tells pid q) as (λ _. (if nat_eq pid q then false else old q) ≡ true) [
        | inl e ↦ absurd (o (sym e.1))
        | inr e ↦ ap (λ b. if b then false else old q) e.0 ∙ h
      ]
