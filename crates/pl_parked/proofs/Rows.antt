-- The numbers of the calls of processes, before and after a change of them.
use Rattle.std.proofs.Common.{◌≡◌, ℕ, ◌<◌, Bool, true, false, not, [], ◌∷◌, ◌++◌, List, Some, refl, sym, ◌∙◌, ap, inl, inr, nat_eq, ◌≤◌, subst, length, slice_set, slice_get, slice_index_or, arith}
use Rattle.std.specs.Prelude.{◌&&◌, ◌||◌, is_some}
use Rattle.std.proofs.lemmas.Bool.Decides.{eqb_tells, nat_tests}
use Rattle.std.proofs.lemmas.Option.{slice_get_read, slice_get_past}
use Rattle.pl_model.specs.Map.{Map, get, without}
use Rattle.pl_numbered.specs.declared.numbered.Numbered.{Numbered}
use Rattle.pl_numbered.specs.Numbered.{values, AllUnder}
use Rattle.pl_parked.specs.Owners.{is_in_row}
use Rattle.pl_numbered.proofs.Having.{has-push, has-without}
use Rattle.pl_numbered.proofs.Places.{get-set-here, get-set-other}

same_eq : (n : ℕ) → nat_eq n n ≡ true
same_eq n = grind (arith, nat_tests)

module _ {A : Type 0} where
  module _ (rows : List (Numbered (Unit {0}) A)) (pid m : ℕ) (old new : Numbered (Unit {0}) A) (within : pid < length rows) (is : old ≡ slice_index_or rows pid old) where
    was : slice_get rows pid ≡ Some old
    was = slice_get_read rows (length rows) pid old refl within is

    -- a number more
    pub row-added : values new ≡ values old ++ (m, tt) ∷ [] → (other n : ℕ) → is_in_row (slice_get (slice_set rows pid new) other) n ≡ ((nat_eq pid other && nat_eq m n) || is_in_row (slice_get rows other) n)
    row-added more other n = elim (eqb_tells pid other) as (λ _. is_in_row (slice_get (slice_set rows pid new) other) n ≡ ((nat_eq pid other && nat_eq m n) || is_in_row (slice_get rows other) n)) [
      | inl t ↦ subst (λ other. is_in_row (slice_get (slice_set rows pid new) other) n ≡ ((nat_eq pid other && nat_eq m n) || is_in_row (slice_get rows other) n)) t.1
          (ap (λ o. is_in_row o n) (get-set-here rows pid new within) ∙ ap (λ (es : Map ℕ (Unit {0})). is_some (get nat_eq es n)) more ∙ has-push m n (values old) tt
          ∙ (λ i. (sym (ap (λ b. b && nat_eq m n) (same_eq pid)) i || is_in_row (sym was i) n)))
      | inr t ↦ ap (λ o. is_in_row o n) (get-set-other rows pid other new t.1) ∙ sym (ap (λ b. (b && nat_eq m n) || is_in_row (slice_get rows other) n) t.0)
    ]

    -- a number less
    pub row-fewer : values new ≡ without nat_eq (values old) m → (other n : ℕ) → is_in_row (slice_get (slice_set rows pid new) other) n ≡ (not (nat_eq pid other && nat_eq m n) && is_in_row (slice_get rows other) n)
    row-fewer less other n = elim (eqb_tells pid other) as (λ _. is_in_row (slice_get (slice_set rows pid new) other) n ≡ (not (nat_eq pid other && nat_eq m n) && is_in_row (slice_get rows other) n)) [
      | inl t ↦ subst (λ other. is_in_row (slice_get (slice_set rows pid new) other) n ≡ (not (nat_eq pid other && nat_eq m n) && is_in_row (slice_get rows other) n)) t.1
          (ap (λ o. is_in_row o n) (get-set-here rows pid new within) ∙ ap (λ (es : Map ℕ (Unit {0})). is_some (get nat_eq es n)) less ∙ has-without m n (values old)
          ∙ (λ i. (not (sym (ap (λ b. b && nat_eq m n) (same_eq pid)) i) && is_in_row (sym was i) n)))
      | inr t ↦ ap (λ o. is_in_row o n) (get-set-other rows pid other new t.1) ∙ sym (ap (λ b. not (b && nat_eq m n) && is_in_row (slice_get rows other) n) t.0)
    ]

    -- the numbers of a row are among those of all
    pub row-under : (number : ℕ) → ((pid n : ℕ) → is_in_row (slice_get rows pid) n ≡ true → n < number) → AllUnder number (values old)
    row-under number under n has = under pid n (ap (λ o. is_in_row o n) was ∙ has)

    -- a row that has the same numbers
    pub row-same : values new ≡ values old → (other n : ℕ) → is_in_row (slice_get (slice_set rows pid new) other) n ≡ is_in_row (slice_get rows other) n
    row-same same other n = elim (eqb_tells pid other) as (λ _. is_in_row (slice_get (slice_set rows pid new) other) n ≡ is_in_row (slice_get rows other) n) [
      | inl t ↦ subst (λ other. is_in_row (slice_get (slice_set rows pid new) other) n ≡ is_in_row (slice_get rows other) n) t.1
          (ap (λ o. is_in_row o n) (get-set-here rows pid new within) ∙ ap (λ (es : Map ℕ (Unit {0})). is_some (get nat_eq es n)) same ∙ ap (λ o. is_in_row o n) (sym was))
      | inr t ↦ ap (λ o. is_in_row o n) (get-set-other rows pid other new t.1)
    ]

  -- a process without a row has no numbers
  pub no-row : (rows : List (Numbered (Unit {0}) A)) (pid m : ℕ) → length rows ≤ pid → (other n : ℕ) → is_in_row (slice_get rows other) n ≡ (not (nat_eq pid other && nat_eq m n) && is_in_row (slice_get rows other) n)
  no-row rows pid m l other n = elim (eqb_tells pid other) as (λ _. is_in_row (slice_get rows other) n ≡ (not (nat_eq pid other && nat_eq m n) && is_in_row (slice_get rows other) n)) [
    | inl t ↦ subst (λ other. is_in_row (slice_get rows other) n ≡ (not (nat_eq pid other && nat_eq m n) && is_in_row (slice_get rows other) n)) t.1
        (let none = slice_get_past rows pid l in ap (λ o. is_in_row o n) none ∙ sym (and-false (not (nat_eq pid pid && nat_eq m n))) ∙ ap (λ o. not (nat_eq pid pid && nat_eq m n) && is_in_row o n) (sym none))
    | inr t ↦ sym (ap (λ b. not (b && nat_eq m n) && is_in_row (slice_get rows other) n) t.0)
  ]
    where
      and-false : (b : Bool) → (b && false) ≡ false
      and-false true = refl
      and-false false = refl
