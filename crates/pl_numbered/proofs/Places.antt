-- Lists that are read at a place after a change.
use Rattle.std.proofs.Common.{◌≡◌, ℕ, zero, suc, ◌<◌, [], ◌∷◌, List, Some, refl, ap, length, slice_set, slice_get, arith}

module _ {X : Type 0} where
  pub get-set-here : (xs : List X) (k : ℕ) (x : X) → k < length xs → slice_get (slice_set xs k x) k ≡ Some x
  get-set-here [] k x l = absurd (omega arith)
  get-set-here (y ∷ ys) zero x l = refl
  get-set-here (y ∷ ys) (suc k) x l = get-set-here ys k x (omega (arith, l))

  pub get-set-other : (xs : List X) (k j : ℕ) (x : X) → ¬ (k ≡ j) → slice_get (slice_set xs k x) j ≡ slice_get xs j
  get-set-other [] k j x apart = refl
  get-set-other (y ∷ ys) zero zero x apart = absurd (apart refl)
  get-set-other (y ∷ ys) zero (suc j) x apart = refl
  get-set-other (y ∷ ys) (suc k) zero x apart = refl
  get-set-other (y ∷ ys) (suc k) (suc j) x apart = get-set-other ys k j x (λ e. apart (ap suc e))
