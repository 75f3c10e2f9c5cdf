-- Maps whose numbers rise.
use Rattle.std.specs.Prelude.{◌≤◌, ℕ, ◌+◌, [], ◌∷◌, Option, slice_get, option_map}
use Rattle.std.specs.Coded.{×_prop, le_prop}
use Rattle.pl_model.specs.Map.{Map}

-- the numbers rise, from the first bound on and below the second
abbrev pub Rise : {X : Type 0} → ℕ → ℕ → Map ℕ X → Type 0
Rise low next [] = low ≤ next
Rise low next (e ∷ es) = (low ≤ e.0) × Rise (e.0 + 1) next es

-- there is one proof of it at most, so a struct may keep it
pub Rise-prop : {X : Type 0} (low next : ℕ) (es : Map ℕ X) → IsProp (Rise low next es)
Rise-prop low next [] = le_prop
Rise-prop low next (e ∷ es) = ×_prop le_prop (Rise-prop (e.0 + 1) next es)

-- the number of the entry at a place
abbrev pub number_at : {X : Type 0} → Map ℕ X → ℕ → Option ℕ
number_at es place = option_map (λ e. e.0) (slice_get es place)
