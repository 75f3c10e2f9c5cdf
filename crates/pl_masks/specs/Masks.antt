-- The numbers of a set.
use Rattle.std.specs.Prelude.{◌<◌, ℕ, ◌*◌, Bool, length}
use Rattle.pl_masks.specs.declared.masks.Masks.{Masks}
use Rattle.pl_masks.specs.Levels.{is_set, IsFirst}

module _ {A : Type 0} where
  -- the set has a number
  abbrev pub has : Masks A → ℕ → Bool
  has m n = is_set m.numbers.items n

  -- there is a place for a number
  abbrev pub has_place : Masks A → ℕ → Type 0
  has_place m n = n < 64 * length m.numbers.items

  -- a number is the least of the set, from one on
  abbrev pub IsNext : Masks A → ℕ → ℕ → Type 0
  IsNext m from n = IsFirst m.numbers.items from n
