-- The places of a list at which nothing stands, as a set.
use Rattle.std.specs.Prelude.{◌≡◌, ◌<◌, ℕ, List, length, Option, nat_lt, ◌&&◌, is_none}
use Rattle.pl_masks.specs.declared.masks.Masks.{Masks}
use Rattle.pl_masks.specs.Masks.{has, has_place}
use Rattle.pl_desc.specs.Rows.{at}

-- the set has exactly those places of the list, and a place for each
pub record AreVacant {A V : Type 0} (list : List (Option V)) (set : Masks A) : Type 0 where
  pub told : (place : ℕ) → has set place ≡ (nat_lt place (length list) && is_none (at list place))
  pub places : (place : ℕ) → place < length list → has_place set place
