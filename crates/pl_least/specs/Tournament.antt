-- A row of numbers of which each of the first half is the lesser of two others.
use Rattle.std.specs.Prelude.{◌≡◌, ◌≤◌, ◌<◌, ℕ, ◌+◌, ◌*◌, min, List, length, slice_index_or}
use Rattle.pl_least.specs.None.{none}

-- the entry at a place
abbrev pub entry : List ℕ → ℕ → ℕ
entry entries place = slice_index_or entries place none

-- the entry is the lesser of the two below it
abbrev pub IsLesser : List ℕ → ℕ → Type 0
IsLesser entries k = entry entries k ≡ min (entry entries (2 * k)) (entry entries (2 * k + 1))

-- Each entry of the first half is, but for the first one.
pub record IsTournament (entries : List ℕ) (places : ℕ) : Type 0 where
  pub halves : length entries ≡ 2 * places
  pub lesser : (k : ℕ) → 1 ≤ k → k < places → IsLesser entries k
