-- Slots that are put behind others, and become one with the last where they go on there.
use Rattle.std.specs.Prelude.{ℕ, ◌≤◌, ◌+◌, ◌-◌, nat_eq, Bool, false, List, [], ◌∷◌, ◌++◌, length, take, drop, if◌then◌else◌}
use Rattle.pl_segments.specs.declared.slice.Slice.{Slice}
use Rattle.pl_segments.specs.Segments.{Map}
use Rattle.pl_segments.specs.Slices.{longer_by}
use Rattle.pl_segments.specs.Turns.{Turns}

-- a slice goes on where another ends, in the same segment
abbrev pub goes_on : Slice → Slice → Bool
goes_on x y = if nat_eq x.segment y.segment then nat_eq (x.from + x.len) y.from else false

-- a slice goes on where the last of a slot and others ends
abbrev pub goes_from : Slice → List Slice → Slice → Bool
goes_from x [] y = goes_on x y
goes_from x (z ∷ zs) y = goes_from z zs y

-- it goes on where the last slot ends
abbrev pub goes_behind : List Slice → Slice → Bool
goes_behind [] y = false
goes_behind (x ∷ xs) y = goes_from x xs y

-- a slot and others with a slice behind them, which is one with the last where it goes on there
abbrev pub behind_from : Slice → List Slice → Slice → List Slice
behind_from x [] y = if goes_on x y then longer_by y.len x ∷ [] else x ∷ y ∷ []
behind_from x (z ∷ zs) y = x ∷ behind_from z zs y

-- slots with a slice behind them, which is one with the last where it goes on there
abbrev pub one_behind : List Slice → Slice → List Slice
one_behind [] y = y ∷ []
one_behind (x ∷ xs) y = behind_from x xs y

-- slots with slices behind them, one after another
abbrev pub joined : List Slice → List Slice → List Slice
joined xs [] = xs
joined xs (y ∷ ys) = joined (one_behind xs y) ys

-- Slots, slices and slots. From the last of the slots before to the first of those behind each is one with the one before it
-- where it goes on there.
abbrev pub between : List Slice → List Slice → List Slice → List Slice
between before new after =
    take (length before - 1) before ++ (joined (drop (length before - 1) before) (new ++ take 1 after) ++ drop 1 after)

-- some slices are held in a store, at most so many, and nothing is let go
pub record Holding (m n : Map) (most : ℕ) : Type 0 where
  pub added : List Slice
  pub few : length added ≤ most
  pub turns : Turns m [] n added
