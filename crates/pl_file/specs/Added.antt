-- Bytes that were added at the end.
use Rattle.std.specs.Prelude.{◌≡◌, ◌+◌, ◌++◌, ℕ, Bool, true, false, List, length}
use Rattle.pl_segments.specs.declared.slice.Slice.{Slice}
use Rattle.pl_segments.specs.Segments.{Map}
use Rattle.pl_segments.specs.Slices.{all_read}
use Rattle.pl_segments.specs.Slots.{total, AllSolid}
use Rattle.pl_segments.specs.Turns.{Turns}
use Rattle.pl_file.specs.Rows.{AllWithin}

-- The slots became others, which read the bytes behind what those read.
pub record Adds (m : Map) (xs : List Slice) (bytes : List ℕ) (n : Map) (ys : List Slice) : Type 0 where
  pub turns : Turns m xs n ys
  pub read : all_read n ys ≡ all_read m xs ++ bytes
  pub solid : AllSolid ys
  pub within : AllWithin ys
  pub total : total ys ≡ total xs + length bytes

-- they did if they were added, and else the slots are as they were
abbrev pub IsAdded : Map → List Slice → List ℕ → Bool → Map → List Slice → Type 0
IsAdded m xs bytes true n ys = Adds m xs bytes n ys
IsAdded m xs bytes false n ys = ys ≡ xs
