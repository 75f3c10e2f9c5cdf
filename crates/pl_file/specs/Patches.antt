-- Slots that are put into a file, in a row beside it.
use Rattle.std.specs.Prelude.{◌≡◌, ℕ, List, replicate}
use Rattle.pl_segments.specs.declared.slice.Slice.{Slice}
use Rattle.pl_segments.specs.Segments.{Map, segment_size}
use Rattle.pl_segments.specs.Slices.{Lies, reads}
use Rattle.pl_segments.specs.Slots.{AllSolid}
use Rattle.pl_segments.specs.Turns.{Holds}
use Rattle.pl_file.specs.Rows.{Row}
use Rattle.pl_file.specs.Written.{Becomes}

-- Slots that a store holds, none of which is empty.
pub record AreHeld (m : Map) (xs : List Slice) : Type 0 where
  pub held : Holds m xs
  pub solid : AllSolid xs

-- The slots of a row became others, none of which is empty, and which read these bytes. The row starts where it did, and has as much memory
-- as it had.
pub record Patched (m : Map) (old : Row) (n : Map) (new : Row) (bytes : List ℕ) : Type 0 where
  pub becomes : Becomes m old.slots n new.slots bytes
  pub solid : AllSolid new.slots
  pub base : new.base ≡ old.base
  pub capacity : new.capacity ≡ old.capacity

-- A slice of a whole segment, which reads as zeros.
pub record IsZeros (m : Map) (x : Slice) : Type 0 where
  pub lies : Lies m x
  pub len : x.len ≡ segment_size
  pub read : reads m x ≡ replicate x.len 0
