-- What a write makes of the slots of a file.
use Rattle.std.specs.Prelude.{◌≡◌, ◌≤◌, ℕ, ◌+◌, List}
use Rattle.pl_model.specs.Numbers.{most_file_bytes}
use Rattle.pl_segments.specs.declared.slice.Slice.{Slice}
use Rattle.pl_segments.specs.Segments.{Map, Segments, live_count}
use Rattle.pl_segments.specs.Slices.{all_read}
use Rattle.pl_segments.specs.Slots.{total, AllSolid, solid_of, drop_bytes, front_of}
use Rattle.pl_segments.specs.Turns.{Holds, Turns}
use Rattle.pl_file.specs.Joined.{between}
use Rattle.pl_file.specs.Rows.{AllWithin}

-- Slots became others, which read these bytes.
pub record Becomes (m : Map) (old : List Slice) (n : Map) (new : List Slice) (bytes : List ℕ) : Type 0 where
  pub turns : Turns m old n new
  pub read : all_read n new ≡ bytes

-- The slots of a file, each of which a store holds: none is empty or ends past its segment, and they have no more bytes than a file may
-- have.
pub record IsFile (m : Map) (xs : List Slice) : Type 0 where
  pub held : Holds m xs
  pub solid : AllSolid xs
  pub within : AllWithin xs
  pub most : total xs ≤ most_file_bytes

-- The first bytes of slices, so many, were put at a place that isn't behind the end. No segment was made. Where there are such bytes, the
-- slots are those of the bytes before the place, the slices, and those of the bytes behind.
pub record PutBetween (s : Segments) (old : List Slice) (place count : ℕ) (slices : List Slice) (t : Segments) (new : List Slice) : Type 0 where
  pub slots : 1 ≤ count → new ≡ between (front_of place old) (solid_of (front_of count slices)) (drop_bytes (place + count) old)
  pub in_use : live_count t.held ≤ live_count s.held
