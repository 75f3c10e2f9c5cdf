-- The fields of a file, as its slots.
use Rattle.std.specs.Prelude.{◌≤◌, List}
use Rattle.pl_model.specs.Numbers.{most_file_bytes}
use Rattle.pl_segments.specs.declared.slice.Slice.{Slice}
use Rattle.pl_segments.specs.Slots.{total, AllSolid}
use Rattle.pl_file.specs.declared.file.File.TheInside.{Inside}
use Rattle.pl_file.specs.Rows.{AllWithin}

-- the slots from the first byte to the last
abbrev pub view_of : {A : Type 0} → Inside A → List Slice
view_of f = f.chunks.slots

-- no slot is empty or ends past its segment, and no file is longer than the greatest length
pub record IsSound {A : Type 0} (f : Inside A) : Type 0 where
  pub most : total f.chunks.slots ≤ most_file_bytes
  pub solid : AllSolid f.chunks.slots
  pub within : AllWithin f.chunks.slots
