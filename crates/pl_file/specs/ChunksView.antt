-- The fields of chunks, as the slots in them.
use Rattle.std.specs.Prelude.{vec_capacity}
use Rattle.pl_file.specs.declared.chunks.Chunks.TheInside.{Inside}
use Rattle.pl_file.specs.Rows.{Chunks, flat, lens_of, AreChunks}

-- the slots of the rows
abbrev pub view_of : {A : Type 0} → Inside A → Chunks
view_of f = record { slots = flat f.rows.items; lens = lens_of f.rows.items; room = vec_capacity f.rows }

-- each row is a chunk, and the first starts at 0
pub record IsSound {A : Type 0} (f : Inside A) : Type 0 where
  pub chunks : AreChunks 0 f.rows.items
