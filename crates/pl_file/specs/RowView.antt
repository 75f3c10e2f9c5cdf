-- The fields of a row, as its slots.
use Rattle.std.specs.Prelude.{◌≡◌, ◌+◌, vec_capacity}
use Rattle.pl_file.specs.declared.row.Row.TheInside.{Inside}
use Rattle.pl_file.specs.Rows.{Row, placed, slots_of}
use Rattle.pl_segments.specs.Slots.{total}

-- the slots of the entries
abbrev pub view_of : {A : Type 0} → Inside A → Row
view_of r = record { base = r.base; slots = slots_of r.entries.items; capacity = vec_capacity r.entries }

-- each slot starts where the one before it ends, and the row ends with the last
pub record IsSound {A : Type 0} (r : Inside A) : Type 0 where
  pub placed : r.entries.items ≡ placed r.base (slots_of r.entries.items)
  pub end : r.end ≡ r.base + total (slots_of r.entries.items)
