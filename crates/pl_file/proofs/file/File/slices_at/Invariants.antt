use Rattle.std.proofs.Common.{◌≡◌, ◌-◌, ◌++◌, length, drop}
use Rattle.pl_segments.specs.Slots.{drop_bytes, front_of}
use Rattle.pl_file.specs.Rows.{index, IsSpot}
use Rattle.pl_file.proofs.file.File.slices_at.Given as goal

-- the slices so far, and those still to come of the slots that are left, give what was asked
abbrev pub invariant-loop-rest : goal.invariant-loop-rest
invariant-loop-rest g l = record {
  list : l.list.items ++ front_of l.rest (drop (index l.self-inside.chunks l.spot) l.self) ≡ front_of l.count (drop_bytes l.place l.self);
  spot : IsSpot l.self-inside.chunks l.spot;
}

abbrev pub decreases-loop-rest : goal.decreases-loop-rest
decreases-loop-rest g l = length l.self - index l.self-inside.chunks l.spot
