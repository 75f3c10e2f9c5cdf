use Rattle.std.proofs.Common.{◌≡◌, ◌-◌, ◌≤◌, ◌++◌, length, take, drop}
use Rattle.pl_segments.specs.Segments.{segment_at}
use Rattle.pl_segments.specs.Slices.{all_read}
use Rattle.pl_segments.specs.Slots.{drop_bytes}
use Rattle.pl_file.specs.Rows.{index, IsSpot}
use Rattle.pl_file.proofs.file.File.read_into.Given as goal

-- the places that are filled, and what is still to come of the slots that are left, give what was asked
abbrev pub invariant-loop-filled : goal.invariant-loop-filled
invariant-loop-filled g l = record {
  read : take l.filled l.into ++ take (length l.fn.into - l.filled) (all_read (segment_at l.store) (drop (index l.self-inside.chunks l.spot) l.self)) ≡ take (length l.fn.into) (all_read (segment_at l.store) (drop_bytes l.place l.self));
  filled : l.filled ≤ length l.fn.into;
  len : length l.into ≡ length l.fn.into;
  spot : IsSpot l.self-inside.chunks l.spot;
}

abbrev pub decreases-loop-filled : goal.decreases-loop-filled
decreases-loop-filled g l = length l.self - index l.self-inside.chunks l.spot
