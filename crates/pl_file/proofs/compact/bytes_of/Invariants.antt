use Rattle.std.proofs.Common.{◌≡◌, ◌≤◌, ◌-◌, ◌++◌, take, drop}
use Rattle.pl_segments.specs.Segments.{segment_at}
use Rattle.pl_segments.specs.Slices.{all_read}
use Rattle.pl_file.specs.Rows.{index, IsSpot}
use Rattle.pl_file.proofs.compact.bytes_of.Given as goal

-- the bytes so far and those from the spot on are all
abbrev pub invariant-loop-end : goal.invariant-loop-end
invariant-loop-end g l = record {
  spot : IsSpot l.chunks l.spot;
  most : index l.chunks l.spot ≤ index l.chunks l.end;
  read : l.bytes.items ++ all_read (segment_at l.store) (drop (index l.chunks l.spot) (take (index l.chunks l.end) l.chunks.slots)) ≡ all_read (segment_at l.store) (drop (index l.chunks l.fn.first) (take (index l.chunks l.end) l.chunks.slots));
}

abbrev pub decreases-loop-end : goal.decreases-loop-end
decreases-loop-end g l = index l.chunks l.end - index l.chunks l.spot
