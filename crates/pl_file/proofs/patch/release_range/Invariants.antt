use Rattle.std.proofs.Common.{◌≤◌, ◌-◌, take, drop}
use Rattle.pl_segments.specs.Segments.{segment_at, live_count}
use Rattle.pl_segments.specs.Turns.{Turns}
use Rattle.pl_file.specs.Rows.{index, IsSpot}
use Rattle.pl_file.proofs.patch.release_range.Given as goal

-- the slots before the spot are let go
abbrev pub invariant-loop-end : goal.invariant-loop-end
invariant-loop-end g l = record {
  spot : IsSpot l.chunks l.spot;
  most : index l.chunks l.spot ≤ index l.chunks l.end;
  turns : Turns (segment_at l.fn.store) (drop (index l.chunks l.fn.first) (take (index l.chunks l.end) l.chunks.slots)) (segment_at l.store) (drop (index l.chunks l.spot) (take (index l.chunks l.end) l.chunks.slots));
  in_use : live_count l.store.held ≤ live_count l.fn.store.held;
}

abbrev pub decreases-loop-end : goal.decreases-loop-end
decreases-loop-end g l = index l.chunks l.end - index l.chunks l.spot
