use Rattle.std.proofs.Common.{length, ◌-◌, ◌≡◌, ◌≤◌, ◌++◌, drop, take}
use Rattle.pl_segments.specs.Segments.{segment_at}
use Rattle.pl_segments.specs.Slices.{all_read}
use Rattle.pl_ring.proofs.front.fill.Given as goal

-- the places that are filled, and what is still to come of the slots that are left, give what was asked
abbrev pub invariant-loop-place : goal.invariant-loop-place
invariant-loop-place g l = record {
  read : take l.filled l.into ++ take (length l.fn.into - l.filled) (all_read (segment_at l.store) (drop l.place l.slots)) ≡ take l.from l.fn.into ++ take (length l.fn.into - l.from) (all_read (segment_at l.store) l.slots);
  filled : l.filled ≤ length l.fn.into;
  len : length l.into ≡ length l.fn.into;
  place : l.place ≤ length l.slots;
}

abbrev pub decreases-loop-place : goal.decreases-loop-place
decreases-loop-place g l = length l.slots - l.place
