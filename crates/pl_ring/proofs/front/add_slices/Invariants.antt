use Rattle.std.proofs.Common.{length, ◌-◌, ◌≡◌, ◌≤◌, ◌++◌, take, drop}
use Rattle.pl_segments.specs.Slots.{total, front_of}
use Rattle.pl_ring.proofs.front.add_slices.Given as goal

-- the slots so far, and the slices that are still to come, give what was asked
abbrev pub invariant-loop-place : goal.invariant-loop-place
invariant-loop-place g l = record {
  front : take l.place l.slots ++ front_of l.rest (drop l.place l.slots) ≡ front_of l.count l.slots;
  left : l.rest - total (drop l.place l.slots) ≡ l.count - total l.slots;
  place : l.place ≤ length l.slots;
}

abbrev pub decreases-loop-place : goal.decreases-loop-place
decreases-loop-place g l = length l.slots - l.place
