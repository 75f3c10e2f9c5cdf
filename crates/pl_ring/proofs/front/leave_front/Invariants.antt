use Rattle.std.proofs.Common.{◌≡◌, ◌≤◌}
use Rattle.pl_segments.specs.Segments.{segment_at}
use Rattle.pl_segments.specs.Slices.{AllLie}
use Rattle.pl_segments.specs.Slots.{total, AllSolid, drop_bytes}
use Rattle.pl_ring.proofs.Leaving.{Left}
use Rattle.pl_ring.proofs.front.leave_front.Given as goal

-- what is left to go of the slots that are left gives what was asked
abbrev pub invariant-loop-rest : goal.invariant-loop-rest
invariant-loop-rest g l = record {
  store : l.store ≡ l.fn.store;
  left : Left l.count l.rest l.fn.slots.items l.slots.items;
  slots : drop_bytes l.rest l.slots.items ≡ drop_bytes l.count l.fn.slots.items;
  lie : AllLie (segment_at l.store) l.slots.items;
  solid : AllSolid l.slots.items;
  more : l.rest ≤ total l.slots.items;
  capacity : l.slots.capacity ≡ l.fn.slots.capacity;
}

abbrev pub decreases-loop-rest : goal.decreases-loop-rest
decreases-loop-rest g l = l.rest
