use Rattle.std.proofs.Common.{◌≡◌, ◌≤◌, drop}
use Rattle.pl_segments.specs.Segments.{segment_at}
use Rattle.pl_segments.specs.Slices.{all_read}
use Rattle.pl_segments.specs.Turns.{Turns}
use Rattle.pl_segments.specs.Slots.{total, AllSolid, drop_bytes}
use Rattle.pl_ring.proofs.front.drop_front.Given as goal

-- what is left to go of the slots that are left gives what was asked
abbrev pub invariant-loop-rest : goal.invariant-loop-rest
invariant-loop-rest g l = record {
  turns : Turns (segment_at l.fn.store) l.fn.slots.items (segment_at l.store) l.slots.items;
  read : drop l.rest (all_read (segment_at l.store) l.slots.items) ≡ drop l.count (all_read (segment_at l.fn.store) l.fn.slots.items);
  slots : drop_bytes l.rest l.slots.items ≡ drop_bytes l.count l.fn.slots.items;
  solid : AllSolid l.slots.items;
  left : l.rest ≤ total l.slots.items;
  capacity : l.slots.capacity ≡ l.fn.slots.capacity;
}

abbrev pub decreases-loop-rest : goal.decreases-loop-rest
decreases-loop-rest g l = l.rest
