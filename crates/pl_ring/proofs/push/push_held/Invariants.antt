use Rattle.std.proofs.Common.{◌≡◌, drop}
use Rattle.pl_segments.specs.Segments.{segment_at, live_count}
use Rattle.pl_segments.specs.Slots.{solid_of}
use Rattle.pl_ring.proofs.Underway.{Underway}
use Rattle.pl_ring.proofs.push.push_held.Given as goal

abbrev pub invariant-loop-i : goal.invariant-loop-i
invariant-loop-i g l = record {
  underway : Underway (segment_at l.fn.store) l.fn.slots.items (solid_of l.slices) (live_count l.fn.store.held) (segment_at l.store) l.slots.items (solid_of (drop l.i l.slices)) (live_count l.store.held) l.store.room;
  capacity : l.slots.capacity ≡ l.fn.slots.capacity;
}
