use Rattle.std.proofs.Common.{length, ◌+◌, ◌*◌, ◌≡◌, ◌≤◌, ◌++◌}
use Rattle.pl_segments.specs.Segments.{segment_size, segment_at, live_count}
use Rattle.pl_segments.specs.Slices.{all_read}
use Rattle.pl_segments.specs.Turns.{Turns}
use Rattle.pl_segments.specs.Slots.{total}
use Rattle.pl_ring.specs.Ring.{place_size}
use Rattle.pl_ring.specs.Pushed.{AreOfRing}
use Rattle.pl_ring.proofs.push.push_new.Given as goal

-- the slots so far, and the rest of the bytes, give what was asked; and the rest has room
abbrev pub invariant-loop-rest : goal.invariant-loop-rest
invariant-loop-rest g l = record {
  turns : Turns (segment_at l.fn.store) l.fn.slots.items (segment_at l.store) l.slots.items;
  read : all_read (segment_at l.store) l.slots.items ++ l.rest ≡ all_read (segment_at l.fn.store) l.fn.slots.items ++ l.bytes;
  slots : AreOfRing l.slots.items;
  in_use : (1 ≤ length l.rest → segment_size * live_count l.store.held + length l.rest ≤ segment_size * live_count l.fn.store.held + length l.bytes)
      × (segment_size * live_count l.store.held ≤ segment_size * live_count l.fn.store.held + length l.bytes + 2 * segment_size);
  capacity : l.slots.capacity ≡ l.fn.slots.capacity;
  fits : total l.slots.items + length l.rest ≤ place_size * l.fn.slots.capacity;
  room : 1 ≤ length l.rest → length l.rest + segment_size ≤ segment_size * l.store.room;
}

abbrev pub decreases-loop-rest : goal.decreases-loop-rest
decreases-loop-rest g l = length l.rest
