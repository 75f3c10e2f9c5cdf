use Rattle.std.proofs.Common.{◌≡◌, length}
use Rattle.pl_segments.specs.Segments.{segment_at}
use Rattle.pl_segments.specs.Turns.{Turns}
use Rattle.pl_packets.proofs.ring.PacketRing.clear.Given as goal

-- the packets so far went
abbrev pub invariant-loop-self : goal.invariant-loop-self
invariant-loop-self g l = record {
  turns : Turns (segment_at l.fn.store) l.fn.self.slots (segment_at l.store) l.self.slots;
  capacity : l.self.capacity ≡ l.fn.self.capacity;
}

abbrev pub decreases-loop-self : goal.decreases-loop-self
decreases-loop-self g l = length l.self.slots
