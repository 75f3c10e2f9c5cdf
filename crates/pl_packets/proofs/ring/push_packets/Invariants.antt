use Rattle.std.proofs.Common.{◌≡◌, ◌≤◌, ◌+◌, ◌*◌, ◌++◌, length}
use Rattle.pl_model.specs.Packets.{piece_lengths}
use Rattle.pl_segments.specs.Segments.{segment_at, live_count}
use Rattle.pl_segments.specs.Slices.{all_read}
use Rattle.pl_segments.specs.Turns.{Turns}
use Rattle.pl_ring.specs.Merging.{lens}
use Rattle.pl_packets.specs.Packets.{packet_size, ArePackets}
use Rattle.pl_packets.proofs.ring.push_packets.Given as goal

-- the packets so far, and those of the rest of the bytes, are what was asked; and there is room for the rest
abbrev pub invariant-loop-rest : goal.invariant-loop-rest
invariant-loop-rest g l = record {
  lens : lens l.slots.items ++ piece_lengths (length l.rest) ≡ lens l.fn.slots.items ++ piece_lengths (length l.bytes);
  read : all_read (segment_at l.store) l.slots.items ++ l.rest ≡ all_read (segment_at l.fn.store) l.fn.slots.items ++ l.bytes;
  turns : Turns (segment_at l.fn.store) l.fn.slots.items (segment_at l.store) l.slots.items;
  packets : ArePackets l.slots.items;
  in_use : live_count l.store.held + length (piece_lengths (length l.rest)) ≡ live_count l.fn.store.held + length (piece_lengths (length l.bytes));
  capacity : l.slots.capacity ≡ l.fn.slots.capacity;
  fits : packet_size * length l.slots.items + length l.rest ≤ packet_size * l.slots.capacity;
  room : length (piece_lengths (length l.rest)) ≤ l.store.room;
}

abbrev pub decreases-loop-rest : goal.decreases-loop-rest
decreases-loop-rest g l = length l.rest
