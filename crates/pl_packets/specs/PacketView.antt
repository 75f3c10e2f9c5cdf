-- The fields of a ring of packets, as its packets.
use Rattle.std.specs.Prelude.{◌≡◌, ◌*◌}
use Rattle.pl_packets.specs.declared.ring.PacketRing.TheInside.{Inside}
use Rattle.pl_packets.specs.Packets.{packet_size, PacketRing, ArePackets}
use Rattle.pl_ring.specs.Ring.{IsCapacity}
use Rattle.pl_segments.specs.Slots.{total}

-- the packets, and the capacity that their places are made for
abbrev pub view_of : {A : Type 0} → Inside A → PacketRing
view_of r = record { slots = r.slots.items; capacity = packet_size * r.slots.capacity }

-- the bytes are counted, and each packet has from 1 to 4,096 of them
pub record IsSound {A : Type 0} (r : Inside A) : Type 0 where
  pub held : r.held ≡ total r.slots.items
  pub range : IsCapacity (packet_size * r.slots.capacity)
  pub packets : ArePackets r.slots.items
