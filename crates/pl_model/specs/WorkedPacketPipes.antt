-- What the definitions say of packet pipes in small examples.
use Rattle.std.specs.Prelude.{◌≡◌, [], ◌∷◌, replicate, take, codes}
use Rattle.pl_model.specs.State.{Pipe, empty_packet_pipe}
use Rattle.pl_model.specs.Packets.{used, spent, lose, gain}
use Rattle.pl_model.specs.PacketLaw.{packets_of, pieces_of}

-- a packet pipe after a write of two bytes and one of one byte
abbrev pub two_packets : Pipe
two_packets = gain (codes "c") (gain (codes "ab") empty_packet_pipe)

-- small writes are packets of their own, and each takes 4,096 bytes of the capacity
abbrev pub SmallWritesStayApart : Type 0
SmallWritesStayApart = (packets_of two_packets ≡ codes "ab" ∷ codes "c" ∷ []) × (used two_packets ≡ 8192)

-- a write of twice 4,096 bytes is two packets, and of one byte more three
abbrev pub LongWriteIsCut : Type 0
LongWriteIsCut =
    (pieces_of (replicate 8192 97) ≡ replicate 4096 97 ∷ replicate 4096 97 ∷ [])
    × (pieces_of (replicate 8193 97) ≡ replicate 4096 97 ∷ replicate 4096 97 ∷ codes "a" ∷ [])

-- a read of one byte gives it, and the rest of its packet is gone
abbrev pub ReadDropsTheRest : Type 0
ReadDropsTheRest = (take 1 two_packets.bytes ≡ codes "a") × (packets_of (lose (spent two_packets 1) two_packets) ≡ codes "c" ∷ [])
