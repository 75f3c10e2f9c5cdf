-- A ring of packets as contracts see it.
use Rattle.std.specs.Prelude.{◌≤◌, ℕ, List, [], ◌∷◌}
use Rattle.pl_segments.specs.declared.slice.Slice.{Slice}
use Rattle.pl_segments.specs.Segments.{segment_size}
use Rattle.pl_segments.specs.Slots.{AllSolid}

-- the packets from the front to the back, and how many bytes of them may be held
pub record PacketRing : Type 0 where
  pub slots : List Slice
  pub capacity : ℕ

-- pipe(2), O_DIRECT: the most bytes of a packet
abbrev pub packet_size : ℕ
packet_size = 4096

-- how many bytes the first packet has, 0 if there is none
abbrev pub first_len : List Slice → ℕ
first_len [] = 0
first_len (x ∷ xs) = x.len

-- no packet has more bytes than fit a segment
abbrev pub AllFit : List Slice → Type 0
AllFit [] = Unit {0}
AllFit (x ∷ xs) = (x.len ≤ segment_size) × AllFit xs

-- Slots that may stand in a ring of packets: none is empty, and none has more bytes than fit a segment.
pub record ArePackets (xs : List Slice) : Type 0 where
  pub solid : AllSolid xs
  pub fit : AllFit xs
