-- Where an edit stands among the slots of a file, and what it has put in so far.
use Rattle.std.specs.Prelude.{◌≡◌, ◌≤◌, ◌<◌, ◌^◌, ℕ, ◌+◌, ◌-◌, List, [], ◌∷◌, ◌++◌, length, take, drop, replicate}
use Rattle.pl_segments.specs.Segments.{Segments, segment_at, live_count}
use Rattle.pl_segments.specs.Slices.{all_read}
use Rattle.pl_segments.specs.Slots.{total, AllSolid, solid_of, drop_bytes, front_of}
use Rattle.pl_segments.specs.Turns.{Turns}
use Rattle.pl_file.specs.declared.cut.Cut.{Cut}
use Rattle.pl_file.specs.declared.spot.Spot.{Spot}
use Rattle.pl_file.specs.Rows.{Row, Chunks, index, IsSpot, staying, AreReady}

-- The slots of chunks from one spot to before another.
pub record IsSpan (chunks : Chunks) (first end : Spot) : Type 0 where
  pub from : IsSpot chunks first
  pub to : IsSpot chunks end
  pub order : index chunks first ≤ index chunks end
  pub most : index chunks end ≤ length chunks.slots

-- The slots of a row can take the place of a span: there are some, they start where the span does, and they end where it does, unless no slot
-- stands behind it.
pub record FitsIn (chunks : Chunks) (first end : Spot) (patch : Row) : Type 0 where
  pub span : IsSpan chunks first end
  pub some : 1 ≤ length patch.slots
  pub starts : patch.base ≡ total (take (index chunks first) chunks.slots)
  pub ends : index chunks end < length chunks.slots → patch.base + total patch.slots ≡ total (take (index chunks end) chunks.slots)

-- There is memory for so many slots in the place of a span: a row has room for them and for those that stay of the span's chunks, and it can
-- become chunks.
pub record HasMemory (chunks : Chunks) (first end : Spot) (count capacity : ℕ) (pieces : List Row) (last : Row) : Type 0 where
  pub slots : count + staying chunks first end ≤ capacity
  pub ready : AreReady chunks.room (length chunks.lens) capacity pieces last

-- The bytes behind the first so many: a part of a slot, and the slots from a spot on. Where there are such slots the part isn't empty, and they
-- start behind the first of the bytes.
pub record IsRest (chunks : Chunks) (count : ℕ) (rest : Cut) : Type 0 where
  pub is : drop_bytes count chunks.slots ≡ solid_of (rest.part ∷ []) ++ drop (index chunks rest.place) chunks.slots
  pub some : 1 ≤ length (drop (index chunks rest.place) chunks.slots) → 1 ≤ rest.part.len
  pub starts : index chunks rest.place < length chunks.slots → count < total (take (index chunks rest.place) chunks.slots)

-- No gap is before a place: the slots before a spot, and those of a row, at most one, are the slots of the bytes before the place, and no
-- segment was made for them.
pub record NoGap (s : Segments) (chunks : Chunks) (place : ℕ) (t : Segments) (patch : Row) (first : Spot) : Type 0 where
  pub is : take (index chunks first) chunks.slots ++ patch.slots ≡ front_of place chunks.slots
  pub one : length patch.slots ≤ 1
  pub some : 1 ≤ length (front_of place chunks.slots) → 1 ≤ length patch.slots
  pub in_use : live_count t.held ≡ live_count s.held

-- The slots of a row are held beside a file, and none is empty. They stand from a spot of it up to a place, and read what the file has there,
-- and zeros from its end on.
pub record IsFront (s : Segments) (chunks : Chunks) (place : ℕ) (t : Segments) (patch : Row) (first : Spot) : Type 0 where
  pub turns : Turns (segment_at s) [] (segment_at t) patch.slots
  pub read : all_read (segment_at s) (take (index chunks first) chunks.slots) ++ all_read (segment_at t) patch.slots ≡ take place (all_read (segment_at s) chunks.slots) ++ replicate (place - total chunks.slots) 0
  pub solid : AllSolid patch.slots
  pub starts : patch.base ≡ total (take (index chunks first) chunks.slots)
  pub end : patch.base + total patch.slots ≡ place
  pub within : place ≤ total chunks.slots → NoGap s chunks place t patch first

-- A change of so many bytes at a place has begun: a span of slots is to go, and in its place come the slots of a row, so far up to the place,
-- and what is left of the span behind the bytes. The row has memory for fewer than 2 ^ 64 slots.
pub record Opened (s : Segments) (chunks : Chunks) (place count : ℕ) (t : Segments) (patch : Row) (first : Spot) (rest : Cut) : Type 0 where
  pub front : IsFront s chunks place t patch first
  pub span : IsSpan chunks first rest.place
  pub left : IsRest chunks (place + count) rest
  pub most : patch.capacity < 2 ^ 64

-- A place among so many chunks, or behind the last of them, that isn't before a spot's chunk, and that is behind it where the spot isn't the first
-- there.
pub record IsNext (count : ℕ) (spot : Spot) (next : ℕ) : Type 0 where
  pub from : spot.chunk ≤ next
  pub behind : 1 ≤ spot.at → spot.chunk < next
  pub most : next ≤ count
