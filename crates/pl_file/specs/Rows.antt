-- Slots in a row, each with the place where it starts, and rows one behind the other.
use Rattle.std.specs.Prelude.{◌≡◌, ◌≤◌, ◌<◌, ℕ, zero, suc, ◌+◌, ◌-◌, ◌*◌, List, [], ◌∷◌, ◌++◌, length, slice_index_or}
use Rattle.pl_segments.specs.declared.slice.Slice.{Slice}
use Rattle.pl_segments.specs.Segments.{segment_size}
use Rattle.pl_segments.specs.Slots.{total}
use Rattle.pl_file.specs.declared.row.Entry.{Entry}
use Rattle.pl_file.specs.declared.spot.Spot.{Spot}

-- the place where the first slot starts, the slots, and how many there can be without more memory
pub record Row : Type 0 where
  pub base : ℕ
  pub slots : List Slice
  pub capacity : ℕ

-- slots one behind the other from a place on
abbrev pub placed : ℕ → List Slice → List Entry
placed at [] = []
placed at (x ∷ xs) = record { start = at; slice = x } ∷ placed (at + x.len) xs

-- the slots of entries
abbrev pub slots_of : List Entry → List Slice
slots_of [] = []
slots_of (e ∷ es) = e.slice ∷ slots_of es

-- no slot ends past its segment
abbrev pub AllWithin : List Slice → Type 0
AllWithin [] = Unit {0}
AllWithin (x ∷ xs) = (x.from + x.len ≤ segment_size) × AllWithin xs

-- the slots of rows, one row behind the other
abbrev pub flat : List Row → List Slice
flat [] = []
flat (r ∷ rs) = r.slots ++ flat rs

-- how many slots each row has
abbrev pub lens_of : List Row → List ℕ
lens_of [] = []
lens_of (r ∷ rs) = length r.slots ∷ lens_of rs

-- the slots of one of the rows, none behind the last
abbrev pub slots_in : List Row → ℕ → List Slice
slots_in [] c = []
slots_in (r ∷ rs) zero = r.slots
slots_in (r ∷ rs) (suc c) = slots_in rs c

-- the most slots of a chunk, and how many are cut off at most as a chunk of their own
abbrev pub most_in_chunk : ℕ
most_in_chunk = 256

abbrev pub piece : ℕ
piece = 128

-- a row that starts at a place, isn't empty, and has no more slots than a chunk may have
pub record IsChunk (at : ℕ) (r : Row) : Type 0 where
  pub base : r.base ≡ at
  pub some : 1 ≤ length r.slots
  pub most : length r.slots ≤ most_in_chunk

-- so it is with each of some rows, of which each starts where the one before it ends
abbrev pub AreChunks : ℕ → List Row → Type 0
AreChunks at [] = Unit {0}
AreChunks at (r ∷ rs) = IsChunk at r × AreChunks (at + total r.slots) rs

-- the slots that stand in chunks, how many stand in each, and for how many chunks there is memory
pub record Chunks : Type 0 where
  pub slots : List Slice
  pub lens : List ℕ
  pub room : ℕ

-- how many slots stand before one of a chunk, if each chunk has so many slots
abbrev pub index_of : List ℕ → ℕ → ℕ → ℕ
index_of ns zero at = at
index_of [] (suc c) at = at
index_of (n ∷ ns) (suc c) at = n + index_of ns c at

abbrev pub index : Chunks → Spot → ℕ
index chunks s = index_of chunks.lens s.chunk s.at

-- there is a slot of a chunk, or it is the chunk behind the last and the first place in it
abbrev pub IsAt : List ℕ → ℕ → ℕ → Type 0
IsAt [] c at = (c ≡ 0) × (at ≡ 0)
IsAt (n ∷ ns) zero at = at < n
IsAt (n ∷ ns) (suc c) at = IsAt ns c at

abbrev pub IsSpot : Chunks → Spot → Type 0
IsSpot chunks s = IsAt chunks.lens s.chunk s.at

-- how many of so many slots of a chunk stand from a place on that isn't its first
abbrev pub left_from : ℕ → ℕ → ℕ
left_from n zero = 0
left_from n (suc at) = n - suc at

-- how many slots stay of the chunks of two spots, where those from the one to before the other go
abbrev pub staying : Chunks → Spot → Spot → ℕ
staying chunks first end = first.at + left_from (slice_index_or chunks.lens end.chunk 0) end.at

-- rows of no slots, each with memory for a piece
abbrev pub AreEmpty : List Row → Type 0
AreEmpty [] = Unit {0}
AreEmpty (r ∷ rs) = (r.slots ≡ []) × (piece ≤ r.capacity) × AreEmpty rs

-- so many slots can become chunks without more memory
pub record AreReady (room count capacity : ℕ) (pieces : List Row) (end : Row) : Type 0 where
  pub empty : AreEmpty pieces
  pub none : end.slots ≡ []
  pub whole : 1 ≤ length pieces → most_in_chunk ≤ end.capacity
  pub enough : capacity ≤ piece + piece * length pieces
  pub list : count + length pieces + 1 ≤ room

-- the rows became these and others behind them, which have the slots of one row
pub record Adds (old new : List Row) (r : Row) : Type 0 where
  pub added : List Row
  pub is : new ≡ old ++ added
  pub slots : flat added ≡ r.slots
  pub chunks : AreChunks r.base added
