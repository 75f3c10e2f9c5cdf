-- A ring as contracts see it.
use Rattle.std.specs.Prelude.{◌≡◌, ◌≤◌, ℕ, ◌*◌, ◌%◌, List, [], Option, None, Some}
use Rattle.circular_buffer.specs.Buffer.{Buffer, buffer}
use Rattle.pl_model.specs.Numbers.{most_capacity}
use Rattle.pl_segments.specs.declared.slice.Slice.{Slice}
use Rattle.pl_segments.specs.Segments.{segment_size}

-- the slots from the front to the back, and how many bytes may be held
pub record Ring : Type 0 where
  pub slots : List Slice
  pub capacity : ℕ

-- the bytes for each place: two places for a segment
abbrev pub place_size : ℕ
place_size = 2048

-- what may be the capacity of a ring
pub record IsCapacity (capacity : ℕ) : Type 0 where
  pub whole : capacity % segment_size ≡ 0
  pub least : segment_size ≤ capacity
  pub most : capacity ≤ most_capacity

-- the places of an idle pipe
abbrev pub few_places : ℕ
few_places = 2

-- a ring with more places keeps so few beside them, with no slots
abbrev pub IsBeside : (places : ℕ) → Option (Buffer Slice) → Type 0
IsBeside places None = places ≤ few_places
IsBeside places (Some b) = b ≡ buffer [] few_places

-- The places of a ring: two for each segment, at most as many as the greatest capacity wants, and those that it keeps beside them.
pub record HasPlaces (places : ℕ) (few : Option (Buffer Slice)) : Type 0 where
  pub even : places % 2 ≡ 0
  pub most : place_size * places ≤ most_capacity
  pub beside : IsBeside places few
