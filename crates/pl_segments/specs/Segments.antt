-- Segments by key, as contracts see a store of them.
use Rattle.std.specs.Prelude.{◌≤◌, ℕ, ◌+◌, ◌-◌, nat_eq, List, [], ◌++◌, length, min, Option, None, Some, IfSome, is_some, if◌then◌else◌, slice_index_or, count_by}
use Rattle.std.specs.List.{splice}

-- how many bytes fit a segment
abbrev pub segment_size : ℕ
segment_size = 4096

-- the bytes that a segment is filled with, and how many hold it
pub record Segment : Type 0 where
  pub filled : List ℕ
  pub holders : ℕ

-- The segments that are held, by key, and how many more can be made without memory.
pub record Segments : Type 0 where
  pub held : List (Option Segment)
  pub room : ℕ

-- a map from keys
abbrev pub Map : Type 0
Map = ℕ → Option Segment

-- what a list has at a key
abbrev pub at : {V : Type 0} → List (Option V) → ℕ → Option V
at xs key = slice_index_or xs key None

-- what a store has at a key
abbrev pub segment_at : Segments → Map
segment_at m = at m.held

-- the map with this at a key
abbrev pub set_at : {V : Type 0} → (ℕ → Option V) → ℕ → Option V → ℕ → Option V
set_at m key v = λ q. if nat_eq key q then v else m q

-- the bytes of a segment, none of none
abbrev pub bytes_in : Option Segment → List ℕ
bytes_in None = []
bytes_in (Some s) = s.filled

-- the holders of a segment, none of none
abbrev pub holders_in : Option Segment → ℕ
holders_in None = 0
holders_in (Some s) = s.holders

-- the bytes that a segment is filled with
abbrev pub filled : Map → ℕ → List ℕ
filled m key = bytes_in (m key)

-- how many hold a segment
abbrev pub holders : Map → ℕ → ℕ
holders m key = holders_in (m key)

-- a segment that is there is held, and has no more bytes than fit
abbrev pub IsGood : Option Segment → Type 0
IsGood o = IfSome o (λ s. (1 ≤ s.holders) × (length s.filled ≤ segment_size))

-- so it is with all segments
pub record AreGood (slots : List (Option Segment)) : Type 0 where
  pub good : (key : ℕ) → IsGood (at slots key)

-- how many segments are held
unfoldable pub live_count : List (Option Segment) → ℕ
live_count slots = count_by is_some slots

-- the segment with a holder more
abbrev pub more_held : Option Segment → Option Segment
more_held None = None
more_held (Some s) = Some (record s { holders = s.holders + 1 })

-- the segment with a holder less, and none without its last one
abbrev pub less_held : Option Segment → Option Segment
less_held None = None
less_held (Some s) = if nat_eq s.holders 1 then None else Some (record s { holders = s.holders - 1 })

-- the segment with more bytes at its end
abbrev pub longer : List ℕ → Option Segment → Option Segment
longer more None = None
longer more (Some s) = Some (record s { filled = s.filled ++ more })

-- at most so many spare segments are left
abbrev pub trimmed : ℕ → Segments → Segments
trimmed most m = record m { room = min most m.room }

-- the segment with bytes from a place on, over those that are there
abbrev pub overwritten : ℕ → List ℕ → Option Segment → Option Segment
overwritten place bytes None = None
overwritten place bytes (Some s) = Some (record s { filled = splice s.filled place (place + length bytes) bytes })
