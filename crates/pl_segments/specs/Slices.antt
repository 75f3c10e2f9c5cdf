-- Slices of segments, what they read, and how often they name a segment.
use Rattle.std.specs.Prelude.{◌≤◌, ℕ, ◌+◌, ◌-◌, nat_eq, nat_le, nat_lt, Bool, List, [], ◌∷◌, ◌++◌, length, take, drop, Result, Ok, Err, if◌then◌else◌}
use Rattle.pl_segments.specs.declared.slice.Slice.{Slice}
use Rattle.pl_segments.specs.declared.fault.AppendFault.{AppendFault}
use Rattle.pl_segments.specs.declared.fault.AppendFault.TheVariants.{NotAtEnd, NoRoom}
use Rattle.pl_segments.specs.Segments.{segment_size, Map, filled, holders}

-- a slice lies in the filled part of a segment that is held
pub record Lies (m : Map) (x : Slice) : Type 0 where
  pub here : 1 ≤ holders m x.segment
  pub within : x.from + x.len ≤ length (filled m x.segment)

-- what a slice reads
unfoldable pub reads : Map → Slice → List ℕ
reads m x = take x.len (drop x.from (filled m x.segment))

-- what slices read, one after another
abbrev pub all_read : Map → List Slice → List ℕ
all_read m [] = []
all_read m (x ∷ xs) = reads m x ++ all_read m xs

-- all slices lie in filled parts
abbrev pub AllLie : Map → List Slice → Type 0
AllLie m [] = Unit {0}
AllLie m (x ∷ xs) = Lies m x × AllLie m xs

-- 1 where the test holds, else 0
abbrev pub one_if : Bool → ℕ
one_if b = if b then 1 else 0

-- how many slices name a segment
abbrev pub naming : List Slice → ℕ → ℕ
naming [] key = 0
naming (x ∷ xs) key = one_if (nat_eq x.segment key) + naming xs key

-- the slice with so many bytes more
abbrev pub longer_by : ℕ → Slice → Slice
longer_by n x = record x { len = x.len + n }

-- what an append of so many bytes to a slice gives
abbrev pub appended : Map → Slice → ℕ → Result Slice AppendFault
appended m x n =
    if nat_eq (x.from + x.len) (length (filled m x.segment))
    then (if nat_le (x.from + x.len + n) segment_size then Ok (longer_by n x) else Err NoRoom)
    else Err NotAtEnd

-- how many bytes can be appended to a slice: as many as its segment has room for, where it ends at the segment's end
abbrev pub room_after : Map → Slice → ℕ
room_after m x = if nat_eq (x.from + x.len) (length (filled m x.segment)) then segment_size - (x.from + x.len) else 0

-- 0 of a slice that is all of its segment, from the segment's front to where it is filled to, and 1 of any other
abbrev pub is_part : Map → Slice → ℕ
is_part m x = one_if (nat_lt (room_after m x + x.len) segment_size)
