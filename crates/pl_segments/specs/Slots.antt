-- Slots as bytes.
use Rattle.std.specs.Prelude.{◌≤◌, ℕ, ◌+◌, ◌-◌, nat_eq, nat_le, nat_lt, List, [], ◌∷◌, if◌then◌else◌}
use Rattle.pl_segments.specs.declared.slice.Slice.{Slice}
use Rattle.pl_segments.specs.Segments.{segment_size, Map}
use Rattle.pl_segments.specs.Slices.{one_if, room_after}

-- how many bytes slots have
abbrev pub total : List Slice → ℕ
total [] = 0
total (x ∷ xs) = x.len + total xs

-- no slot is empty
abbrev pub AllSolid : List Slice → Type 0
AllSolid [] = Unit {0}
AllSolid (x ∷ xs) = (1 ≤ x.len) × AllSolid xs

-- the slices that aren't empty
abbrev pub solid_of : List Slice → List Slice
solid_of [] = []
solid_of (x ∷ xs) = if nat_eq x.len 0 then solid_of xs else x ∷ solid_of xs

-- a slice without its first bytes, and with no more than so many
abbrev pub cut_front : ℕ → Slice → Slice
cut_front n x = record x { from = x.from + n; len = x.len - n }

abbrev pub cut_end : ℕ → Slice → Slice
cut_end n x = record x { len = n }

-- the slots without their first bytes
abbrev pub drop_bytes : ℕ → List Slice → List Slice
drop_bytes n [] = []
drop_bytes n (x ∷ xs) = if nat_le x.len n then drop_bytes (n - x.len) xs else cut_front n x ∷ xs

-- the slices of the first bytes
abbrev pub front_of : ℕ → List Slice → List Slice
front_of n [] = []
front_of n (x ∷ xs) = if nat_lt x.len n then x ∷ front_of (n - x.len) xs else (if nat_eq n 0 then [] else cut_end n x ∷ [])

-- how many bytes the last of a slot and others has
abbrev pub last_from : Slice → List Slice → ℕ
last_from x [] = x.len
last_from x (y ∷ ys) = last_from y ys

-- how many bytes the last slot has, 0 of none
abbrev pub last_len : List Slice → ℕ
last_len [] = 0
last_len (x ∷ xs) = last_from x xs

-- how many bytes can be appended to the last of a slot and others
abbrev pub room_last : Map → Slice → List Slice → ℕ
room_last m x [] = room_after m x
room_last m x (y ∷ ys) = room_last m y ys

-- how many bytes can be appended to the last slot
abbrev pub tail_room : Map → List Slice → ℕ
tail_room m [] = 0
tail_room m (x ∷ xs) = room_last m x xs

-- 0 where the last slot is all of its segment, and 1 where it isn't, or there is none
abbrev pub ends_in_part : Map → List Slice → ℕ
ends_in_part m xs = one_if (nat_lt (tail_room m xs + last_len xs) segment_size)
