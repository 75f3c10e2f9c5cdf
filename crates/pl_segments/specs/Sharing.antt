-- Several lists of slots over one store.
use Rattle.std.specs.Prelude.{◌≡◌, ◌≢◌, ◌↔◌, ◌<◌, ◌≤◌, ℕ, ◌+◌, true, is_some, Option, List, [], ◌∷◌, length, slice_index_or, slice_set}
use Rattle.pl_segments.specs.declared.slice.Slice.{Slice}
use Rattle.pl_segments.specs.Segments.{Segment, Map, at, holders, AreGood}
use Rattle.pl_segments.specs.Slices.{AllLie, all_read, naming}
use Rattle.pl_segments.specs.Turns.{Holds, Turns}

-- how many slots of all lists name a segment
abbrev pub named : List (List Slice) → ℕ → ℕ
named [] key = 0
named (xs ∷ all) key = naming xs key + named all key

-- the slots of one list, none past the last
abbrev pub slots_at : List (List Slice) → ℕ → List Slice
slots_at all p = slice_index_or all p []

-- the holders of each segment are as many as the slots that name it, and all slots lie in filled parts
pub record AreShared (m : Map) (all : List (List Slice)) : Type 0 where
  pub counted : (key : ℕ) → holders m key ≡ named all key
  pub lie : (p : ℕ) → AllLie m (slots_at all p)

-- the slots of each list are held
abbrev pub OneListIsHeld : Type 0
OneListIsHeld = (m : Map) (all : List (List Slice)) (p : ℕ) → p < length all → AreShared m all → Holds m (slots_at all p)

-- a change of the slots of one list keeps it so
abbrev pub StaysShared : Type 0
StaysShared =
    (m n : Map) (all : List (List Slice)) (p : ℕ) (ys : List Slice) → p < length all → AreShared m all → Turns m (slots_at all p) n ys →
    AreShared n (slice_set all p ys)

-- and the slots of every other list read what they read
abbrev pub OthersReadTheSame : Type 0
OthersReadTheSame =
    (m n : Map) (all : List (List Slice)) (p : ℕ) (ys : List Slice) → p < length all → AreShared m all → Turns m (slots_at all p) n ys →
    (q : ℕ) → q ≢ p → all_read n (slots_at (slice_set all p ys) q) ≡ all_read m (slots_at all q)

-- a segment is there exactly where a slot names it
abbrev pub HoldsTheNamed : Type 0
HoldsTheNamed =
    (held : List (Option Segment)) (all : List (List Slice)) → AreGood held → AreShared (at held) all →
    (key : ℕ) → (is_some (at held key) ≡ true) ↔ (1 ≤ named all key)
