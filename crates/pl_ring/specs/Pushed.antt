-- What a push makes of slots.
use Rattle.std.specs.Prelude.{◌≡◌, ◌<◌, ◌≤◌, ℕ, ◌+◌, ◌*◌, ◌%◌, ◌^◌, Bool, List, [], ◌∷◌, ◌++◌, length, take, drop, count_by}
use Rattle.circular_buffer.specs.Buffer.{Buffer}
use Rattle.pl_segments.specs.declared.slice.Slice.{Slice}
use Rattle.pl_segments.specs.Segments.{Map, Segments, live_count}
use Rattle.pl_segments.specs.Slices.{AllLie, all_read}
use Rattle.pl_segments.specs.Slots.{total, AllSolid, solid_of, drop_bytes}
use Rattle.pl_segments.specs.Turns.{Turns}
use Rattle.pl_ring.specs.declared.plan.Plan.{Plan}
use Rattle.pl_ring.specs.Merging.{lens, AreMerged, IsFront, joining, merges_onto}
use Rattle.pl_ring.specs.Parts.{fresh}
use Rattle.pl_ring.specs.Ring.{place_size}

-- Slots that may stand in a ring: none is empty, and no two neighbours but the first pair fit one segment.
pub record AreOfRing (xs : List Slice) : Type 0 where
  pub solid : AllSolid xs
  pub merged : AreMerged (lens xs)

-- The slots of a ring stand in places, two for each segment, of which there are enough for so many bytes more.
pub record CanTake (ring : Buffer Slice) (count : ℕ) : Type 0 where
  pub slots : AreOfRing ring.items
  pub even : ring.capacity % 2 ≡ 0
  pub fits : total ring.items + count ≤ place_size * ring.capacity

-- What a push of slices makes after slots: how many become one with what stands before them, and how many slots there are then.
pub record IsPlan (old slices : List Slice) (plan : Plan) : Type 0 where
  pub merges : plan.merges ≡ merges_onto old (lens (solid_of slices))
  pub slots : plan.slots + plan.merges ≡ length old + length (solid_of slices)
  pub more : length old ≤ plan.slots
  pub few : plan.slots < 2 ^ 32

-- Slices are the front of a ring, have so many bytes, and fit after slots.
pub record FrontFits (m : Map) (old slices : List Slice) (count capacity : ℕ) : Type 0 where
  pub lie : AllLie m slices
  pub front : IsFront slices
  pub bytes : total slices ≡ count
  pub fits : total old + count ≤ capacity

-- Slots became others, which read these bytes after what those read.
pub record Gains (m : Map) (old : List Slice) (bytes : List ℕ) (n : Map) (new : List Slice) : Type 0 where
  pub turns : Turns m old n new
  pub read : all_read n new ≡ all_read m old ++ bytes

-- The slots of a ring became others in as many places, which read these bytes after what those read.
pub record Pushed (m : Map) (old : Buffer Slice) (bytes : List ℕ) (n : Map) (new : Buffer Slice) : Type 0 where
  pub gains : Gains m old.items bytes n new.items
  pub slots : AreOfRing new.items
  pub capacity : new.capacity ≡ old.capacity

-- The slots of a ring and slices that were held beside them became slots in as many places, which read what all those read.
pub record TookIn (m : Map) (old : Buffer Slice) (slices : List Slice) (n : Map) (new : Buffer Slice) : Type 0 where
  pub turns : Turns m (old.items ++ slices) n new.items
  pub read : all_read n new.items ≡ all_read m (old.items ++ slices)
  pub slots : AreOfRing new.items
  pub capacity : new.capacity ≡ old.capacity

-- The first bytes of some slots went to the end of others.
pub record Passed (count : ℕ) (m : Map) (from to : List Slice) (n : Map) (left got : List Slice) : Type 0 where
  pub turns : Turns m (to ++ from) n (got ++ left)
  pub slots : left ≡ drop_bytes count from
  pub rest : all_read n left ≡ drop count (all_read m from)
  pub read : all_read n got ≡ all_read m to ++ take count (all_read m from)

-- The slots are those of two rings, each in as many places as before.
pub record Moved (count : ℕ) (m : Map) (from to : Buffer Slice) (n : Map) (left got : Buffer Slice) : Type 0 where
  pub passed : Passed count m from.items to.items n left.items got.items
  pub slots : AreOfRing got.items
  pub given : left.capacity ≡ from.capacity
  pub capacity : got.capacity ≡ to.capacity

-- One slot was pushed after others. If it became one with the last, there is a slot less, at most one is new, and later slots become one
-- with what stands before them as they would have.
pub record PushedOne (old : List Slice) (slot : Slice) (new : List Slice) : Type 0 where
  pub plan : (rest : List ℕ) → merges_onto new rest + joining old slot ≡ merges_onto old (slot.len ∷ rest)
  pub count : length new + joining old slot ≡ length old + 1
  pub parts : (test : Slice → Bool) → count_by test new ≤ count_by test (old ++ slot ∷ []) + joining old slot

-- At most so many of the slots are none of some slices, and at most so many segments more are in use.
pub record MakesAtMost (most : ℕ) (there : List Slice) (s : Segments) (new : List Slice) (t : Segments) : Type 0 where
  pub slots : fresh there new ≤ most
  pub segments : live_count t.held ≤ live_count s.held + most

-- Slices were pushed after slots: each that became one with what stands before it is a slot less, and at most one slot and one segment
-- were made for it.
pub record MergesOnto (old slices : List Slice) (s : Segments) (new : List Slice) (t : Segments) : Type 0 where
  pub count : length new + merges_onto old (lens (solid_of slices)) ≡ length old + length (solid_of slices)
  pub makes : MakesAtMost (merges_onto old (lens (solid_of slices))) (old ++ slices) s new t
