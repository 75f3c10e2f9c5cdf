-- Slots that nobody else reads.
use Rattle.std.specs.Prelude.{◌≡◌, ◌≤◌, ◌<◌, ℕ, ◌+◌, List, take, slice_get, Some}
use Rattle.pl_segments.specs.declared.slice.Slice.{Slice}
use Rattle.pl_segments.specs.Segments.{Map, holders}
use Rattle.pl_segments.specs.Slots.{total}

-- So many bytes from a place on lie in some slots from the first one on, and each slot in which some of them lie alone holds its segment.
pub record AreAlone (m : Map) (slots : List Slice) (first place count : ℕ) : Type 0 where
  pub begins : total (take first slots) ≤ place
  pub inside : place < total (take (first + 1) slots)
  pub ends : place + count ≤ total slots
  pub alone : (k : ℕ) (x : Slice) → first ≤ k → total (take k slots) < place + count → slice_get slots k ≡ Some x → holders m x.segment ≡ 1
