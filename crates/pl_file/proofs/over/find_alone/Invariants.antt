use Rattle.std.proofs.Common.{◌≡◌, ◌+◌, ◌<◌, ◌≤◌, ℕ, Some, take}
use Rattle.std.specs.Prelude.{slice_get}
use Rattle.pl_segments.specs.declared.slice.Slice.{Slice}
use Rattle.pl_segments.specs.Segments.{segment_at, holders}
use Rattle.pl_segments.specs.Slots.{total}
use Rattle.pl_file.specs.Rows.{index, IsSpot}
use Rattle.pl_file.proofs.over.find_alone.Given as goal

-- the slots so far alone hold their segments, and some of the bytes lie in this one
abbrev pub invariant-loop : goal.invariant-loop
invariant-loop g l = record {
  spot : IsSpot l.chunks l.spot;
  order : index l.chunks l.first ≤ index l.chunks l.spot;
  here : total (take (index l.chunks l.spot) l.chunks.slots) + l.left ≡ l.place + l.count;
  some : 1 ≤ l.left;
  alone : (k : ℕ) (x : Slice) → index l.chunks l.first ≤ k → k < index l.chunks l.spot → slice_get l.chunks.slots k ≡ Some x → holders (segment_at l.store) x.segment ≡ 1;
}
