use Rattle.std.proofs.Common.{◌≡◌, ◌≤◌, ◌+◌, ◌-◌, ℕ, length, drop}
use Rattle.pl_segments.specs.Segments.{segment_at, holders, live_count}
use Rattle.pl_segments.specs.Slots.{total, AllSolid, solid_of, front_of}
use Rattle.pl_file.proofs.Patching.{Putting}
use Rattle.pl_file.proofs.patch.put_slices.Given as goal

-- the slots so far, and the slices of the bytes that are left, are what was asked
abbrev pub invariant-loop-rest : goal.invariant-loop-rest
invariant-loop-rest g l = record {
  putting : Putting (segment_at l.fn.store) (segment_at l.store) l.fn.patch.slots l.patch.slots (solid_of (front_of l.count l.slices)) (solid_of (front_of l.rest (drop l.place l.slices)));
  few : (key : ℕ) → holders (segment_at l.store) key ≤ holders (segment_at l.fn.store) key + l.place;
  solid : AllSolid l.patch.slots;
  in_use : live_count l.store.held ≡ live_count l.fn.store.held;
  room : l.store.room ≡ l.fn.store.room;
  place : l.place ≤ length l.slices;
  many : length l.patch.slots ≤ length l.fn.patch.slots + l.place;
  capacity : l.patch.capacity ≡ l.fn.patch.capacity;
  base : l.patch.base ≡ l.fn.patch.base;
  left : total l.patch.slots + l.rest ≡ total l.fn.patch.slots + l.count;
}

abbrev pub decreases-loop-rest : goal.decreases-loop-rest
decreases-loop-rest g l = length l.slices - l.place
