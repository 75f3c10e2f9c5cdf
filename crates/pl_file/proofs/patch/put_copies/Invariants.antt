use Rattle.std.proofs.Common.{◌≡◌, ◌≤◌, ◌<◌, ◌+◌, ◌*◌, ◌^◌, ◌++◌, length}
use Rattle.std.specs.Prelude.{replicate}
use Rattle.pl_segments.specs.Segments.{segment_size, segment_at, holders}
use Rattle.pl_segments.specs.Slices.{Lies, reads, all_read}
use Rattle.pl_segments.specs.Turns.{Turns}
use Rattle.pl_segments.specs.Slots.{total, AllSolid}
use Rattle.pl_file.proofs.patch.put_copies.Given as goal

-- the slots so far, and the zeros that are left, give what was asked; each slot but the last is full
abbrev pub invariant-loop-rest : goal.invariant-loop-rest
invariant-loop-rest g l = record {
  turns : Turns (segment_at l.fn.store) l.fn.patch.slots (segment_at l.store) l.patch.slots;
  read : all_read (segment_at l.store) l.patch.slots ++ replicate l.rest 0 ≡ all_read (segment_at l.fn.store) l.fn.patch.slots ++ replicate l.count 0;
  solid : AllSolid l.patch.slots;
  lies : Lies (segment_at l.store) l.zeros;
  zeros : reads (segment_at l.store) l.zeros ≡ replicate l.zeros.len 0;
  few : holders (segment_at l.store) l.zeros.segment + l.rest < 2 ^ 127;
  room : l.store.room ≡ l.fn.store.room;
  full : 1 ≤ l.rest → segment_size * length l.patch.slots + l.rest ≤ segment_size * length l.fn.patch.slots + l.count;
  many : segment_size * length l.patch.slots + l.rest ≤ segment_size * length l.fn.patch.slots + l.count + segment_size;
  capacity : l.patch.capacity ≡ l.fn.patch.capacity;
  base : l.patch.base ≡ l.fn.patch.base;
  total : total l.patch.slots + l.rest ≡ total l.fn.patch.slots + l.count;
}

abbrev pub decreases-loop-rest : goal.decreases-loop-rest
decreases-loop-rest g l = l.rest
