use Rattle.std.proofs.Common.{◌≡◌, ◌≤◌, ◌+◌, ◌*◌, ◌++◌, length}
use Rattle.pl_segments.specs.Segments.{segment_size, segment_at}
use Rattle.pl_segments.specs.Slices.{all_read}
use Rattle.pl_segments.specs.Turns.{Turns}
use Rattle.pl_segments.specs.Slots.{total, AllSolid}
use Rattle.pl_file.proofs.patch.put_chunks.Given as goal

-- the slots so far, and the rest of the bytes, give what was asked; each slot but the last is full, and the rest has room
abbrev pub invariant-loop-rest : goal.invariant-loop-rest
invariant-loop-rest g l = record {
  turns : Turns (segment_at l.fn.store) l.fn.patch.slots (segment_at l.store) l.patch.slots;
  read : all_read (segment_at l.store) l.patch.slots ++ l.rest ≡ all_read (segment_at l.fn.store) l.fn.patch.slots ++ l.bytes;
  solid : AllSolid l.patch.slots;
  room : length l.rest + segment_size ≤ segment_size * l.store.room;
  full : 1 ≤ length l.rest → segment_size * length l.patch.slots + length l.rest ≤ segment_size * length l.fn.patch.slots + length l.bytes;
  many : segment_size * length l.patch.slots + length l.rest ≤ segment_size * length l.fn.patch.slots + length l.bytes + segment_size;
  capacity : l.patch.capacity ≡ l.fn.patch.capacity;
  base : l.patch.base ≡ l.fn.patch.base;
  total : total l.patch.slots + length l.rest ≡ total l.fn.patch.slots + length l.bytes;
}

abbrev pub decreases-loop-rest : goal.decreases-loop-rest
decreases-loop-rest g l = length l.rest
