use Rattle.std.proofs.Common.{length, ◌-◌, ◌≡◌, ◌≤◌, ◌++◌, drop, take}
use Rattle.std.specs.Prelude.{vec_capacity, vec_len}
use Rattle.pl_segments.specs.Segments.{segment_at}
use Rattle.pl_segments.specs.Slices.{all_read}
use Rattle.pl_ring.proofs.front.add_bytes.Given as goal

-- the bytes so far, and what is still to come of the slots that are left, give what was asked
abbrev pub invariant-loop-place : goal.invariant-loop-place
invariant-loop-place g l = record {
  read : l.bytes.items ++ take (l.count - vec_len l.bytes) (all_read (segment_at l.store) (drop l.place l.slots)) ≡ l.fn.bytes.items ++ take (l.count - vec_len l.fn.bytes) (all_read (segment_at l.store) l.slots);
  len : vec_len l.bytes ≤ l.count;
  capacity : vec_capacity l.fn.bytes ≤ vec_capacity l.bytes;
  place : l.place ≤ length l.slots;
}

abbrev pub decreases-loop-place : goal.decreases-loop-place
decreases-loop-place g l = length l.slots - l.place
