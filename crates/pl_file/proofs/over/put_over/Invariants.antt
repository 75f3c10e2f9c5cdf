use Rattle.std.proofs.Common.{◌≡◌, ◌+◌, ◌-◌, ◌<◌, ◌≤◌, length, take, drop}
use Rattle.pl_segments.specs.Segments.{segment_at}
use Rattle.pl_segments.specs.Slices.{all_read}
use Rattle.pl_segments.specs.Turns.{Turns}
use Rattle.pl_segments.specs.Slots.{total}
use Rattle.pl_file.specs.File.{written}
use Rattle.pl_file.specs.Rows.{index, IsSpot}
use Rattle.pl_file.proofs.over.put_over.Given as goal

-- the bytes before the rest are written, and the rest begins in this slot
abbrev pub invariant-loop-rest : goal.invariant-loop-rest
invariant-loop-rest g l = record {
  spot : IsSpot l.chunks l.spot;
  order : index l.chunks l.fn.first ≤ index l.chunks l.spot;
  here : 1 ≤ length l.rest → total (take (index l.chunks l.spot) l.chunks.slots) + l.at + length l.rest ≡ l.place + length l.bytes;
  few : length l.rest ≤ length l.bytes;
  rest : l.rest ≡ drop (length l.bytes - length l.rest) l.bytes;
  inside : 1 ≤ length l.rest → 1 ≤ l.at → total (take (index l.chunks l.spot) l.chunks.slots) + l.at < total (take (index l.chunks l.spot + 1) l.chunks.slots);
  turns : Turns (segment_at l.fn.store) l.chunks.slots (segment_at l.store) l.chunks.slots;
  read : all_read (segment_at l.store) l.chunks.slots ≡ written l.place (take (length l.bytes - length l.rest) l.bytes) (all_read (segment_at l.fn.store) l.chunks.slots);
}

abbrev pub decreases-loop-rest : goal.decreases-loop-rest
decreases-loop-rest g l = length l.rest
