use Rattle.std.proofs.Common.{◌≡◌, take}
use Rattle.pl_segments.specs.Segments.{segment_at}
use Rattle.pl_segments.specs.Slices.{all_read}
use Rattle.pl_file.proofs.file.read_all.Given as goal

-- the bytes of the slices so far
abbrev pub invariant-loop-i : goal.invariant-loop-i
invariant-loop-i g l = l.bytes.items ≡ all_read (segment_at l.store) (take l.i l.slices)
