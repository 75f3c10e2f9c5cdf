use Rattle.std.proofs.Common.{◌≤◌, ◌<◌, ◌-◌, length}
use Rattle.pl_file.specs.Rows.{slots_in}
use Rattle.pl_file.proofs.chunks.behind_scattered.Given as goal

-- the chunks up to the end are there, and the first of them has many slots
abbrev pub invariant-loop-end : goal.invariant-loop-end
invariant-loop-end g l = record {
  from : l.chunk ≤ l.end;
  most : l.end ≤ length l.rows;
  many : l.chunk < l.end → 16 < length (slots_in l.rows l.chunk);
}

abbrev pub decreases-loop-end : goal.decreases-loop-end
decreases-loop-end g l = length l.rows - l.end
