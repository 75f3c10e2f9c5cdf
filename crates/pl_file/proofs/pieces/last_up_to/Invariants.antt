use Rattle.std.proofs.Common.{◌-◌, ◌<◌, ◌≤◌, length, take}
use Rattle.pl_segments.specs.Slots.{total}
use Rattle.pl_file.specs.Rows.{flat}
use Rattle.pl_file.proofs.pieces.last_up_to.Given as goal

-- the chunks before the one span start in time, and those behind the other start too late
abbrev pub invariant-loop-low : goal.invariant-loop-low
invariant-loop-low g l = record {
  some : 1 ≤ l.low;
  order : l.low ≤ l.high;
  most : l.high ≤ length l.rows;
  before : total (flat (take (l.low - 1) l.rows)) ≤ l.place;
  after : l.high < length l.rows → l.place < total (flat (take l.high l.rows));
}

abbrev pub decreases-loop-low : goal.decreases-loop-low
decreases-loop-low g l = l.high - l.low
