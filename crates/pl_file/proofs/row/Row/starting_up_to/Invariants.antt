use Rattle.std.proofs.Common.{◌+◌, ◌-◌, ◌<◌, ◌≤◌, length, take}
use Rattle.pl_segments.specs.Slots.{total}
use Rattle.pl_file.proofs.row.Row.starting_up_to.Given as goal

-- the slots before the one span start in time, and those behind the other start too late
abbrev pub invariant-loop-low : goal.invariant-loop-low
invariant-loop-low g l = record {
  order : l.low ≤ l.high;
  most : l.high ≤ length l.self.slots;
  before : 1 ≤ l.low → l.self.base + total (take (l.low - 1) l.self.slots) ≤ l.place;
  after : l.high < length l.self.slots → l.place < l.self.base + total (take l.high l.self.slots);
}

abbrev pub decreases-loop-low : goal.decreases-loop-low
decreases-loop-low g l = l.high - l.low
