use Rattle.std.proofs.Common.{◌≡◌, ◌-◌, ◌≤◌, length}
use Rattle.pl_file.proofs.Swapping.{underway}
use Rattle.pl_file.proofs.pieces.swap_last.Given as goal

-- the rows from the place on have taken their places
abbrev pub invariant-loop-place : goal.invariant-loop-place
invariant-loop-place g l = record {
  from : l.fn.first ≤ l.place;
  most : l.place ≤ l.fn.last;
  rows : l.rows.items ≡ underway l.fn.rows.items l.fn.first l.fn.last (length l.fn.rows.items - (l.fn.last - l.fn.first)) l.place;
}

abbrev pub decreases-loop-place : goal.decreases-loop-place
decreases-loop-place g l = l.place - l.fn.first
