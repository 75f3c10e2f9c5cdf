use Rattle.std.proofs.Common.{◌-◌, ◌≤◌, length, vec_capacity}
use Rattle.pl_file.specs.Rows.{AreEmpty}
use Rattle.pl_file.proofs.pieces.empty_rows.Given as goal

-- so many rows of no slots so far
abbrev pub invariant-loop-alloc : goal.invariant-loop-alloc
invariant-loop-alloc g l = record {
  most : length l.rows.items ≤ l.count;
  room : l.count ≤ vec_capacity l.rows;
  empty : AreEmpty l.rows.items;
}

abbrev pub decreases-loop-alloc : goal.decreases-loop-alloc
decreases-loop-alloc g l = l.count - length l.rows.items
