use Rattle.std.proofs.Common.{◌+◌, ◌*◌, ◌≤◌, length, vec_capacity}
use Rattle.pl_file.specs.Rows.{most_in_chunk, piece, AreEmpty}
use Rattle.pl_file.proofs.Splitting.{Adding}
use Rattle.pl_file.proofs.pieces.push_chunks.Given as goal

-- the rows that are added so far and what is left are the row, and there is memory for what is left
abbrev pub invariant-loop-most : goal.invariant-loop-most
invariant-loop-most g l = record {
  adding : Adding l.fn.rows.items l.rows.items l.fn.row l.row;
  some : 1 ≤ length l.row.slots;
  empty : AreEmpty l.pieces.items;
  least : piece ≤ l.most;
  most : l.most ≤ most_in_chunk;
  enough : length l.row.slots ≤ l.most + piece * length l.pieces.items;
  room : length l.rows.items + length l.pieces.items + 1 ≤ vec_capacity l.rows;
}

abbrev pub decreases-loop-most : goal.decreases-loop-most
decreases-loop-most g l = length l.row.slots
