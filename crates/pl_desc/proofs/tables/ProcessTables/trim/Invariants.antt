use Rattle.std.proofs.Common.{◌≡◌, ◌≤◌, length}
use Rattle.pl_desc.specs.Rows.{table_of, naming}
use Rattle.pl_desc.specs.TablesView.{tables_in}
use Rattle.pl_desc.specs.Vacant.{AreVacant}
use Rattle.pl_desc.proofs.tables.ProcessTables.trim.Given as goal

-- all places are kept, and hold the same tables
abbrev pub invariant-loop-kept : goal.invariant-loop-kept
invariant-loop-kept g l = record {
  all : l.kept ≡ length l.self-inside.list.items;
  fewer : length l.self-inside.list.items ≤ length l.fn.self.tables;
  tables : table_of (tables_in l.self-inside.list.items) ≡ table_of l.fn.self.tables;
  names : naming (tables_in l.self-inside.list.items) ≡ naming l.fn.self.tables;
  vacant : AreVacant l.self-inside.list.items l.self-inside.vacant;
}

abbrev pub decreases-loop-kept : goal.decreases-loop-kept
decreases-loop-kept g l = l.kept
