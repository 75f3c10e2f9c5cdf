use Rattle.std.proofs.Common.{◌≡◌, ℕ, ◌≤◌, length, None}
use Rattle.pl_desc.specs.Rows.{at}
use Rattle.pl_desc.specs.TableView.{named_all}
use Rattle.pl_desc.proofs.rows.used.Given as goal

-- none of the rows from there on is of an open descriptor
abbrev pub invariant-loop-used : goal.invariant-loop-used
invariant-loop-used l = record {
  few : l.used ≤ length l.keys;
  free : (k : ℕ) → l.used ≤ k → at (named_all l.keys) k ≡ None;
}

abbrev pub decreases-loop-used : goal.decreases-loop-used
decreases-loop-used l = l.used
