use Rattle.std.proofs.Common.{◌≡◌, ℕ, ◌≤◌, length}
use Rattle.pl_desc.specs.Rows.{at}
use Rattle.pl_desc.specs.TableView.{named_all}
use Rattle.pl_desc.specs.Vacant.{AreVacant}
use Rattle.pl_desc.proofs.rows.trim.Given as goal

-- the rows that are left are told by the set, and name the same keys
abbrev pub invariant-loop-keys : goal.invariant-loop-keys
invariant-loop-keys g l = record {
  fewer : length l.keys.items ≤ length l.fn.keys.items;
  same : (k : ℕ) → at (named_all l.keys.items) k ≡ at (named_all l.fn.keys.items) k;
  vacant : AreVacant (named_all l.keys.items) l.free;
}

abbrev pub decreases-loop-keys : goal.decreases-loop-keys
decreases-loop-keys g l = length l.keys.items
