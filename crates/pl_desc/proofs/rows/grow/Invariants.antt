use Rattle.std.proofs.Common.{◌≡◌, ℕ, ◌<◌, length}
use Rattle.pl_masks.specs.Masks.{has_place}
use Rattle.pl_desc.specs.Rows.{at}
use Rattle.pl_desc.specs.TableView.{named_all}
use Rattle.pl_desc.specs.Vacant.{AreVacant}
use Rattle.pl_desc.proofs.rows.grow.Given as goal

-- the rows so far are told by the set, which has a place for each that comes, and name the same keys
abbrev pub invariant-loop-row : goal.invariant-loop-row
invariant-loop-row g l = record {
  len : length l.keys.items ≡ l.row;
  places : (k : ℕ) → k < l.more → has_place l.free k;
  same : (k : ℕ) → at (named_all l.keys.items) k ≡ at (named_all l.fn.keys.items) k;
  vacant : AreVacant (named_all l.keys.items) l.free;
}
