use Rattle.std.proofs.Common.{◌≡◌, ℕ, length}
use Rattle.pl_numbered.specs.Entries.{values_in, empties}
use Rattle.pl_numbered.specs.Rising.{Rise}
use Rattle.pl_numbered.proofs.entries.drop_empty_end.Given as goal

-- The empty entries are counted, no value was dropped, and the others rise as before.
abbrev pub invariant-loop-end : goal.invariant-loop-end
invariant-loop-end g l = (l.empty ≡ empties l.entries.items) × (values_in l.entries.items ≡ values_in l.fn.entries.items) × ((next : ℕ) → Rise 0 next l.fn.entries.items → Rise 0 next l.entries.items)

abbrev pub decreases-loop-end : goal.decreases-loop-end
decreases-loop-end g l = length l.entries.items
