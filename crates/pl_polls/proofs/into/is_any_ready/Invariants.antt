use Rattle.std.proofs.Common.{◌≡◌, ◌≤◌, drop}
use Rattle.std.specs.List.{list_any}
use Rattle.pl_model.specs.Poll.{is_ready}
use Rattle.pl_polls.specs.Masks.{masks_from, masks_of}
use Rattle.pl_polls.specs.Entries.{asked}
use Rattle.pl_polls.proofs.into.is_any_ready.Given as goal

-- the masks so far are empty
abbrev pub invariant-loop-entry : goal.invariant-loop-entry
invariant-loop-entry g l = record {
  none : list_any is_ready (masks_from l.kernel l.descriptions l.before (asked (drop l.entry-index l.entries))) ≡ list_any is_ready (masks_of l.kernel l.descriptions (asked l.entries));
  few : l.before ≤ l.entry-index;
}
