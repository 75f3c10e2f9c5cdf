use Rattle.std.proofs.Common.{◌≡◌, ◌++◌, ◌+◌, ◌≤◌, take, drop}
use Rattle.std.specs.Prelude.{count_by}
use Rattle.pl_model.specs.Poll.{is_ready}
use Rattle.pl_polls.specs.Masks.{masks_from, masks_of}
use Rattle.pl_polls.specs.Entries.{asked, marked}
use Rattle.pl_polls.proofs.into.note_masks.Given as goal

-- the entries so far are noted and counted, and those to come will be
abbrev pub invariant-loop-place : goal.invariant-loop-place
invariant-loop-place g l = record {
  noted : take l.place l.entries ++ marked (drop l.place l.entries) (masks_from l.kernel l.descriptions l.before (asked (drop l.place l.entries))) ≡ marked l.initial.entries (masks_of l.kernel l.descriptions (asked l.initial.entries));
  ready : l.ready + count_by is_ready (masks_from l.kernel l.descriptions l.before (asked (drop l.place l.entries))) ≡ count_by is_ready (masks_of l.kernel l.descriptions (asked l.initial.entries));
  few : l.before ≤ l.place;
  fewer : l.ready ≤ l.place;
}
