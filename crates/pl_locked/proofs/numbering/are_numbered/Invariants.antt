use Rattle.std.proofs.Common.{◌≡◌, ℕ, length, take, nat_eq, unwrap_or}
use Rattle.std.specs.HashMap.{get}
use Rattle.pl_model.specs.History.{of}
use Rattle.pl_locked.specs.Journals.{AreNumbered}
use Rattle.pl_locked.proofs.numbering.are_numbered.Given as goal

-- the entries so far are counted by caller, and their numbers are right
abbrev pub invariant-loop-entry : goal.invariant-loop-entry
invariant-loop-entry g l = record {
  counted : (k : ℕ) → unwrap_or (get nat_eq l.counts k) 0 ≡ length (of k (take l.entry-index l.entries));
  numbered : AreNumbered (take l.entry-index l.entries);
}
