use Rattle.std.proofs.Common.{take}
use Rattle.pl_model.specs.Numbered.{opening}
use Rattle.pl_state.specs.Makes.{Stands}
use Rattle.pl_locked.proofs.Replaying.{Goes, after_first}
use Rattle.pl_locked.proofs.journal.replays.Given as goal

-- the kernel stands for the state after the entries so far, whose replies are the machine's
abbrev pub invariant-loop-entry : goal.invariant-loop-entry
invariant-loop-entry g l = record {
  stands : Stands l.kernel (after_first (opening l.fn.limits) l.entry-index l.entries);
  goes : Goes (opening l.fn.limits) (take l.entry-index l.entries);
}
