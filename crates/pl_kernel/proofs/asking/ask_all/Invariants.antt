use Rattle.std.proofs.Common.{◌≤◌, ◌-◌, ◌^◌}
use Rattle.pl_state.specs.Contents.{core_of}
use Rattle.pl_kernel.specs.Progress.{is_ready}
use Rattle.pl_kernel.proofs.NextReady.{NoneYet}
use Rattle.pl_kernel.proofs.asking.ask_all.Given as goal

-- no call that was passed is ready
abbrev pub invariant-loop-number : goal.invariant-loop-number
invariant-loop-number g l = (l.from ≤ l.least) × NoneYet (is_ready (core_of l.state)) l.from l.least

abbrev pub decreases-loop-number : goal.decreases-loop-number
decreases-loop-number g l = 2 ^ 64 - l.least
