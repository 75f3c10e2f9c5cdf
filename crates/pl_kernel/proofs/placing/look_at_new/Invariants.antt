use Rattle.std.proofs.Common.{◌-◌, ◌^◌}
use Rattle.pl_state.specs.Contents.{core_of}
use Rattle.pl_kernel.specs.Index.{Knows}
use Rattle.pl_kernel.proofs.placing.look_at_new.Given as goal

-- the index knows what waits
abbrev pub invariant-loop-number : goal.invariant-loop-number
invariant-loop-number g l = Knows (core_of l.state) l.waiters

abbrev pub decreases-loop-number : goal.decreases-loop-number
decreases-loop-number g l = 2 ^ 64 - l.waiters.looked
