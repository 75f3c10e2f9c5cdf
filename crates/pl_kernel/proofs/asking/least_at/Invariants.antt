use Rattle.std.specs.Prelude.{◌-◌, ◌+◌, ◌*◌, ◌<◌, ◌^◌}
use Rattle.pl_state.specs.Contents.{core_of}
use Rattle.pl_kernel.proofs.index.Nodes.{AreAsked}
use Rattle.pl_kernel.proofs.asking.least_at.Given as goal

-- the calls before this place were asked
abbrev pub invariant-loop-next : goal.invariant-loop-next
invariant-loop-next g l = AreAsked (core_of l.state) l.initial.waiters l.waiters l.node l.from l.key l.least × (l.key.number < 2 ^ 64)

-- the places from there on
abbrev pub decreases-loop-next : goal.decreases-loop-next
decreases-loop-next g l = 340282366920938463463374607431768211456 - (18446744073709551616 * l.key.queue + l.key.number)
