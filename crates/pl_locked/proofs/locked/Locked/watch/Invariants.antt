use Rattle.pl_locked.specs.Views.{Sees}
use Rattle.pl_locked.proofs.locked.Locked.watch.Given as goal

-- the caller has only looked so far
abbrev pub invariant-loop : goal.invariant-loop
invariant-loop g l = Sees l.fn.me l.me
