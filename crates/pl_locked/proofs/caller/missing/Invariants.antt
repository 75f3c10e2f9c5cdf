use Rattle.std.proofs.Common.{ℕ, ◌<◌}
use Rattle.pl_locked.specs.Views.{HasCaller}
use Rattle.pl_locked.proofs.caller.missing.Given as goal

abbrev pub invariant-loop-number : goal.invariant-loop-number
invariant-loop-number g l = (k : ℕ) → k < l.number → HasCaller l.callers k
