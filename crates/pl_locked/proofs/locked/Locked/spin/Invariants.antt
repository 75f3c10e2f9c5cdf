use Rattle.std.proofs.Common.{◌≡◌}
use Rattle.pl_locked.proofs.locked.Locked.spin.Given as goal

-- the caller is as it was
abbrev pub invariant-loop : goal.invariant-loop
invariant-loop g l = l.me ≡ l.fn.me
