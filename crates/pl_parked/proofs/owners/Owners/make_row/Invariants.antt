use Rattle.std.proofs.Common.{◌≡◌, ◌-◌, ℕ, suc, length}
use Rattle.pl_parked.specs.Owners.{owns}
use Rattle.pl_parked.proofs.owners.Owners.make_row.Given as goal

-- no process has another call
abbrev pub invariant-loop-self : goal.invariant-loop-self
invariant-loop-self g l = (other number : ℕ) → owns l.self other number ≡ owns l.fn.self other number

abbrev pub decreases-loop-self : goal.decreases-loop-self
decreases-loop-self g l = suc l.pid - length l.self.rows.items
