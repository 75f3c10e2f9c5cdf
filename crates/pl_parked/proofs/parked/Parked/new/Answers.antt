use Rattle.std.proofs.Common.{arith}
use Rattle.pl_parked.proofs.parked.Parked.new.Goals as goal

pub invariant_of-result : goal.invariant_of-result
invariant_of-result g c = rw c.new.ensures (record { rise = omega arith; owned = c.new-2.ensures; listed = c.new-3.ensures })
