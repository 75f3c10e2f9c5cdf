use Rattle.std.proofs.Common.{arith}
use Rattle.pl_script.proofs.streams.ReadsSource.read.Goals as goal

pub returns-then-is_err-clause-spends : goal.returns-then-is_err-clause-spends
returns-then-is_err-clause-spends g c = omega (arith, c.requires)

pub returns-else-is_err-clause-spends : goal.returns-else-is_err-clause-spends
returns-else-is_err-clause-spends g c = omega (arith, c.requires)
