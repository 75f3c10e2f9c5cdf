use Rattle.std.proofs.Common.{subst}
use Rattle.pl_desc.specs.Descs.{IsTidy}
use Rattle.pl_desc.proofs.Sound.{tidy}
use Rattle.pl_desc.proofs.descs.Descs.has.Goals as goal

pub returns-clause-tidy : goal.returns-clause-tidy
returns-clause-tidy g c = subst IsTidy c.self.view_is (tidy _ _ _ c.self.invariant _)
