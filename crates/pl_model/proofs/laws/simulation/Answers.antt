use Rattle.std.proofs.Common.{refl}
use Rattle.pl_model.specs.Step.{core_step}
use Rattle.pl_model.proofs.renaming.Simulates.{came}
use Rattle.pl_model.proofs.laws.simulation.Goals as goal

pub returns : goal.returns
returns g c = λ old new s x reply stands comes. came old new s x reply stands (core_step old x) refl comes
