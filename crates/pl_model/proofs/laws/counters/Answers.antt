use Rattle.pl_model.proofs.renaming.Simulates.{below_step}
use Rattle.pl_model.proofs.laws.counters.Goals as goal

pub returns : goal.returns
returns g c = below_step
