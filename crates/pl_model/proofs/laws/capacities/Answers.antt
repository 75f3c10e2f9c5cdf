use Rattle.pl_model.proofs.capacities.Rounding.{rounds_up}
use Rattle.pl_model.proofs.capacities.Staying.{step-capacities, run-capacities}
use Rattle.pl_model.proofs.laws.capacities.Goals as goal

pub returns-clause-rounding : goal.returns-clause-rounding
returns-clause-rounding g c = rounds_up

pub returns-clause-opening : goal.returns-clause-opening
returns-clause-opening g c = λ limits p. tt

pub returns-clause-step : goal.returns-clause-step
returns-clause-step g c = step-capacities

pub returns-clause-run : goal.returns-clause-run
returns-clause-run g c = run-capacities
