use Rattle.pl_model.proofs.settling.Sound.{opening-sound, step-sound, run-sound}
use Rattle.pl_model.proofs.laws.soundness.Goals as goal

pub returns-clause-opening : goal.returns-clause-opening
returns-clause-opening g c = opening-sound

pub returns-clause-step : goal.returns-clause-step
returns-clause-step g c = step-sound

pub returns-clause-run : goal.returns-clause-run
returns-clause-run g c = run-sound
