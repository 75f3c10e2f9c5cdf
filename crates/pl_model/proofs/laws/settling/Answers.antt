use Rattle.pl_model.proofs.settling.Sound.{step-settled}
use Rattle.pl_model.proofs.settling.InTurn.{in_turn}
use Rattle.pl_model.proofs.laws.settling.Goals as goal

pub returns : goal.returns
returns g c = record { whole = step-settled; in_turn = in_turn }
