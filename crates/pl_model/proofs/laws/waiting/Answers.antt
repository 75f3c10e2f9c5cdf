use Rattle.pl_model.proofs.by_call.Waiting.{resumed_number}
use Rattle.pl_model.proofs.laws.waiting.Goals as goal

pub returns : goal.returns
returns g c = resumed_number
