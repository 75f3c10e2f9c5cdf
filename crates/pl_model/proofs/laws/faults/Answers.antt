use Rattle.pl_model.proofs.by_call.Refusals.{resumed_ends, interrupted_ends}
use Rattle.pl_model.proofs.laws.faults.Goals as goal

pub returns : goal.returns
returns g c = record { resumed = resumed_ends; interrupted = interrupted_ends }
