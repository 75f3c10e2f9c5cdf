use Rattle.pl_model.proofs.by_call.AfterReplies.{outcomes_tell}
use Rattle.pl_model.proofs.by_call.Refusals.{refused-unchanged}
use Rattle.pl_model.proofs.laws.refusals.Goals as goal

pub returns-clause-step : goal.returns-clause-step
returns-clause-step g c = refused-unchanged

pub returns-clause-run : goal.returns-clause-run
returns-clause-run g c = outcomes_tell
