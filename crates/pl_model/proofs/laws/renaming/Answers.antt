use Rattle.pl_model.proofs.renaming.Renames.{core_step-rename, settle-rename}
use Rattle.pl_model.proofs.laws.renaming.Goals as goal

pub returns-clause-step : goal.returns-clause-step
returns-clause-step g c = λ r core x. core_step-rename r core x

pub returns-clause-settling : goal.returns-clause-settling
returns-clause-settling g c = λ r before core. settle-rename r before core
