use Rattle.pl_model.proofs.by_call.InVain.{waits_in_vain}
use Rattle.pl_model.proofs.renaming.Renames.{can_progress-rename}
use Rattle.pl_model.proofs.laws.waking.Goals as goal

pub returns-clause-vain : goal.returns-clause-vain
returns-clause-vain g c = waits_in_vain

pub returns-clause-renaming : goal.returns-clause-renaming
returns-clause-renaming g c = λ r s number. can_progress-rename r s number
