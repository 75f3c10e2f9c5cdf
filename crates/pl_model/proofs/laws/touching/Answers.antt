use Rattle.pl_model.proofs.renaming.Renames.{touches-rename}
use Rattle.pl_model.proofs.touching.Law.{leaves_the_untouched, leaves_another, waits_alone, resumes_alone, ends_by_its_own}
use Rattle.pl_model.proofs.laws.touching.Goals as goal

pub returns-clause-untouched : goal.returns-clause-untouched
returns-clause-untouched g c = leaves_the_untouched

pub returns-clause-another : goal.returns-clause-another
returns-clause-another g c = leaves_another

pub returns-clause-ended : goal.returns-clause-ended
returns-clause-ended g c = ends_by_its_own

pub returns-clause-begun : goal.returns-clause-begun
returns-clause-begun g c = waits_alone

pub returns-clause-resumed : goal.returns-clause-resumed
returns-clause-resumed g c = resumes_alone

pub returns-clause-renaming : goal.returns-clause-renaming
returns-clause-renaming g c = λ r s x node. touches-rename r s x node
