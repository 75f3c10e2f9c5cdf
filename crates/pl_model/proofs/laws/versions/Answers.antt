use Rattle.pl_model.proofs.Versions.{others_are_of_version_1, first_line_names_version_2}
use Rattle.pl_model.proofs.laws.versions.Goals as goal

pub returns-clause-others : goal.returns-clause-others
returns-clause-others g c = others_are_of_version_1 _

pub returns-clause-second : goal.returns-clause-second
returns-clause-second g c = first_line_names_version_2 _
