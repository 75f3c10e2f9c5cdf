use Rattle.pl_model.proofs.saying.Law.{steps_read_back, files_read_back, steps_are_lines, files_are_lines}
use Rattle.pl_model.proofs.laws.saying.Goals as goal

pub returns-clause-steps : goal.returns-clause-steps
returns-clause-steps g c = steps_read_back _

pub returns-clause-files : goal.returns-clause-files
returns-clause-files g c = files_read_back _

pub returns-clause-step_lines : goal.returns-clause-step_lines
returns-clause-step_lines g c = steps_are_lines _

pub returns-clause-file_lines : goal.returns-clause-file_lines
returns-clause-file_lines g c = files_are_lines
