use Rattle.pl_model.proofs.computed.TouchingExamples.{pipes_are_touched, file_is_touched, fifo_is_touched}
use Rattle.pl_model.proofs.worked.touching.Goals as goal

pub returns-clause-pipes : goal.returns-clause-pipes
returns-clause-pipes g c = pipes_are_touched _

pub returns-clause-file : goal.returns-clause-file
returns-clause-file g c = file_is_touched _

pub returns-clause-fifo : goal.returns-clause-fifo
returns-clause-fifo g c = fifo_is_touched _
