use Rattle.pl_model.proofs.computed.WakingExamples.{read_gets_on, small_write_gets_on, large_write_gets_on, poll_gets_on, open_gets_on, splice_gets_on, tee_gets_on}
use Rattle.pl_model.proofs.worked.waking.Goals as goal

pub returns-clause-read : goal.returns-clause-read
returns-clause-read g c = read_gets_on _

pub returns-clause-small_write : goal.returns-clause-small_write
returns-clause-small_write g c = small_write_gets_on _

pub returns-clause-large_write : goal.returns-clause-large_write
returns-clause-large_write g c = large_write_gets_on _

pub returns-clause-poll : goal.returns-clause-poll
returns-clause-poll g c = poll_gets_on _

pub returns-clause-open : goal.returns-clause-open
returns-clause-open g c = open_gets_on _

pub returns-clause-splice : goal.returns-clause-splice
returns-clause-splice g c = splice_gets_on _

pub returns-clause-tee : goal.returns-clause-tee
returns-clause-tee g c = tee_gets_on _
