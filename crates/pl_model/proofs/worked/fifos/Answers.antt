use Rattle.pl_model.proofs.computed.FifoExamples.{unused_fifo_forgets, opens_without_the_other_end, readers_wait_for_a_writer, interrupted_open, met_though_closed, last_open_that_waits}
use Rattle.pl_model.proofs.worked.fifos.Goals as goal

pub returns-clause-unused_fifo_forgets : goal.returns-clause-unused_fifo_forgets
returns-clause-unused_fifo_forgets g c = unused_fifo_forgets _

pub returns-clause-opens_without_the_other_end : goal.returns-clause-opens_without_the_other_end
returns-clause-opens_without_the_other_end g c = opens_without_the_other_end _

pub returns-clause-readers_wait_for_a_writer : goal.returns-clause-readers_wait_for_a_writer
returns-clause-readers_wait_for_a_writer g c = readers_wait_for_a_writer _

pub returns-clause-interrupted_open : goal.returns-clause-interrupted_open
returns-clause-interrupted_open g c = interrupted_open _

pub returns-clause-met_though_closed : goal.returns-clause-met_though_closed
returns-clause-met_though_closed g c = met_though_closed _

pub returns-clause-last_open_that_waits : goal.returns-clause-last_open_that_waits
returns-clause-last_open_that_waits g c = last_open_that_waits _
