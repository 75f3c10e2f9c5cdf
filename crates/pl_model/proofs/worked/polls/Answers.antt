use Rattle.pl_model.proofs.computed.PollExamples.{polls_of_a_pipe, ends_that_leave, hanging_up_a_fifo, files_and_both_ends, polls_that_dont_wait, polls_keep_their_ends, poll_without_a_number}
use Rattle.pl_model.proofs.worked.polls.Goals as goal

pub returns-clause-polls_of_a_pipe : goal.returns-clause-polls_of_a_pipe
returns-clause-polls_of_a_pipe g c = polls_of_a_pipe _

pub returns-clause-ends_that_leave : goal.returns-clause-ends_that_leave
returns-clause-ends_that_leave g c = ends_that_leave _

pub returns-clause-hanging_up_a_fifo : goal.returns-clause-hanging_up_a_fifo
returns-clause-hanging_up_a_fifo g c = hanging_up_a_fifo _

pub returns-clause-files_and_both_ends : goal.returns-clause-files_and_both_ends
returns-clause-files_and_both_ends g c = files_and_both_ends _

pub returns-clause-polls_that_dont_wait : goal.returns-clause-polls_that_dont_wait
returns-clause-polls_that_dont_wait g c = polls_that_dont_wait _

pub returns-clause-polls_keep_their_ends : goal.returns-clause-polls_keep_their_ends
returns-clause-polls_keep_their_ends g c = polls_keep_their_ends _

pub returns-clause-poll_without_a_number : goal.returns-clause-poll_without_a_number
returns-clause-poll_without_a_number g c = poll_without_a_number _
