use Rattle.pl_model.proofs.computed.Examples.{bytes_before_end_of_file, partial_and_whole_not_waiting, read_of_nothing, write_of_nothing, last_writer_closes}
use Rattle.pl_model.proofs.worked.steps.Goals as goal

pub returns-clause-bytes_before_end_of_file : goal.returns-clause-bytes_before_end_of_file
returns-clause-bytes_before_end_of_file g c = bytes_before_end_of_file _

pub returns-clause-partial_and_whole_not_waiting : goal.returns-clause-partial_and_whole_not_waiting
returns-clause-partial_and_whole_not_waiting g c = partial_and_whole_not_waiting _

pub returns-clause-read_of_nothing : goal.returns-clause-read_of_nothing
returns-clause-read_of_nothing g c = read_of_nothing _

pub returns-clause-write_of_nothing : goal.returns-clause-write_of_nothing
returns-clause-write_of_nothing g c = write_of_nothing _

pub returns-clause-last_writer_closes : goal.returns-clause-last_writer_closes
returns-clause-last_writer_closes g c = last_writer_closes _
