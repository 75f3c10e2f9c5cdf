use Rattle.pl_model.proofs.computed.SpliceExamples.{shared_tail, bytes_of_the_moment, splice_to_an_offset, splices_and_tees_refused, moves_that_wait, splices_at_the_end_of_a_file, pieces_of_moves}
use Rattle.pl_model.proofs.worked.splices.Goals as goal

pub returns-clause-shared_tail : goal.returns-clause-shared_tail
returns-clause-shared_tail g c = shared_tail _

pub returns-clause-bytes_of_the_moment : goal.returns-clause-bytes_of_the_moment
returns-clause-bytes_of_the_moment g c = bytes_of_the_moment _

pub returns-clause-splice_to_an_offset : goal.returns-clause-splice_to_an_offset
returns-clause-splice_to_an_offset g c = splice_to_an_offset _

pub returns-clause-splices_and_tees_refused : goal.returns-clause-splices_and_tees_refused
returns-clause-splices_and_tees_refused g c = splices_and_tees_refused _

pub returns-clause-moves_that_wait : goal.returns-clause-moves_that_wait
returns-clause-moves_that_wait g c = moves_that_wait _

pub returns-clause-splices_at_the_end_of_a_file : goal.returns-clause-splices_at_the_end_of_a_file
returns-clause-splices_at_the_end_of_a_file g c = splices_at_the_end_of_a_file _

pub returns-clause-pieces : goal.returns-clause-pieces
returns-clause-pieces g c = pieces_of_moves _
