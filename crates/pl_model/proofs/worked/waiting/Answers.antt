use Rattle.pl_model.proofs.computed.Examples.{small_write_at_its_boundary, interrupted_large_write, parked_call_keeps_its_end, last_reader_leaves, call_numbers_spent}
use Rattle.pl_model.proofs.worked.waiting.Goals as goal

pub returns-clause-small_write_at_its_boundary : goal.returns-clause-small_write_at_its_boundary
returns-clause-small_write_at_its_boundary g c = small_write_at_its_boundary _

pub returns-clause-interrupted_large_write : goal.returns-clause-interrupted_large_write
returns-clause-interrupted_large_write g c = interrupted_large_write _

pub returns-clause-parked_call_keeps_its_end : goal.returns-clause-parked_call_keeps_its_end
returns-clause-parked_call_keeps_its_end g c = parked_call_keeps_its_end _

pub returns-clause-last_reader_leaves : goal.returns-clause-last_reader_leaves
returns-clause-last_reader_leaves g c = last_reader_leaves _

pub returns-clause-call_numbers_spent : goal.returns-clause-call_numbers_spent
returns-clause-call_numbers_spent g c = call_numbers_spent _
