use Rattle.pl_model.proofs.computed.Examples.{interleaving_with_a_large_write, three_names_of_one_write_end, flags_of_shared_descriptions, full_table, descriptors_that_are_not_open, exit_drops_parked_calls}
use Rattle.pl_model.proofs.worked.sharing.Goals as goal

pub returns-clause-interleaving_with_a_large_write : goal.returns-clause-interleaving_with_a_large_write
returns-clause-interleaving_with_a_large_write g c = interleaving_with_a_large_write _

pub returns-clause-three_names_of_one_write_end : goal.returns-clause-three_names_of_one_write_end
returns-clause-three_names_of_one_write_end g c = three_names_of_one_write_end _

pub returns-clause-flags_of_shared_descriptions : goal.returns-clause-flags_of_shared_descriptions
returns-clause-flags_of_shared_descriptions g c = flags_of_shared_descriptions _

pub returns-clause-full_table : goal.returns-clause-full_table
returns-clause-full_table g c = full_table _

pub returns-clause-descriptors_that_are_not_open : goal.returns-clause-descriptors_that_are_not_open
returns-clause-descriptors_that_are_not_open g c = descriptors_that_are_not_open _

pub returns-clause-exit_drops_parked_calls : goal.returns-clause-exit_drops_parked_calls
returns-clause-exit_drops_parked_calls g c = exit_drops_parked_calls _
