use Rattle.pl_model.proofs.computed.CapacityExamples.{sizes_are_rounded_up, only_pipes_have_a_capacity, capacity_is_room, waiting_write_gets_room}
use Rattle.pl_model.proofs.worked.capacities.Goals as goal

pub returns-clause-sizes_are_rounded_up : goal.returns-clause-sizes_are_rounded_up
returns-clause-sizes_are_rounded_up g c = sizes_are_rounded_up _

pub returns-clause-only_pipes_have_a_capacity : goal.returns-clause-only_pipes_have_a_capacity
returns-clause-only_pipes_have_a_capacity g c = only_pipes_have_a_capacity _

pub returns-clause-capacity_is_room : goal.returns-clause-capacity_is_room
returns-clause-capacity_is_room g c = capacity_is_room _

pub returns-clause-waiting_write_gets_room : goal.returns-clause-waiting_write_gets_room
returns-clause-waiting_write_gets_room g c = waiting_write_gets_room _
