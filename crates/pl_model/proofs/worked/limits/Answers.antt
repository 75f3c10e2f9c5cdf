use Rattle.pl_model.proofs.computed.LimitExamples.{names_up_to_the_limit, waiting_calls_up_to_the_limit, waiting_calls_of_each_up_to_the_limit, no_call_may_wait, capacities_up_to_the_limit, descriptors_up_to_the_limit, descriptors_at_the_ends, descriptions_up_to_the_limit, processes_up_to_the_limit, entries_up_to_the_limit}
use Rattle.pl_model.proofs.worked.limits.Goals as goal

pub returns-clause-names_up_to_the_limit : goal.returns-clause-names_up_to_the_limit
returns-clause-names_up_to_the_limit g c = names_up_to_the_limit _

pub returns-clause-waiting_calls_up_to_the_limit : goal.returns-clause-waiting_calls_up_to_the_limit
returns-clause-waiting_calls_up_to_the_limit g c = waiting_calls_up_to_the_limit _

pub returns-clause-waiting_calls_of_each_up_to_the_limit : goal.returns-clause-waiting_calls_of_each_up_to_the_limit
returns-clause-waiting_calls_of_each_up_to_the_limit g c = waiting_calls_of_each_up_to_the_limit _

pub returns-clause-no_call_may_wait : goal.returns-clause-no_call_may_wait
returns-clause-no_call_may_wait g c = no_call_may_wait _

pub returns-clause-capacities_up_to_the_limit : goal.returns-clause-capacities_up_to_the_limit
returns-clause-capacities_up_to_the_limit g c = capacities_up_to_the_limit _

pub returns-clause-descriptors_up_to_the_limit : goal.returns-clause-descriptors_up_to_the_limit
returns-clause-descriptors_up_to_the_limit g c = descriptors_up_to_the_limit _

pub returns-clause-descriptors_at_the_ends : goal.returns-clause-descriptors_at_the_ends
returns-clause-descriptors_at_the_ends g c = descriptors_at_the_ends _

pub returns-clause-descriptions_up_to_the_limit : goal.returns-clause-descriptions_up_to_the_limit
returns-clause-descriptions_up_to_the_limit g c = descriptions_up_to_the_limit _

pub returns-clause-processes_up_to_the_limit : goal.returns-clause-processes_up_to_the_limit
returns-clause-processes_up_to_the_limit g c = processes_up_to_the_limit _

pub returns-clause-entries_up_to_the_limit : goal.returns-clause-entries_up_to_the_limit
returns-clause-entries_up_to_the_limit g c = entries_up_to_the_limit _
