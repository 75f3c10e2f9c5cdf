-- The small examples of limits, each computed from the definitions.
use Rattle.std.proofs.Common.{refl}
use Rattle.pl_model.specs.Numbers.{first_from, numbers_from}
use Rattle.pl_model.specs.Live.{readers, writers, pids, in_rows, in_parked}
use Rattle.pl_model.specs.Settle.{settle}
use Rattle.pl_model.specs.Trial.{flowed}
use Rattle.pl_model.specs.Transfer.{read_pipe, write_pipe}
use Rattle.pl_model.specs.Poll.{try_poll}
use Rattle.pl_model.specs.Splice.{try_move}
use Rattle.pl_model.specs.Capacity.{rounded_capacity}
use Rattle.pl_model.specs.Tables.{lowest, lowest_pid}
use Rattle.pl_model.specs.Begin.{begin_pipe, begin_mkfifo, begin_open_name, begin_read, begin_write, begin_splice, begin_tee, begin_poll, begin_dup, begin_dup2, begin_dup_fd, begin_close, begin_set_pipe_sz, begin_unlink, begin_fork}
use Rattle.pl_model.specs.Step.{try, begin, happen, core_step}
use Rattle.pl_model.specs.Numbered.{step}
use Rattle.pl_model.specs.WorkedLimits.{NamesUpToTheLimit, WaitingCallsUpToTheLimit, WaitingCallsOfEachUpToTheLimit, NoCallMayWait, CapacitiesUpToTheLimit, DescriptorsUpToTheLimit, DescriptorsAtTheEnds, DescriptionsUpToTheLimit, ProcessesUpToTheLimit, EntriesUpToTheLimit}

module _ (A : Type 0) where
  pub names_up_to_the_limit : NamesUpToTheLimit A
  unfolding first_from numbers_from pids in_rows in_parked readers writers settle flowed lowest lowest_pid begin_mkfifo begin_open_name begin_unlink try begin happen core_step step
  names_up_to_the_limit first_call file_max = refl

  pub waiting_calls_up_to_the_limit : WaitingCallsUpToTheLimit A
  unfolding first_from numbers_from pids in_rows in_parked readers writers settle flowed read_pipe write_pipe try_poll try_move lowest lowest_pid begin_pipe begin_mkfifo begin_open_name begin_read begin_write begin_splice begin_tee begin_poll try begin happen core_step step
  waiting_calls_up_to_the_limit file_max = refl

  pub waiting_calls_of_each_up_to_the_limit : WaitingCallsOfEachUpToTheLimit A
  unfolding first_from numbers_from pids in_rows in_parked readers writers settle flowed read_pipe try_poll lowest lowest_pid begin_pipe begin_mkfifo begin_open_name begin_read begin_poll begin_fork try begin happen core_step step
  waiting_calls_of_each_up_to_the_limit file_max = refl

  pub no_call_may_wait : NoCallMayWait A
  unfolding first_from numbers_from pids in_rows in_parked readers writers settle flowed read_pipe write_pipe lowest lowest_pid begin_pipe begin_read begin_write try begin happen core_step step
  no_call_may_wait file_max = refl

  pub capacities_up_to_the_limit : CapacitiesUpToTheLimit A
  unfolding first_from numbers_from pids in_rows in_parked readers writers settle flowed rounded_capacity lowest lowest_pid begin_pipe begin_set_pipe_sz try begin happen core_step step
  capacities_up_to_the_limit first_call file_max = refl

  pub descriptors_up_to_the_limit : DescriptorsUpToTheLimit A
  unfolding first_from numbers_from pids in_rows in_parked readers writers settle flowed lowest lowest_pid begin_pipe begin_open_name begin_poll begin_dup begin_dup2 begin_dup_fd begin_close try begin happen core_step step
  descriptors_up_to_the_limit first_call file_max = refl

  pub descriptors_at_the_ends : DescriptorsAtTheEnds A
  unfolding first_from numbers_from pids in_rows in_parked readers writers settle flowed lowest lowest_pid begin_pipe begin_open_name begin_dup2 begin_dup_fd try begin happen core_step step
  descriptors_at_the_ends first_call file_max = (refl, refl)

  pub descriptions_up_to_the_limit : DescriptionsUpToTheLimit A
  unfolding first_from numbers_from pids in_rows in_parked readers writers settle flowed lowest lowest_pid begin_pipe begin_open_name begin_poll begin_dup begin_close begin_fork try_poll try begin happen core_step step
  descriptions_up_to_the_limit first_call file_max = refl

  pub processes_up_to_the_limit : ProcessesUpToTheLimit A
  unfolding first_from numbers_from pids in_rows in_parked readers writers settle flowed lowest lowest_pid begin_pipe begin_open_name begin_poll begin_dup begin_close begin_fork try_poll try begin happen core_step step
  processes_up_to_the_limit first_call file_max = refl

  pub entries_up_to_the_limit : EntriesUpToTheLimit A
  unfolding first_from numbers_from pids in_rows in_parked readers writers settle flowed lowest lowest_pid begin_pipe begin_open_name begin_poll begin_dup begin_close begin_fork try_poll try begin happen core_step step
  entries_up_to_the_limit first_call file_max = (refl, refl)
