-- The small examples of the capacities of pipes, each computed from the definitions.
use Rattle.std.proofs.Common.{refl}
use Rattle.std.specs.Fmt.{digits}
use Rattle.pl_model.specs.Numbers.{first_from, numbers_from}
use Rattle.pl_model.specs.Live.{readers, writers, pids, in_rows, in_parked}
use Rattle.pl_model.specs.Settle.{settle}
use Rattle.pl_model.specs.Trial.{flowed}
use Rattle.pl_model.specs.Transfer.{read_pipe, write_pipe}
use Rattle.pl_model.specs.Capacity.{rounded_capacity}
use Rattle.pl_model.specs.Tables.{lowest, lowest_pid}
use Rattle.pl_model.specs.Begin.{begin_pipe, begin_open_name, begin_read, begin_write, begin_close, begin_get_pipe_sz, begin_set_pipe_sz}
use Rattle.pl_model.specs.Step.{try, begin, happen, core_step}
use Rattle.pl_model.specs.Numbered.{step}
use Rattle.pl_model.specs.Words.{words, without_return, number, signed_below, hex_bytes, repeated, digits_or_repeated, bytes_of}
use Rattle.pl_model.specs.Lines.{pipe_of, write_of, get_pipe_sz_of, set_pipe_sz_of, call_of, start_of, begin_of, words_line, line_of_words, line}
use Rattle.pl_model.specs.Shown.{hex_text, bytes_text, reply_text, outcome_text}
use Rattle.pl_model.specs.Script.{lines, asked, answers}
use Rattle.pl_model.specs.WorkedCapacity.{SizesAreRoundedUp, OnlyPipesHaveACapacity, CapacityIsRoom, WaitingWriteGetsRoom, ScriptOfCapacities, LinesOfCapacities}

module _ (A : Type 0) where
  pub sizes_are_rounded_up : SizesAreRoundedUp A
  unfolding first_from numbers_from pids in_rows in_parked readers writers settle flowed read_pipe write_pipe rounded_capacity lowest lowest_pid begin_pipe begin_read begin_write begin_get_pipe_sz begin_set_pipe_sz try begin happen core_step step
  sizes_are_rounded_up limits = refl

  pub only_pipes_have_a_capacity : OnlyPipesHaveACapacity A
  unfolding first_from numbers_from pids in_rows in_parked readers writers settle flowed rounded_capacity lowest lowest_pid begin_pipe begin_open_name begin_close begin_get_pipe_sz begin_set_pipe_sz try begin happen core_step step
  only_pipes_have_a_capacity limits = refl

  pub capacity_is_room : CapacityIsRoom A
  unfolding first_from numbers_from pids in_rows in_parked readers writers settle flowed read_pipe write_pipe rounded_capacity lowest lowest_pid begin_pipe begin_write begin_get_pipe_sz begin_set_pipe_sz try begin happen core_step step
  capacity_is_room limits = refl

  pub waiting_write_gets_room : WaitingWriteGetsRoom A
  unfolding first_from numbers_from pids in_rows in_parked readers writers settle flowed read_pipe write_pipe rounded_capacity lowest lowest_pid begin_pipe begin_read begin_write begin_set_pipe_sz try begin happen core_step step
  waiting_write_gets_room file_max = refl

  pub script_of_capacities : ScriptOfCapacities A
  unfolding first_from numbers_from pids in_rows in_parked readers writers settle flowed read_pipe write_pipe rounded_capacity lowest lowest_pid begin_pipe begin_write begin_get_pipe_sz begin_set_pipe_sz try begin happen core_step step words without_return number signed_below hex_bytes repeated digits_or_repeated bytes_of pipe_of write_of get_pipe_sz_of set_pipe_sz_of call_of start_of begin_of words_line line_of_words line hex_text bytes_text reply_text outcome_text lines asked answers digits
  script_of_capacities limits = refl

  pub lines_of_capacities : LinesOfCapacities A
  unfolding words without_return number signed_below get_pipe_sz_of set_pipe_sz_of call_of begin_of words_line line_of_words line
  lines_of_capacities = record { tells = refl; sets = refl; too_large = refl; below_0 = refl; no_size = refl; a_size = refl }
