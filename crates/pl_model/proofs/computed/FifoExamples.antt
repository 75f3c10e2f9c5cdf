-- The small examples of FIFOs, each computed from the definitions.
use Rattle.std.proofs.Common.{refl}
use Rattle.pl_model.specs.Numbers.{first_from, numbers_from}
use Rattle.pl_model.specs.Live.{readers, writers, pids, in_rows, in_parked}
use Rattle.pl_model.specs.Settle.{settle}
use Rattle.pl_model.specs.Trial.{flowed}
use Rattle.pl_model.specs.Transfer.{read_pipe, write_pipe}
use Rattle.pl_model.specs.Capacity.{rounded_capacity}
use Rattle.pl_model.specs.Tables.{lowest, lowest_pid}
use Rattle.pl_model.specs.Begin.{begin_mkfifo, begin_open_name, begin_read, begin_write, begin_close, begin_get_pipe_sz, begin_set_pipe_sz}
use Rattle.pl_model.specs.Step.{try, begin, happen, core_step}
use Rattle.pl_model.specs.Numbered.{step}
use Rattle.pl_model.specs.Words.{words, without_return, number, name_bytes, name_of}
use Rattle.pl_model.specs.Lines.{mkfifo_of, call_of, begin_of, words_line, line_of_words, line}
use Rattle.pl_model.specs.WorkedFifo.{UnusedFifoForgets, OpensWithoutTheOtherEnd, ReadersWaitForAWriter, InterruptedOpen, MetThoughClosed, LastOpenThatWaits, LinesOfFifos}

module _ (A : Type 0) where
  pub unused_fifo_forgets : UnusedFifoForgets A
  unfolding first_from numbers_from pids in_rows in_parked readers writers settle flowed read_pipe write_pipe rounded_capacity lowest lowest_pid begin_mkfifo begin_open_name begin_read begin_write begin_close begin_get_pipe_sz begin_set_pipe_sz try begin happen core_step step
  unused_fifo_forgets limits = refl

  pub opens_without_the_other_end : OpensWithoutTheOtherEnd A
  unfolding first_from numbers_from pids in_rows in_parked readers writers settle flowed read_pipe write_pipe lowest lowest_pid begin_mkfifo begin_open_name begin_read begin_write begin_close try begin happen core_step step
  opens_without_the_other_end limits = refl

  pub readers_wait_for_a_writer : ReadersWaitForAWriter A
  unfolding first_from numbers_from pids in_rows in_parked readers writers settle flowed read_pipe write_pipe lowest lowest_pid begin_mkfifo begin_open_name begin_read begin_write begin_close try begin happen core_step step
  readers_wait_for_a_writer file_max = refl

  pub interrupted_open : InterruptedOpen A
  unfolding first_from numbers_from pids in_rows in_parked readers writers settle flowed read_pipe write_pipe lowest lowest_pid begin_mkfifo begin_open_name begin_read begin_write begin_close try begin happen core_step step
  interrupted_open file_max = refl

  pub met_though_closed : MetThoughClosed A
  unfolding first_from numbers_from pids in_rows in_parked readers writers settle flowed read_pipe write_pipe lowest lowest_pid begin_mkfifo begin_open_name begin_read begin_write begin_close try begin happen core_step step
  met_though_closed file_max = refl

  pub last_open_that_waits : LastOpenThatWaits A
  unfolding first_from numbers_from pids in_rows in_parked readers writers settle flowed read_pipe write_pipe lowest lowest_pid begin_mkfifo begin_open_name begin_read begin_write begin_close try begin happen core_step step
  last_open_that_waits file_max = refl

  pub lines_of_fifos : LinesOfFifos A
  unfolding words without_return number name_bytes name_of mkfifo_of call_of begin_of words_line line_of_words line
  lines_of_fifos = record { makes = refl; no_name = refl; two_names = refl }
