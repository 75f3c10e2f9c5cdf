-- The small examples, each computed from the definitions.
use Rattle.std.proofs.Common.{refl}
use Rattle.std.specs.Fmt.{digits}
use Rattle.pl_model.specs.Numbers.{first_from, numbers_from}
use Rattle.pl_model.specs.Live.{readers, writers, pids, in_rows, in_parked}
use Rattle.pl_model.specs.Settle.{settle}
use Rattle.pl_model.specs.Trial.{flowed}
use Rattle.pl_model.specs.Transfer.{read_pipe, write_pipe}
use Rattle.pl_model.specs.Tables.{lowest, lowest_pid}
use Rattle.pl_model.specs.Begin.{begin_pipe, begin_read, begin_write, begin_dup, begin_dup2, begin_dup_fd, begin_close, begin_get_fl, begin_set_fl, begin_fork}
use Rattle.pl_model.specs.Step.{try, begin, happen, core_step}
use Rattle.pl_model.specs.Numbered.{step}
use Rattle.pl_model.specs.Words.{words, without_return, number, signed_below, hex_bytes, repeated, digits_or_repeated, bytes_of, open_flag, with_flags, flags_of, flags_or_none}
use Rattle.pl_model.specs.Lines.{pipe_of, read_of, write_of, dup_of, dup2_of, close_of, get_fl_of, set_fl_of, call_of, start_of, resume_of, interrupt_of, begin_of, words_line, line_of_words, line}
use Rattle.pl_model.specs.Shown.{hex_text, bytes_text, names_text, flags_text, reply_text, outcome_text}
use Rattle.pl_model.specs.Script.{lines, asked, answers}
use Rattle.pl_model.specs.Worked.{BytesBeforeEndOfFile, PartialAndWholeNotWaiting, ReadOfNothing, WriteOfNothing, LastWriterCloses, SmallWriteAtItsBoundary, InterruptedLargeWrite, ParkedCallKeepsItsEnd, LastReaderLeaves, CallNumbersSpent, InterleavingWithALargeWrite, ThreeNamesOfOneWriteEnd, FlagsOfSharedDescriptions, FullTable, DescriptorsThatAreNotOpen, ExitDropsParkedCalls, TableOfWrites, ScriptOfBytesBeforeEndOfFile, ScriptOfFlags, EmptyScript, ScriptWithoutLineFeed, ScriptOfNoProcess}

module _ (A : Type 0) where
  pub bytes_before_end_of_file : BytesBeforeEndOfFile A
  unfolding first_from numbers_from pids in_rows in_parked readers writers settle flowed read_pipe write_pipe lowest lowest_pid begin_pipe begin_read begin_write begin_close try begin happen core_step step
  bytes_before_end_of_file limits = refl

  pub partial_and_whole_not_waiting : PartialAndWholeNotWaiting A
  unfolding first_from numbers_from pids in_rows in_parked readers writers settle flowed read_pipe write_pipe lowest lowest_pid begin_pipe begin_read begin_write begin_close try begin happen core_step step
  partial_and_whole_not_waiting limits = refl

  pub read_of_nothing : ReadOfNothing A
  unfolding first_from numbers_from pids in_rows in_parked readers writers settle flowed read_pipe write_pipe lowest lowest_pid begin_pipe begin_read begin_write begin_close try begin happen core_step step
  read_of_nothing limits = refl

  pub write_of_nothing : WriteOfNothing A
  unfolding first_from numbers_from pids in_rows in_parked readers writers settle flowed read_pipe write_pipe lowest lowest_pid begin_pipe begin_read begin_write begin_close try begin happen core_step step
  write_of_nothing limits = refl

  pub last_writer_closes : LastWriterCloses A
  unfolding first_from numbers_from pids in_rows in_parked readers writers settle flowed read_pipe write_pipe lowest lowest_pid begin_pipe begin_read begin_write begin_close try begin happen core_step step
  last_writer_closes limits = refl

  pub small_write_at_its_boundary : SmallWriteAtItsBoundary A
  unfolding first_from numbers_from pids in_rows in_parked readers writers settle flowed read_pipe write_pipe lowest lowest_pid begin_pipe begin_read begin_write begin_close try begin happen core_step step
  small_write_at_its_boundary file_max = refl

  pub interrupted_large_write : InterruptedLargeWrite A
  unfolding first_from numbers_from pids in_rows in_parked readers writers settle flowed read_pipe write_pipe lowest lowest_pid begin_pipe begin_read begin_write begin_close try begin happen core_step step
  interrupted_large_write file_max = refl

  pub parked_call_keeps_its_end : ParkedCallKeepsItsEnd A
  unfolding first_from numbers_from pids in_rows in_parked readers writers settle flowed read_pipe write_pipe lowest lowest_pid begin_pipe begin_read begin_write begin_close try begin happen core_step step
  parked_call_keeps_its_end file_max = refl

  pub last_reader_leaves : LastReaderLeaves A
  unfolding first_from numbers_from pids in_rows in_parked readers writers settle flowed read_pipe write_pipe lowest lowest_pid begin_pipe begin_read begin_write begin_close try begin happen core_step step
  last_reader_leaves file_max = refl

  pub call_numbers_spent : CallNumbersSpent A
  unfolding first_from numbers_from pids in_rows in_parked readers writers settle flowed read_pipe write_pipe lowest lowest_pid begin_pipe begin_read begin_write begin_close try begin happen core_step step
  call_numbers_spent file_max = refl

  pub interleaving_with_a_large_write : InterleavingWithALargeWrite A
  unfolding first_from numbers_from pids in_rows in_parked readers writers settle flowed read_pipe write_pipe lowest lowest_pid begin_pipe begin_read begin_write begin_dup begin_dup2 begin_dup_fd begin_close begin_get_fl begin_set_fl begin_fork try begin happen core_step step
  interleaving_with_a_large_write file_max = refl

  pub three_names_of_one_write_end : ThreeNamesOfOneWriteEnd A
  unfolding first_from numbers_from pids in_rows in_parked readers writers settle flowed read_pipe write_pipe lowest lowest_pid begin_pipe begin_read begin_write begin_dup begin_dup2 begin_dup_fd begin_close begin_get_fl begin_set_fl begin_fork try begin happen core_step step
  three_names_of_one_write_end file_max = refl

  pub flags_of_shared_descriptions : FlagsOfSharedDescriptions A
  unfolding first_from numbers_from pids in_rows in_parked readers writers settle flowed read_pipe write_pipe lowest lowest_pid begin_pipe begin_read begin_write begin_dup begin_dup2 begin_dup_fd begin_close begin_get_fl begin_set_fl begin_fork try begin happen core_step step
  flags_of_shared_descriptions limits = refl

  pub full_table : FullTable A
  unfolding first_from numbers_from pids in_rows in_parked readers writers settle flowed read_pipe write_pipe lowest lowest_pid begin_pipe begin_read begin_write begin_dup begin_dup2 begin_dup_fd begin_close begin_get_fl begin_set_fl begin_fork try begin happen core_step step
  full_table limits = refl

  pub descriptors_that_are_not_open : DescriptorsThatAreNotOpen A
  unfolding first_from numbers_from pids in_rows in_parked readers writers settle flowed read_pipe write_pipe lowest lowest_pid begin_pipe begin_read begin_write begin_dup begin_dup2 begin_dup_fd begin_close begin_get_fl begin_set_fl begin_fork try begin happen core_step step
  descriptors_that_are_not_open limits = refl

  pub exit_drops_parked_calls : ExitDropsParkedCalls A
  unfolding first_from numbers_from pids in_rows in_parked readers writers settle flowed read_pipe write_pipe lowest lowest_pid begin_pipe begin_read begin_write begin_dup begin_dup2 begin_dup_fd begin_close begin_get_fl begin_set_fl begin_fork try begin happen core_step step
  exit_drops_parked_calls file_max = refl

  pub script_of_flags : ScriptOfFlags A
  unfolding first_from numbers_from pids in_rows in_parked readers writers settle flowed read_pipe write_pipe lowest lowest_pid begin_pipe begin_read begin_write begin_dup begin_dup2 begin_dup_fd begin_close begin_get_fl begin_set_fl begin_fork try begin happen core_step step words without_return number signed_below open_flag with_flags flags_of flags_or_none pipe_of read_of dup_of dup2_of get_fl_of set_fl_of call_of start_of begin_of words_line line_of_words line names_text flags_text reply_text outcome_text lines asked answers digits
  script_of_flags limits = refl

  pub script_of_bytes_before_end_of_file : ScriptOfBytesBeforeEndOfFile A
  unfolding first_from numbers_from pids in_rows in_parked readers writers settle flowed read_pipe write_pipe lowest lowest_pid begin_pipe begin_read begin_write begin_close try begin happen core_step step words without_return number signed_below hex_bytes repeated digits_or_repeated bytes_of pipe_of read_of write_of close_of call_of start_of resume_of interrupt_of begin_of words_line line_of_words line hex_text bytes_text reply_text outcome_text lines asked answers digits
  script_of_bytes_before_end_of_file limits = refl

  pub empty_script : EmptyScript A
  unfolding first_from numbers_from pids in_rows in_parked readers writers settle flowed read_pipe write_pipe lowest lowest_pid begin_pipe begin_read begin_write begin_close try begin happen core_step step words without_return number signed_below hex_bytes repeated digits_or_repeated bytes_of pipe_of read_of write_of close_of call_of start_of resume_of interrupt_of begin_of words_line line_of_words line hex_text bytes_text reply_text outcome_text lines asked answers digits
  empty_script limits = refl

  pub script_without_line_feed : ScriptWithoutLineFeed A
  unfolding first_from numbers_from pids in_rows in_parked readers writers settle flowed read_pipe write_pipe lowest lowest_pid begin_pipe begin_read begin_write begin_close try begin happen core_step step words without_return number signed_below hex_bytes repeated digits_or_repeated bytes_of pipe_of read_of write_of close_of call_of start_of resume_of interrupt_of begin_of words_line line_of_words line hex_text bytes_text reply_text outcome_text lines asked answers digits
  script_without_line_feed limits = refl

  pub script_of_no_process : ScriptOfNoProcess A
  unfolding first_from numbers_from pids in_rows in_parked readers writers settle flowed read_pipe write_pipe lowest lowest_pid begin_pipe begin_read begin_write begin_close try begin happen core_step step words without_return number signed_below hex_bytes repeated digits_or_repeated bytes_of pipe_of read_of write_of close_of call_of start_of resume_of interrupt_of begin_of words_line line_of_words line hex_text bytes_text reply_text outcome_text lines asked answers digits
  script_of_no_process limits = refl

pub table_of_writes : TableOfWrites
table_of_writes = record { broken = refl; cut_short = refl; whole = refl; not_torn = refl; partial = refl; full = refl; rest = refl; filled = refl }
