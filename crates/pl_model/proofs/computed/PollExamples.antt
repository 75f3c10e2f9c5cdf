-- The small examples of polls, each computed from the definitions.
use Rattle.std.proofs.Common.{refl}
use Rattle.std.specs.Fmt.{digits}
use Rattle.pl_model.specs.Numbers.{first_from, numbers_from}
use Rattle.pl_model.specs.Live.{readers, writers, pids, in_rows, in_parked}
use Rattle.pl_model.specs.Settle.{settle}
use Rattle.pl_model.specs.Trial.{flowed}
use Rattle.pl_model.specs.Transfer.{read_pipe, write_pipe}
use Rattle.pl_model.specs.Poll.{try_poll}
use Rattle.pl_model.specs.Capacity.{rounded_capacity}
use Rattle.pl_model.specs.Tables.{lowest, lowest_pid}
use Rattle.pl_model.specs.Begin.{begin_pipe, begin_mkfifo, begin_open_name, begin_read, begin_write, begin_poll, begin_close, begin_set_pipe_sz}
use Rattle.pl_model.specs.Step.{try, begin, happen, core_step}
use Rattle.pl_model.specs.Numbered.{step}
use Rattle.pl_model.specs.Words.{words, without_return, number, signed_below, hex_bytes, repeated, digits_or_repeated, bytes_of, poll_flag, with_flags, flags_of, poll_mask_of, entry_of, entries_of, wait_of}
use Rattle.pl_model.specs.Lines.{pipe_of, write_of, poll_of, close_of, call_of, start_of, begin_of, words_line, line_of_words, line}
use Rattle.pl_model.specs.Shown.{hex_text, bytes_text, names_text, mask_text, reply_text, outcome_text}
use Rattle.pl_model.specs.Script.{lines, asked, answers}
use Rattle.pl_model.specs.WorkedPoll.{PollsOfAPipe, EndsThatLeave, HangingUpAFifo, FilesAndBothEnds, PollsThatDontWait, PollsKeepTheirEnds, PollWithoutANumber, ScriptOfPolls, LinesOfPolls}

module _ (A : Type 0) where
  pub polls_of_a_pipe : PollsOfAPipe A
  unfolding first_from numbers_from pids in_rows in_parked readers writers settle flowed write_pipe try_poll rounded_capacity lowest lowest_pid begin_pipe begin_write begin_poll begin_set_pipe_sz try begin happen core_step step
  polls_of_a_pipe file_max = refl

  pub ends_that_leave : EndsThatLeave A
  unfolding first_from numbers_from pids in_rows in_parked readers writers settle flowed read_pipe write_pipe try_poll lowest lowest_pid begin_pipe begin_read begin_write begin_poll begin_close try begin happen core_step step
  ends_that_leave limits = refl

  pub hanging_up_a_fifo : HangingUpAFifo A
  unfolding first_from numbers_from pids in_rows in_parked readers writers settle flowed try_poll lowest lowest_pid begin_mkfifo begin_open_name begin_poll begin_close try begin happen core_step step
  hanging_up_a_fifo file_max = refl

  pub files_and_both_ends : FilesAndBothEnds A
  unfolding first_from numbers_from pids in_rows in_parked readers writers settle flowed write_pipe try_poll rounded_capacity lowest lowest_pid begin_mkfifo begin_open_name begin_write begin_poll begin_set_pipe_sz try begin happen core_step step
  files_and_both_ends limits = refl

  pub polls_that_dont_wait : PollsThatDontWait A
  unfolding first_from numbers_from pids in_rows in_parked readers writers settle flowed try_poll lowest lowest_pid begin_pipe begin_poll try begin happen core_step step
  polls_that_dont_wait file_max = refl

  pub polls_keep_their_ends : PollsKeepTheirEnds A
  unfolding first_from numbers_from pids in_rows in_parked readers writers settle flowed write_pipe try_poll lowest lowest_pid begin_pipe begin_write begin_poll begin_close try begin happen core_step step
  polls_keep_their_ends file_max = refl

  pub poll_without_a_number : PollWithoutANumber A
  unfolding first_from numbers_from pids in_rows in_parked readers writers settle flowed try_poll lowest lowest_pid begin_pipe begin_poll try begin happen core_step step
  poll_without_a_number file_max = refl

  pub script_of_polls : ScriptOfPolls A
  unfolding first_from numbers_from pids in_rows in_parked readers writers settle flowed write_pipe try_poll lowest lowest_pid begin_pipe begin_write begin_poll begin_close try begin happen core_step step words without_return number signed_below hex_bytes repeated digits_or_repeated bytes_of poll_flag with_flags flags_of poll_mask_of entry_of entries_of wait_of pipe_of write_of poll_of close_of call_of start_of begin_of words_line line_of_words line hex_text bytes_text names_text mask_text reply_text outcome_text lines asked answers digits
  script_of_polls limits = refl

  pub lines_of_polls : LinesOfPolls A
  unfolding words without_return number signed_below poll_flag with_flags flags_of poll_mask_of entry_of entries_of wait_of poll_of call_of begin_of words_line line_of_words line
  lines_of_polls =
      record {
        none = refl;
        entries = refl;
        all_names = refl;
        no_word = refl;
        other_word = refl;
        no_mask = refl;
        empty_mask = refl;
        empty_name = refl;
        no_fd = refl;
        two_colons = refl;
        dash_among_names = refl;
        blank = refl;
      }
