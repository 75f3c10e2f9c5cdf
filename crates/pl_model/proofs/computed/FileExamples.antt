-- The small examples of regular files, each computed from the definitions.
use Rattle.std.proofs.Common.{refl}
use Rattle.std.specs.Fmt.{digits}
use Rattle.pl_model.specs.Numbers.{first_from, numbers_from}
use Rattle.pl_model.specs.Live.{readers, writers, pids, in_rows, in_parked}
use Rattle.pl_model.specs.Settle.{settle}
use Rattle.pl_model.specs.Trial.{flowed}
use Rattle.pl_model.specs.Transfer.{read_pipe, write_pipe, read_file, write_file}
use Rattle.pl_model.specs.Tables.{lowest, lowest_pid}
use Rattle.pl_model.specs.Begin.{begin_pipe, begin_open_name, begin_read, begin_write, begin_dup, begin_close, begin_lseek, begin_get_fl, begin_set_fl, begin_unlink}
use Rattle.pl_model.specs.Step.{try, begin, happen, core_step}
use Rattle.pl_model.specs.Numbered.{step}
use Rattle.pl_model.specs.Words.{words, without_return, number, signed_below, hex_bytes, repeated, digits_or_repeated, bytes_of, name_bytes, name_of, mode_of, whence_of, open_flag, with_flags, flags_of, flags_if_any}
use Rattle.pl_model.specs.Lines.{open_name_of, read_of, write_of, lseek_of, unlink_of, call_of, start_of, begin_of, words_line, line_of_words, line}
use Rattle.pl_model.specs.Shown.{hex_text, bytes_text, reply_text, outcome_text}
use Rattle.pl_model.specs.Script.{lines, asked, answers}
use Rattle.pl_model.specs.WorkedFiles.{EndOfAFile, BadNames, RefusalsOfAnOpen, FlagsOfAnOpen, AppendingAndSeeking, UnlinkedFileLivesOn, NamesKeepTheirFiles, PipesHaveNoOffset, ScriptOfFiles, NamesInWords}

module _ (A : Type 0) where
  pub end_of_a_file : EndOfAFile A
  unfolding first_from numbers_from pids in_rows in_parked readers writers settle flowed read_pipe write_pipe read_file write_file lowest lowest_pid begin_pipe begin_open_name begin_read begin_write begin_close begin_lseek begin_get_fl begin_set_fl begin_unlink try begin happen core_step step
  end_of_a_file first_call = refl

  pub bad_names : BadNames A
  unfolding first_from numbers_from pids in_rows in_parked readers writers settle flowed read_pipe write_pipe read_file write_file lowest lowest_pid begin_pipe begin_open_name begin_read begin_write begin_close begin_lseek begin_get_fl begin_set_fl begin_unlink try begin happen core_step step
  bad_names first_call = refl

  pub refusals_of_an_open : RefusalsOfAnOpen A
  unfolding first_from numbers_from pids in_rows in_parked readers writers settle flowed read_pipe write_pipe read_file write_file lowest lowest_pid begin_pipe begin_open_name begin_read begin_write begin_dup begin_close begin_lseek begin_get_fl begin_set_fl begin_unlink try begin happen core_step step
  refusals_of_an_open first_call = refl

  pub flags_of_an_open : FlagsOfAnOpen A
  unfolding first_from numbers_from pids in_rows in_parked readers writers settle flowed read_pipe write_pipe read_file write_file lowest lowest_pid begin_pipe begin_open_name begin_read begin_write begin_close begin_lseek begin_get_fl begin_set_fl begin_unlink try begin happen core_step step
  flags_of_an_open first_call = refl

  pub appending_and_seeking : AppendingAndSeeking A
  unfolding first_from numbers_from pids in_rows in_parked readers writers settle flowed read_pipe write_pipe read_file write_file lowest lowest_pid begin_pipe begin_open_name begin_read begin_write begin_close begin_lseek begin_get_fl begin_set_fl begin_unlink try begin happen core_step step
  appending_and_seeking first_call = refl

  pub unlinked_file_lives_on : UnlinkedFileLivesOn A
  unfolding first_from numbers_from pids in_rows in_parked readers writers settle flowed read_pipe write_pipe read_file write_file lowest lowest_pid begin_pipe begin_open_name begin_read begin_write begin_close begin_lseek begin_get_fl begin_set_fl begin_unlink try begin happen core_step step
  unlinked_file_lives_on first_call = refl

  pub names_keep_their_files : NamesKeepTheirFiles A
  unfolding first_from numbers_from pids in_rows in_parked readers writers settle flowed read_pipe write_pipe read_file write_file lowest lowest_pid begin_pipe begin_open_name begin_read begin_write begin_close begin_lseek begin_get_fl begin_set_fl begin_unlink try begin happen core_step step
  names_keep_their_files first_call = refl

  pub pipes_have_no_offset : PipesHaveNoOffset A
  unfolding first_from numbers_from pids in_rows in_parked readers writers settle flowed read_pipe write_pipe read_file write_file lowest lowest_pid begin_pipe begin_open_name begin_read begin_write begin_close begin_lseek begin_get_fl begin_set_fl begin_unlink try begin happen core_step step
  pipes_have_no_offset first_call = refl

  pub script_of_files : ScriptOfFiles A
  unfolding first_from numbers_from pids in_rows in_parked readers writers settle flowed read_pipe write_pipe read_file write_file lowest lowest_pid begin_pipe begin_open_name begin_read begin_write begin_close begin_lseek begin_get_fl begin_set_fl begin_unlink try begin happen core_step step words without_return number signed_below hex_bytes repeated digits_or_repeated bytes_of name_bytes name_of mode_of whence_of open_flag with_flags flags_of flags_if_any open_name_of read_of write_of lseek_of unlink_of call_of start_of begin_of words_line line_of_words line hex_text bytes_text reply_text outcome_text lines asked answers digits
  script_of_files first_call = refl

pub names_in_words : NamesInWords
unfolding name_bytes name_of
names_in_words = record { plain = refl; empty = refl; dash = refl; either_case = refl; cut_short = refl; alone = refl; no_digit = refl; no_letter = refl; no_blank = refl }
