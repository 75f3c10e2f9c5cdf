-- The small examples of the versions of scripts, each computed from the definitions.
use Rattle.std.proofs.Common.{refl}
use Rattle.std.specs.Fmt.{digits}
use Rattle.pl_model.specs.Numbers.{first_from, numbers_from}
use Rattle.pl_model.specs.Live.{readers, writers, pids, in_rows, in_parked}
use Rattle.pl_model.specs.Settle.{settle}
use Rattle.pl_model.specs.Trial.{flowed}
use Rattle.pl_model.specs.Transfer.{read_pipe, write_pipe}
use Rattle.pl_model.specs.Tables.{lowest, lowest_pid}
use Rattle.pl_model.specs.Begin.{begin_pipe, begin_read, begin_write, begin_get_fl}
use Rattle.pl_model.specs.Step.{try, begin, happen, core_step}
use Rattle.pl_model.specs.Numbered.{step}
use Rattle.pl_model.specs.Words.{words, without_return, number, signed_below, hex_bytes, repeated, digits_or_repeated, pieces, bytes_of, pipe_flag, open_flag, with_flags, flags_of, flags_if_any, flags_or_none}
use Rattle.pl_model.specs.Lines.{pipe_of, read_of, write_of, get_fl_of, set_fl_of, call_of, start_of, begin_of, words_line, line_of_words, line}
use Rattle.pl_model.specs.Shown.{hex_text, runs, run_pieces, pieces_text, bytes_text, file_text, names_text, flags_text, reply_text, outcome_text}
use Rattle.pl_model.specs.Script.{lines, first_bad, asked, answers}
use Rattle.pl_model.specs.WorkedVersions.{PiecesOfBytes, BytesByRuns, LinesWithPackets, FirstLines, ScriptOfVersion2}

pub pieces_of_bytes : PiecesOfBytes
unfolding number hex_bytes repeated digits_or_repeated pieces bytes_of
pieces_of_bytes =
    record {
      several = refl;
      one = refl;
      none = refl;
      of_no_bytes = refl;
      at_the_end = refl;
      at_the_front = refl;
      nothing_between = refl;
      none_and_some = refl;
      in_version_1 = refl;
    }

pub bytes_by_runs : BytesByRuns
unfolding digits hex_text runs run_pieces pieces_text bytes_text file_text
bytes_by_runs =
    record {
      three = refl;
      four = refl;
      behind_others = refl;
      between = refl;
      alternating = refl;
      none = refl;
      file = refl;
      in_version_1 = refl;
    }

module _ (A : Type 0) where
  pub lines_with_packets : LinesWithPackets A
  unfolding words without_return number signed_below pipe_flag open_flag with_flags flags_of flags_if_any flags_or_none pipe_of set_fl_of call_of begin_of words_line line_of_words line
  lines_with_packets =
      record {
        plain = refl;
        packets = refl;
        both = refl;
        twice = refl;
        no_flags = refl;
        set = refl;
      }

  pub first_lines : FirstLines A
  unfolding words without_return number lines first_bad start_of begin_of words_line line_of_words line
  first_lines =
      record {
        alone = refl;
        good = refl;
        again = refl;
        second = refl;
        behind_a_blank = refl;
        before_a_blank = refl;
        longer = refl;
      }

  pub script_of_version_2 : ScriptOfVersion2 A
  unfolding first_from numbers_from pids in_rows in_parked readers writers settle flowed read_pipe write_pipe lowest lowest_pid begin_pipe begin_read begin_write begin_get_fl try begin happen core_step step words without_return number signed_below hex_bytes repeated digits_or_repeated pieces bytes_of pipe_flag with_flags flags_of flags_if_any pipe_of read_of write_of get_fl_of call_of start_of begin_of words_line line_of_words line hex_text runs run_pieces pieces_text bytes_text names_text flags_text reply_text outcome_text lines asked answers digits
  script_of_version_2 limits = refl
