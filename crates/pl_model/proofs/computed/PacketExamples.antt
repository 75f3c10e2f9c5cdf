-- The small examples of packet pipes, each computed from the definitions.
use Rattle.std.proofs.Common.{refl}
use Rattle.pl_model.specs.Numbers.{first_from, numbers_from}
use Rattle.pl_model.specs.Live.{readers, writers, pids, in_rows, in_parked}
use Rattle.pl_model.specs.Settle.{settle}
use Rattle.pl_model.specs.Trial.{flowed}
use Rattle.pl_model.specs.Transfer.{read_pipe, write_pipe}
use Rattle.pl_model.specs.Poll.{try_poll}
use Rattle.pl_model.specs.Capacity.{rounded_capacity}
use Rattle.pl_model.specs.Tables.{lowest, lowest_pid}
use Rattle.pl_model.specs.Begin.{begin_pipe, begin_mkfifo, begin_open_name, begin_read, begin_write, begin_splice, begin_tee, begin_poll, begin_dup, begin_close, begin_get_fl, begin_set_fl, begin_set_pipe_sz}
use Rattle.pl_model.specs.Splice.{try_move}
use Rattle.pl_model.specs.Step.{try, begin, happen, core_step}
use Rattle.pl_model.specs.Numbered.{step}
use Rattle.pl_model.specs.Words.{words, without_return, number, signed_below, mode_of, open_flag, with_flags, flags_of, flags_if_any, flags_or_none}
use Rattle.pl_model.specs.Lines.{pipe_of, open_name_of, set_fl_of, call_of, begin_of, words_line, line_of_words, line}
use Rattle.pl_model.specs.Shown.{names_text, flags_text}
use Rattle.pl_model.specs.WorkedPackets.{PacketsAreReadOneByOne, PacketPipeAtItsLimits, NoPacketIsEmpty, EndsOfAPacketPipe, InterruptedWriteOfPackets, OnlyPipeMakesPackets, PacketPipesAreNotSpliced, StatusFlagsInWords, LinesWithoutPackets}

pub status_flags_in_words : StatusFlagsInWords
unfolding names_text flags_text
status_flags_in_words =
    record {
      none = refl;
      only_append = refl;
      only_nonblock = refl;
      without_direct = refl;
      only_direct = refl;
      without_nonblock = refl;
      without_append = refl;
      all = refl;
      others = refl;
    }

module _ (A : Type 0) where
  pub packets_are_read_one_by_one : PacketsAreReadOneByOne A
  unfolding first_from numbers_from pids in_rows in_parked readers writers settle flowed read_pipe write_pipe rounded_capacity lowest lowest_pid begin_pipe begin_read begin_write begin_set_pipe_sz try begin happen core_step step
  packets_are_read_one_by_one file_max = refl

  pub packet_pipe_at_its_limits : PacketPipeAtItsLimits A
  unfolding first_from numbers_from pids in_rows in_parked readers writers settle flowed read_pipe write_pipe try_poll rounded_capacity lowest lowest_pid begin_pipe begin_read begin_write begin_splice begin_tee begin_poll begin_close begin_get_fl begin_set_fl begin_set_pipe_sz try begin happen core_step step try_move
  packet_pipe_at_its_limits limits = refl

  pub no_packet_is_empty : NoPacketIsEmpty A
  unfolding first_from numbers_from pids in_rows in_parked readers writers settle flowed read_pipe write_pipe lowest lowest_pid begin_pipe begin_read begin_write try begin happen core_step step
  no_packet_is_empty limits = refl

  pub ends_of_a_packet_pipe : EndsOfAPacketPipe A
  unfolding first_from numbers_from pids in_rows in_parked readers writers settle flowed read_pipe write_pipe try_poll lowest lowest_pid begin_pipe begin_read begin_write begin_poll begin_dup begin_close try begin happen core_step step
  ends_of_a_packet_pipe file_max = refl

  pub interrupted_write_of_packets : InterruptedWriteOfPackets A
  unfolding first_from numbers_from pids in_rows in_parked readers writers settle flowed read_pipe write_pipe rounded_capacity lowest lowest_pid begin_pipe begin_read begin_write begin_set_pipe_sz try begin happen core_step step
  interrupted_write_of_packets file_max = refl

  pub only_pipe_makes_packets : OnlyPipeMakesPackets A
  unfolding first_from numbers_from pids in_rows in_parked readers writers settle flowed read_pipe write_pipe lowest lowest_pid begin_mkfifo begin_open_name begin_read begin_write begin_get_fl begin_set_fl try begin happen core_step step
  only_pipe_makes_packets limits = refl

  pub packet_pipes_are_not_spliced : PacketPipesAreNotSpliced A
  unfolding first_from numbers_from pids in_rows in_parked readers writers settle flowed lowest lowest_pid begin_pipe begin_open_name begin_splice begin_tee try begin happen core_step step try_move
  packet_pipes_are_not_spliced limits = refl

  pub lines_without_packets : LinesWithoutPackets A
  unfolding words without_return number signed_below mode_of open_flag with_flags flags_of flags_if_any flags_or_none pipe_of open_name_of set_fl_of call_of begin_of words_line line_of_words line
  lines_without_packets =
      record {
        plain = refl;
        nonblocking = refl;
        packets = refl;
        both = refl;
        twice = refl;
        opened = refl;
        opened_with = refl;
        set = refl;
        set_with = refl;
      }
