use Rattle.pl_model.proofs.computed.PacketExamples.{packets_are_read_one_by_one, packet_pipe_at_its_limits, no_packet_is_empty, ends_of_a_packet_pipe, interrupted_write_of_packets, only_pipe_makes_packets, packet_pipes_are_not_spliced}
use Rattle.pl_model.proofs.worked.packets.Goals as goal

pub returns-clause-packets_are_read_one_by_one : goal.returns-clause-packets_are_read_one_by_one
returns-clause-packets_are_read_one_by_one g c = packets_are_read_one_by_one _

pub returns-clause-packet_pipe_at_its_limits : goal.returns-clause-packet_pipe_at_its_limits
returns-clause-packet_pipe_at_its_limits g c = packet_pipe_at_its_limits _

pub returns-clause-no_packet_is_empty : goal.returns-clause-no_packet_is_empty
returns-clause-no_packet_is_empty g c = no_packet_is_empty _

pub returns-clause-ends_of_a_packet_pipe : goal.returns-clause-ends_of_a_packet_pipe
returns-clause-ends_of_a_packet_pipe g c = ends_of_a_packet_pipe _

pub returns-clause-interrupted_write_of_packets : goal.returns-clause-interrupted_write_of_packets
returns-clause-interrupted_write_of_packets g c = interrupted_write_of_packets _

pub returns-clause-only_pipe_makes_packets : goal.returns-clause-only_pipe_makes_packets
returns-clause-only_pipe_makes_packets g c = only_pipe_makes_packets _

pub returns-clause-packet_pipes_are_not_spliced : goal.returns-clause-packet_pipes_are_not_spliced
returns-clause-packet_pipes_are_not_spliced g c = packet_pipes_are_not_spliced _
