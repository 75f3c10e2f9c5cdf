use Rattle.pl_model.proofs.computed.Examples.{script_of_bytes_before_end_of_file, script_of_flags, empty_script, script_without_line_feed, script_of_no_process}
use Rattle.pl_model.proofs.computed.FileExamples.{script_of_files, names_in_words}
use Rattle.pl_model.proofs.computed.CapacityExamples.{script_of_capacities, lines_of_capacities}
use Rattle.pl_model.proofs.computed.FifoExamples.{lines_of_fifos}
use Rattle.pl_model.proofs.computed.SpliceLineExamples.{lines_of_splices}
use Rattle.pl_model.proofs.computed.PollExamples.{script_of_polls, lines_of_polls}
use Rattle.pl_model.proofs.computed.PacketExamples.{status_flags_in_words, lines_without_packets}
use Rattle.pl_model.proofs.worked.scripts.Goals as goal

pub returns-clause-bytes_before_end_of_file : goal.returns-clause-bytes_before_end_of_file
returns-clause-bytes_before_end_of_file g c = script_of_bytes_before_end_of_file _

pub returns-clause-flags : goal.returns-clause-flags
returns-clause-flags g c = script_of_flags _

pub returns-clause-empty : goal.returns-clause-empty
returns-clause-empty g c = empty_script _

pub returns-clause-without_line_feed : goal.returns-clause-without_line_feed
returns-clause-without_line_feed g c = script_without_line_feed _

pub returns-clause-no_process : goal.returns-clause-no_process
returns-clause-no_process g c = script_of_no_process _

pub returns-clause-files : goal.returns-clause-files
returns-clause-files g c = script_of_files _

pub returns-clause-names : goal.returns-clause-names
returns-clause-names g c = names_in_words

pub returns-clause-capacities : goal.returns-clause-capacities
returns-clause-capacities g c = script_of_capacities _

pub returns-clause-lines_of_capacities : goal.returns-clause-lines_of_capacities
returns-clause-lines_of_capacities g c = lines_of_capacities _

pub returns-clause-lines_of_fifos : goal.returns-clause-lines_of_fifos
returns-clause-lines_of_fifos g c = lines_of_fifos _

pub returns-clause-lines_of_splices : goal.returns-clause-lines_of_splices
returns-clause-lines_of_splices g c = lines_of_splices _

pub returns-clause-polls : goal.returns-clause-polls
returns-clause-polls g c = script_of_polls _

pub returns-clause-lines_of_polls : goal.returns-clause-lines_of_polls
returns-clause-lines_of_polls g c = lines_of_polls _

pub returns-clause-status_flags : goal.returns-clause-status_flags
returns-clause-status_flags g c = status_flags_in_words

pub returns-clause-lines_without_packets : goal.returns-clause-lines_without_packets
returns-clause-lines_without_packets g c = lines_without_packets _
