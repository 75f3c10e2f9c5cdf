use Rattle.pl_model.proofs.computed.VersionExamples.{pieces_of_bytes, bytes_by_runs, lines_with_packets, first_lines, script_of_version_2}
use Rattle.pl_model.proofs.worked.versions.Goals as goal

pub returns-clause-pieces : goal.returns-clause-pieces
returns-clause-pieces g c = pieces_of_bytes

pub returns-clause-runs : goal.returns-clause-runs
returns-clause-runs g c = bytes_by_runs

pub returns-clause-lines : goal.returns-clause-lines
returns-clause-lines g c = lines_with_packets _

pub returns-clause-first_lines : goal.returns-clause-first_lines
returns-clause-first_lines g c = first_lines _

pub returns-clause-script : goal.returns-clause-script
returns-clause-script g c = script_of_version_2 _
