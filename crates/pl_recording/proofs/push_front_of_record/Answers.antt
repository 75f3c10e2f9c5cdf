use Rattle.std.proofs.Common.{refl}
use Rattle.pl_lines.proofs.Pushing.{behind}
use Rattle.pl_recording.proofs.push_front_of_record.Goals as goal

pub returns : goal.returns
returns g c = behind _ _ c.in_ok-push_front_of_header.was c.push_front_of_header.ensures c.push_entries.ensures refl
