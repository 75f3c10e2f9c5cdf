use Rattle.pl_recording.proofs.Rerun.{records_replay}
use Rattle.pl_recording.proofs.replaying.Goals as goal

pub returns : goal.returns
returns g c = records_replay _
