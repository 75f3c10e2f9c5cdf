use Rattle.pl_recording.proofs.OfJournals.{journals_replay}
use Rattle.pl_recording.proofs.journals.Goals as goal

pub returns : goal.returns
returns g c = journals_replay _
