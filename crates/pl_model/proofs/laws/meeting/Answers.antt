use Rattle.pl_model.proofs.streams.StayingMet.{stays_met, runs_stay_met}
use Rattle.pl_model.proofs.laws.meeting.Goals as goal

pub returns-clause-step : goal.returns-clause-step
returns-clause-step g c = stays_met

pub returns-clause-run : goal.returns-clause-run
returns-clause-run g c = runs_stay_met
