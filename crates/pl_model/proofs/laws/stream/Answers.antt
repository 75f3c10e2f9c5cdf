use Rattle.pl_model.proofs.streams.StreamRuns.{stream-step, stream-run}
use Rattle.pl_model.proofs.streams.WholeStream.{stream_law}
use Rattle.pl_model.proofs.laws.stream.Goals as goal

pub returns-clause-step : goal.returns-clause-step
returns-clause-step g c = stream-step

pub returns-clause-run : goal.returns-clause-run
returns-clause-run g c = stream-run

pub returns-clause-whole : goal.returns-clause-whole
returns-clause-whole g c = stream_law
