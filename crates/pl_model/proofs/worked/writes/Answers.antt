use Rattle.pl_model.proofs.computed.Examples.{table_of_writes}
use Rattle.pl_model.proofs.worked.writes.Goals as goal

pub returns : goal.returns
returns c = table_of_writes
