use Rattle.pl_lines.proofs.ExplainLaw.{explains}
use Rattle.pl_lines.proofs.laws.explaining.Goals as goal

pub returns : goal.returns
returns g c = explains g.row.A.Denot
