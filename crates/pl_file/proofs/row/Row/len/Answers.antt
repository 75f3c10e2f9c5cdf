use Rattle.std.proofs.Common.{◌∙◌}
use Rattle.pl_file.proofs.Placed.{count-is}
use Rattle.pl_file.proofs.row.Row.len.Goals as goal

pub returns-clause-value : goal.returns-clause-value
returns-clause-value g c = c.len.ensures ∙ count-is c.self.inside c.args.self.now c.self.view_is
