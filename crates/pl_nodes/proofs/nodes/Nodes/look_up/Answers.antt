use Rattle.std.proofs.Common.{◌∙◌}
use Rattle.pl_nodes.proofs.Names.{looked-up}
use Rattle.pl_nodes.proofs.nodes.Nodes.look_up.Goals as goal

pub returns : goal.returns
returns g c = c.copied.ensures ∙ c.get.ensures.value ∙ looked-up c.self.inside c.args.self.now c.self.view_is c.args.name.now
