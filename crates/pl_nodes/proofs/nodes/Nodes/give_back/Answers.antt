use Rattle.pl_nodes.proofs.nodes.Nodes.give_back.Goals as goal

pub returns : goal.returns
returns g c = rw (c.trim.ensures) c.self.view_is
