use Rattle.pl_nodes.proofs.Pipes.{seen-there}
use Rattle.pl_nodes.proofs.nodes.Nodes.capacity.Goals as goal

pub pipe_at-requires : goal.pipe_at-requires
pipe_at-requires g c = seen-there c.self.inside c.args.self.now c.self.view_is c.args.key c.requires
