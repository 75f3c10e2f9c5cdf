use Rattle.std.proofs.Common.{◌≡◌, ◌-◌, ◌∙◌, ap}
use Rattle.pl_model.specs.Transfer.{room}
use Rattle.pl_model.specs.Packets.{used_of}
use Rattle.pl_nodes.specs.Queue.{capacity_of, packets_of}
use Rattle.pl_nodes.proofs.Pipes.{pipe-total, pipe-said, seen-there}
use Rattle.pl_nodes.proofs.nodes.Nodes.room.Goals as goal

pub pipe_at-requires : goal.pipe_at-requires
pipe_at-requires g c = seen-there c.self.inside c.args.self.now c.self.view_is c.args.key c.requires

pub returns-clause-value : goal.returns-clause-value
returns-clause-value g c =
    let node = c.pipe_at.result.now in
    let there = c.pipe_at.ensures in
    pipe-said c.self.inside c.args.key node there c.self.invariant c.args.self.now c.self.view_is (λ x. c.room.result ≡ room x)
    (c.room.ensures.value ∙ ap (λ n. capacity_of node.queue - used_of (packets_of node.queue) n) (pipe-total c.self.inside c.args.key node there c.self.invariant c.args.self.now c.self.view_is))
