use Rattle.std.proofs.Common.{◌≡◌, ◌≤◌, ◌∙◌, ap, length, arith}
use Rattle.pl_model.specs.Packets.{front, front_of}
use Rattle.pl_nodes.specs.Queue.{packets_of}
use Rattle.pl_nodes.proofs.Pipes.{pipe-total, pipe-said, seen-there}
use Rattle.pl_nodes.proofs.nodes.Nodes.front.Goals as goal

pub pipe_at-requires : goal.pipe_at-requires
pipe_at-requires g c = seen-there c.self.inside c.args.self.now c.self.view_is c.args.key c.requires

pub returns-clause-value : goal.returns-clause-value
returns-clause-value g c =
    let node = c.pipe_at.result.now in
    let there = c.pipe_at.ensures in
    pipe-said c.self.inside c.args.key node there c.self.invariant c.args.self.now c.self.view_is (λ x. c.front.result ≡ front x)
    (c.front.ensures.value ∙ ap (front_of (packets_of node.queue)) (pipe-total c.self.inside c.args.key node there c.self.invariant c.args.self.now c.self.view_is))

pub returns-clause-within : goal.returns-clause-within
returns-clause-within g c =
    let there = c.pipe_at.ensures in
    let total = pipe-total c.self.inside c.args.key c.pipe_at.result.now there c.self.invariant c.args.self.now c.self.view_is in
    pipe-said c.self.inside c.args.key c.pipe_at.result.now there c.self.invariant c.args.self.now c.self.view_is (λ x. c.front.result ≤ length x.bytes)
    (omega (arith, c.front.ensures.within, total))
