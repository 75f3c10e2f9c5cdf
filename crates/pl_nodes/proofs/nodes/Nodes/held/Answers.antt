use Rattle.std.proofs.Common.{◌≡◌, ◌∙◌, length}
use Rattle.pl_nodes.proofs.Pipes.{pipe-total, pipe-said, seen-there}
use Rattle.pl_nodes.proofs.nodes.Nodes.held.Goals as goal

pub pipe_at-requires : goal.pipe_at-requires
pipe_at-requires g c = seen-there c.self.inside c.args.self.now c.self.view_is c.args.key c.requires

pub returns-clause-value : goal.returns-clause-value
returns-clause-value g c =
    let there = c.pipe_at.ensures in
    pipe-said c.self.inside c.args.key c.pipe_at.result.now there c.self.invariant c.args.self.now c.self.view_is (λ x. c.len.result ≡ length x.bytes)
    (c.len.ensures.value ∙ pipe-total c.self.inside c.args.key c.pipe_at.result.now there c.self.invariant c.args.self.now c.self.view_is)
