use Rattle.std.proofs.Common.{◌≡◌, ◌∙◌, Some, ap}
use Rattle.std.specs.Prelude.{is_some}
use Rattle.pl_nodes.proofs.Pipes.{pipe-said}
use Rattle.pl_nodes.proofs.nodes.Nodes.is_packet.Goals as goal

pub returns : goal.returns
returns g c =
    pipe-said c.self.inside c.args.key c.in-Pipe.node (c.index.ensures ∙ ap (λ x. Some x) c.in-Pipe.is) c.self.invariant c.args.self.now c.self.view_is (λ x. c.is_packet.result ≡ is_some x.packets) c.is_packet.ensures
