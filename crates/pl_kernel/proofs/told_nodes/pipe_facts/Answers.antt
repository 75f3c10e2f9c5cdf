use Rattle.std.proofs.Common.{sym, subst, IsSome}
use Rattle.pl_desc.specs.Rows.{at}
use Rattle.pl_state.specs.Contents.{Contents}
use Rattle.pl_state.specs.KernelView.{view_of}
use Rattle.pl_kernel.proofs.ToldNodes.{pipe-told}
use Rattle.pl_kernel.proofs.told_nodes.pipe_facts.Goals as goal

pub returns : goal.returns
returns g c =
    let there = subst (λ (z : Contents g.row.A.Denot). IsSome (at z.nodes.pipes c.args.pipe)) (sym c.kernel.view_is) c.requires in
    rw (c.kind_of_pipe.ensures, ← c.kernel.view_is) (pipe-told (view_of c.kernel.inside) c.args.pipe c.is_packet.result c.held.result there c.is_packet.ensures c.held.ensures.value)
