use Rattle.std.proofs.Common.{sym, subst, IsSome}
use Rattle.pl_desc.specs.Rows.{at}
use Rattle.pl_state.specs.Contents.{Contents}
use Rattle.pl_state.specs.KernelView.{view_of}
use Rattle.pl_kernel.proofs.ToldNodes.{file-told}
use Rattle.pl_kernel.proofs.told_nodes.file_facts.Goals as goal

pub returns : goal.returns
returns g c =
    let there = subst (λ (z : Contents g.row.A.Denot). IsSome (at z.nodes.files c.args.file)) (sym c.kernel.view_is) c.requires in
    rw (← c.kernel.view_is) (file-told (view_of c.kernel.inside) c.args.file c.file_len.result there c.file_len.ensures.value)
