use Rattle.std.proofs.Common.{subst, ◌∙◌}
use Rattle.pl_state.specs.Contents.{Contents}
use Rattle.pl_state.specs.KernelView.{view_of}
use Rattle.pl_kernel.specs.ToldNodes.{TellsProcess}
use Rattle.pl_kernel.proofs.ToldNodes.{tells_process}
use Rattle.pl_kernel.proofs.kernel.Kernel.has_process.Goals as goal

pub returns : goal.returns
returns g c =
    subst (λ (z : Contents g.row.A.Denot). TellsProcess z c.args.pid c.has.result) (c.state.view_is ∙ c.self.view_is)
    (tells_process (view_of c.state.inside) c.args.pid c.has.result c.has.ensures.value)
