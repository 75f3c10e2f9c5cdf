use Rattle.std.proofs.Common.{subst}
use Rattle.pl_state.specs.Contents.{Contents}
use Rattle.pl_kernel.specs.Progress.{TellsProgress, OrWaitsInVain}
use Rattle.pl_kernel.proofs.Progress.{tells_progress, waits_where_not}
use Rattle.pl_kernel.proofs.kernel.Kernel.can_progress.Goals as goal

pub returns-clause-value : goal.returns-clause-value
returns-clause-value g c =
    subst (λ (z : Contents g.row.A.Denot). TellsProgress z c.args.number c.can_progress.result) c.self.view_is
    (tells_progress c.self.inside.state c.args.number c.can_progress.result c.can_progress.ensures)

pub returns-clause-vain : goal.returns-clause-vain
returns-clause-vain g c =
    subst (λ (z : Contents g.row.A.Denot). OrWaitsInVain z c.args.number c.can_progress.result) c.self.view_is
    (waits_where_not c.self.inside.state c.args.number c.can_progress.result (tells_progress c.self.inside.state c.args.number c.can_progress.result c.can_progress.ensures))
