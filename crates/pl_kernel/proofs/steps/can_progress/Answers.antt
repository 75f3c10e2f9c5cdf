use Rattle.std.proofs.Common.{sym, subst}
use Rattle.pl_state.specs.Sound.{IsSound}
use Rattle.pl_state.proofs.by_call.Resumed.{none-progresses}
use Rattle.pl_kernel.proofs.steps.can_progress.Goals as goal

pub returns-in-None : goal.returns-in-None
returns-in-None g c =
    let sound = subst (IsSound g.row.A.Denot) c.kernel.view_is c.kernel.invariant.0 in
    sym (none-progresses c.args.kernel.now sound c.args.number c.in-None.ensures.none)
