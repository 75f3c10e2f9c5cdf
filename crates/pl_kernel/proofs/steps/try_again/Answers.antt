use Rattle.std.proofs.Common.{subst}
use Rattle.pl_state.specs.Sound.{IsSound}
use Rattle.pl_state.proofs.by_call.Resumed.{resume-none}
use Rattle.pl_kernel.proofs.steps.try_again.Goals as goal

pub returns-in_default-clause-done : goal.returns-in_default-clause-done
returns-in_default-clause-done g c =
    let sound = subst (IsSound g.row.A.Denot) c.kernel.view_is c.kernel.invariant.0 in
    resume-none c.args.kernel.now sound c.args.number c.in_default.ensures.none
