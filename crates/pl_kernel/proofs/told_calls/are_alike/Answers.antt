use Rattle.std.proofs.Common.{subst}
use Rattle.pl_state.specs.Sound.{IsSound}
use Rattle.pl_kernel.proofs.ToldCalls.{tells_alike}
use Rattle.pl_kernel.proofs.told_calls.are_alike.Goals as goal

pub returns : goal.returns
returns g c =
    let sound = subst (IsSound g.row.A.Denot) c.kernel.view_is c.kernel.invariant.0 in
    tells_alike c.args.kernel.now sound c.args.number c.args.other _ _ _ _ c.in-Some.ensures.some c.in-Some-waiting_read.ensures.some
