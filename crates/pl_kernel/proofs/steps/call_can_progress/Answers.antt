use Rattle.std.proofs.Common.{sym, subst}
use Rattle.pl_state.specs.KernelView.{view_of}
use Rattle.pl_state.specs.Parking.{OpenWaits}
use Rattle.pl_state.specs.declared.waits.WaitingCall.TheVariants.{Open}
use Rattle.pl_state.specs.Waits.{WaitsAs}
use Rattle.pl_state.proofs.Known.{known}
use Rattle.pl_transfers.proofs.by_call.Progress.{open-progress}
use Rattle.pl_kernel.proofs.steps.call_can_progress.Goals as goal

pub returns-in-Open : goal.returns-in-Open
returns-in-Open g c =
    let n = c.args.number in
    let o = c.in-Open in
    let waits : OpenWaits (view_of c.kernel.inside) n o.pid o.key o.met = subst (λ z. WaitsAs z n (Open o.key o.pid o.met)) (sym c.kernel.view_is) (subst (λ z. WaitsAs c.args.kernel.now n z) o.is c.requires) in
    rw (← c.kernel.view_is) (sym (open-progress (known c.kernel.inside c.kernel.invariant) n o.pid o.key o.met waits))
