use Rattle.std.proofs.Common.{subst}
use Rattle.pl_state.specs.KernelView.{view_of}
use Rattle.pl_state.specs.Parking.{ReadWaits}
use Rattle.pl_transfers.proofs.by_call.Measuring.{none-readable}
use Rattle.pl_transfers.proofs.readable.bytes_to_resume.Goals as goal

pub returns-in-Some-clause-value : goal.returns-in-Some-clause-value
returns-in-Some-clause-value g c = c.in-Some.ensures.some.count

pub returns-in-Some-clause-few : goal.returns-in-Some-clause-few
returns-in-Some-clause-few g c = c.in-Some.ensures.some.few

pub returns-in-None-clause-value : goal.returns-in-None-clause-value
returns-in-None-clause-value g c =
    let k = view_of c.kernel.inside in
    rw (← c.kernel.view_is) (none-readable k c.kernel.invariant.0 c.args.number (λ key n w. c.in-None.ensures.none key n (subst (λ z. ReadWaits z c.args.number key n) c.kernel.view_is w)))
