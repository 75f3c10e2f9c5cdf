use Rattle.std.proofs.Common.{sym, ◌∙◌}
use Rattle.pl_state.specs.KernelView.{view_of}
use Rattle.pl_splices.proofs.by_call.Sharing.{by_step-same}
use Rattle.pl_kernel.proofs.Stepping.{no_process}
use Rattle.pl_kernel.proofs.steps.act.Goals as goal

pub returns-then-not-has-clause-done : goal.returns-then-not-has-clause-done
returns-then-not-has-clause-done g c =
    let k = view_of c.kernel.inside in
    rw (← c.kernel.view_is, c.in-Begin.is) (no_process k c.kernel.invariant.0 c.in-Begin.pid c.in-Begin.call (sym c.has.ensures.value ∙ c.if-not-has.true))

pub returns-then-not-has-clause-shares : goal.returns-then-not-has-clause-shares
returns-then-not-has-clause-shares g c = by_step-same c.args.kernel.now c.args.step
