use Rattle.std.proofs.Common.{sym, ◌∙◌}
use Rattle.pl_model.specs.declared.calls.Call.{Call}
use Rattle.pl_state.specs.KernelView.{view_of}
use Rattle.pl_kernel.proofs.Stepping.{no_process}
use Rattle.pl_kernel.proofs.steps.refusal_of_write.Goals as goal

pub returns-then-not-has-clause-some : goal.returns-then-not-has-clause-some
returns-then-not-has-clause-some g c =
    λ bytes many. rw (← c.kernel.view_is) (no_process (view_of c.kernel.inside) c.kernel.invariant.0 c.args.pid (Call.Write c.args.fd bytes) (sym c.has.ensures.value ∙ c.if-not-has.true))
