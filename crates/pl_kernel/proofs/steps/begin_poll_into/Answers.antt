use Rattle.std.proofs.Common.{sym, ◌∙◌}
use Rattle.pl_model.specs.declared.calls.Call.{Call}
use Rattle.pl_state.specs.KernelView.{view_of}
use Rattle.pl_polls.specs.Entries.{asked}
use Rattle.pl_kernel.proofs.Stepping.{no_process}
use Rattle.pl_kernel.proofs.steps.begin_poll_into.Goals as goal

pub returns-then-not-has-clause-done : goal.returns-then-not-has-clause-done
returns-then-not-has-clause-done g c = rw (← c.kernel.view_is) (no_process (view_of c.kernel.inside) c.kernel.invariant.0 c.args.pid (Call.Poll (asked c.args.entries.now) c.args.wait) (sym c.has.ensures.value ∙ c.if-not-has.true))
