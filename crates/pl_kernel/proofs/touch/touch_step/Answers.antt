use Rattle.std.proofs.Common.{length, sym, ap, ◌∙◌}
use Rattle.pl_state.specs.Contents.{Contents, core_of}
use Rattle.pl_kernel.proofs.index.Touching.{touches-nobody, nobody}
use Rattle.pl_kernel.proofs.touch.touch_step.Goals as goal

pub returns-else-len-ne0 : goal.returns-else-len-ne0
returns-else-len-ne0 g c =
    touches-nobody (core_of c.args.state.now) c.args.step.now c.args.waiters.now
    (nobody c.args.state.now (ap (λ (z : Contents g.row.A.Denot). length z.calls.calls) (sym c.state.view_is) ∙ sym c.len.ensures ∙ c.if-len-ne0.false))
