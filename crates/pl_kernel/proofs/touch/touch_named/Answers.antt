use Rattle.std.proofs.Common.{length, sym, ap, ◌∙◌}
use Rattle.pl_model.specs.declared.calls.Step.TheVariants.{Begin}
use Rattle.pl_model.specs.Touching.{touches}
use Rattle.pl_state.specs.Contents.{Contents, core_of}
use Rattle.pl_kernel.proofs.index.Finding.{as-bits}
use Rattle.pl_kernel.proofs.index.Touching.{touches-all, touches-nobody, nobody}
use Rattle.pl_kernel.proofs.touch.touch_named.Goals as goal

pub returns-then-len-ne0 : goal.returns-then-len-ne0
unfolding touches
returns-then-len-ne0 g c = λ call on.
    touches-all (core_of c.args.state.now) (Begin c.args.pid call) c.args.waiters.now c.touch_fd.new.waiters c.touch_fd.ensures.no_less
    (λ node t. c.touch_fd.ensures.touched node (as-bits (core_of c.args.state.now) node c.args.pid c.args.fd c.ranges.fd (on node t)))

pub returns-else-len-ne0 : goal.returns-else-len-ne0
returns-else-len-ne0 g c = λ call on.
    touches-nobody (core_of c.args.state.now) (Begin c.args.pid call) c.args.waiters.now
    (nobody c.args.state.now (ap (λ (z : Contents g.row.A.Denot). length z.calls.calls) (sym c.state.view_is) ∙ sym c.len.ensures ∙ c.if-len-ne0.false))
