use Rattle.std.proofs.Common.{◌≡◌, true, false, sym, subst}
use Rattle.pl_model.specs.Touching.{touches}
use Rattle.pl_state.specs.Contents.{core_of}
use Rattle.pl_kernel.specs.Index.{TouchesAll}
use Rattle.pl_kernel.proofs.touch.touch_by_step.Goals as goal

pub returns-in-Start-clause-touched : goal.returns-in-Start-clause-touched
unfolding touches
returns-in-Start-clause-touched g c =
    subst (λ step. TouchesAll c.args.waiters.now c.touch_key.new.waiters (touches (core_of c.args.state.now) step)) (sym c.in-Start.is) (λ node t. absurd (let no : false ≡ true = t in cc))

pub returns-in-Begin-clause-touched : goal.returns-in-Begin-clause-touched
unfolding touches
returns-in-Begin-clause-touched g c =
    subst (λ step. TouchesAll c.args.waiters.now c.touch_begin.new.waiters (touches (core_of c.args.state.now) step)) (sym c.in-Begin.is) c.touch_begin.ensures.touched

pub returns-in-Resume-clause-touched : goal.returns-in-Resume-clause-touched
unfolding touches
returns-in-Resume-clause-touched g c =
    subst (λ step. TouchesAll c.args.waiters.now c.touch_call.new.waiters (touches (core_of c.args.state.now) step)) (sym c.in-Resume.is) c.touch_call.ensures.touched

pub returns-in-Interrupt-clause-touched : goal.returns-in-Interrupt-clause-touched
unfolding touches
returns-in-Interrupt-clause-touched g c =
    subst (λ step. TouchesAll c.args.waiters.now c.touch_call-in-Interrupt.new.waiters (touches (core_of c.args.state.now) step)) (sym c.in-Interrupt.is) c.touch_call-in-Interrupt.ensures.touched
