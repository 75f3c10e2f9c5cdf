use Rattle.pl_model.specs.declared.calls.Step.TheVariants.{Resume}
use Rattle.pl_model.specs.Touching.{touches}
use Rattle.pl_state.specs.Contents.{core_of}
use Rattle.pl_kernel.proofs.index.Touching.{touches-all}
use Rattle.pl_kernel.proofs.touch.touch_again.Goals as goal

pub returns : goal.returns
unfolding touches
returns g c = touches-all (core_of c.args.state.now) (Resume c.args.number) c.args.waiters.now c.touch_call.new.waiters c.touch_call.ensures.no_less c.touch_call.ensures.touched
