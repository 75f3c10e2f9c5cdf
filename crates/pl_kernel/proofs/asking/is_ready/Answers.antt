use Rattle.std.proofs.Common.{Bool, sym, ◌∙◌, ap}
use Rattle.std.specs.Prelude.{◌&&◌}
use Rattle.pl_model.specs.Waking.{can_progress}
use Rattle.pl_state.specs.Contents.{core_of}
use Rattle.pl_kernel.proofs.index.Touching.{unready}
use Rattle.pl_kernel.proofs.index.Asked.{waits-parked}
use Rattle.pl_kernel.proofs.asking.is_ready.Goals as goal

pub returns-in-Some : goal.returns-in-Some
returns-in-Some g c =
    let k = c.args.state.now in
    let n = c.args.number in
    c.call_can_progress.ensures ∙ sym (ap (λ (b : Bool). b && can_progress (core_of k) n) (waits-parked k n c.in-Some.call c.in-Some.ensures.some))

pub returns-in-None : goal.returns-in-None
returns-in-None g c = sym (unready c.args.state.now c.args.number c.in-None.ensures.none)
