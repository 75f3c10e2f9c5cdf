use Rattle.std.proofs.Common.{◌≤◌, ◌*◌, ◌/◌, Some, IfSome, subst, ◌∙◌}
use Rattle.pl_model.specs.State.{Pipe}
use Rattle.pl_segments.specs.Segments.{segment_size}
use Rattle.pl_state.specs.Contents.{Contents}
use Rattle.pl_state.specs.KernelView.{view_of}
use Rattle.pl_transfers.specs.Capacities.{WithinCapacity}
use Rattle.pl_transfers.proofs.by_call.Sizing.{told_pipe, pipe_of_end}
use Rattle.pl_transfers.proofs.by_call.Slots.{within_some}
use Rattle.pl_transfers.proofs.capacities.slots.Goals as goal

pub returns-clause-few : goal.returns-clause-few
returns-clause-few g c =
    let k = view_of c.kernel.inside in
    let named = told_pipe k c.args.kernel.now c.kernel.view_is c.args.pid c.args.fd c.ranges.fd c.pipe_named.result c.pipe_named.ensures.value in
    let there = (pipe_of_end k c.args.kernel.now c.kernel.view_is c.kernel.invariant.0.whole c.in_ok-pipe.pipe c.in_ok-pipe.ensures.end).1 in
    let few : c.slots.result ≤ 2 * there.0.capacity / segment_size = subst (λ z. IfSome z (λ (x : Pipe). c.slots.result ≤ 2 * x.capacity / segment_size)) there.1 c.slots.ensures.bound in
    subst (λ (z : Contents g.row.A.Denot). WithinCapacity z c.args.pid c.args.fd (Some c.slots.result)) c.kernel.view_is
    (within_some k c.args.pid c.args.fd c.in_ok-pipe.pipe (named ∙ c.in_ok-pipe.was) there.0 there.1 c.slots.result few)
