use Rattle.std.proofs.Common.{ap}
use Rattle.pl_model.specs.State.{Pipe, empty_pipe}
use Rattle.pl_segments.specs.Segments.{at}
use Rattle.pl_layer_checks.proofs.Staying.{is-bytes, stays-changed, stays-same}
use Rattle.pl_layer_checks.proofs.ends.Ends.reset.Goals as goal

pub invariant_of-self : goal.invariant_of-self
invariant_of-self g c =
    let k = c.self.inside in
    let new = c.reset_pipe.new.self in
    let stays = stays-changed k.first (at k.nodes.pipes) (at new.pipes) (λ (x : Pipe). empty_pipe) c.reset_pipe.ensures.ok in (
      stays k.first c.self.invariant.0,
      stays k.second c.self.invariant.1,
      stays-same (at k.nodes.files) (at new.files) (ap at c.reset_pipe.ensures.files.files) k.file c.self.invariant.2,
      c.self.invariant.3,
    )

pub reset_pipe-requires-clause-bytes : goal.reset_pipe-requires-clause-bytes
reset_pipe-requires-clause-bytes g c = is-bytes (at c.self.inside.nodes.pipes c.self.inside.first) c.is_packet.result c.is_packet.ensures c.if-is_packet.false
