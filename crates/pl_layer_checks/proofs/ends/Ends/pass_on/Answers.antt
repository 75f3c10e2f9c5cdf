use Rattle.std.proofs.Common.{ap}
use Rattle.pl_segments.specs.Segments.{at}
use Rattle.pl_layer_checks.proofs.Staying.{stays-pipes, stays-same}
use Rattle.pl_layer_checks.proofs.ends.Ends.pass_on.Goals as goal

pub invariant_of-self : goal.invariant_of-self
invariant_of-self g c =
    let k = c.self.inside in
    let new = c.move_pipe_pipe.new.self in
    let done = c.move_pipe_pipe.ensures in
    let stays = stays-pipes c.move_pipe_pipe.result k.second k.first k.nodes new _ _ done.ok done.unchanged in (
      stays k.first c.self.invariant.0,
      stays k.second c.self.invariant.1,
      stays-same (at k.nodes.files) (at new.files) (ap at done.files.files) k.file c.self.invariant.2,
      c.self.invariant.3,
    )
