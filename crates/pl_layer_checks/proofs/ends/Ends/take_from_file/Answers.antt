use Rattle.std.proofs.Common.{ap}
use Rattle.pl_segments.specs.Segments.{at}
use Rattle.pl_layer_checks.proofs.Staying.{stays-pipe, stays-same}
use Rattle.pl_layer_checks.proofs.ends.Ends.take_from_file.Goals as goal

pub invariant_of-self : goal.invariant_of-self
invariant_of-self g c =
    let k = c.self.inside in
    let new = c.move_file_pipe.new.self in
    let done = c.move_file_pipe.ensures in
    let stays = stays-pipe c.move_file_pipe.result k.first k.nodes new _ done.ok done.unchanged in (
      stays k.first c.self.invariant.0,
      stays k.second c.self.invariant.1,
      stays-same (at k.nodes.files) (at new.files) (ap at done.files.files) k.file c.self.invariant.2,
      c.self.invariant.3,
    )
