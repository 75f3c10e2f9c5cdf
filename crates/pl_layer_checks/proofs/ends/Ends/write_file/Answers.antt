use Rattle.std.proofs.Common.{ap}
use Rattle.pl_segments.specs.Segments.{at}
use Rattle.pl_layer_checks.proofs.Staying.{stays-file, stays-same}
use Rattle.pl_layer_checks.proofs.ends.Ends.write_file.Goals as goal

pub invariant_of-self : goal.invariant_of-self
invariant_of-self g c =
    let k = c.self.inside in
    let new = c.write_file.new.self in
    let done = c.write_file.ensures in
    let stays = stays-same (at k.nodes.pipes) (at new.pipes) (ap at done.pipes.pipes) in (
      stays k.first c.self.invariant.0,
      stays k.second c.self.invariant.1,
      stays-file c.write_file.result k.file k.nodes new _ done.ok done.unchanged k.file c.self.invariant.2,
      c.self.invariant.3,
    )
