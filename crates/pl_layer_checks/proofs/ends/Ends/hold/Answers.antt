use Rattle.std.proofs.Common.{ap}
use Rattle.pl_segments.specs.Segments.{at}
use Rattle.pl_layer_checks.proofs.Staying.{stays-pipe, stays-same}
use Rattle.pl_layer_checks.proofs.ends.Ends.hold.Goals as goal

pub invariant_of-self : goal.invariant_of-self
invariant_of-self g c =
    let k = c.self.inside in
    let new = c.set_capacity.new.self in
    let done = c.set_capacity.ensures in
    let stays = stays-pipe c.set_capacity.result k.first k.nodes new _ done.ok done.unchanged in (
      stays k.first c.self.invariant.0,
      stays k.second c.self.invariant.1,
      stays-same (at k.nodes.files) (at new.files) (ap at done.files.files) k.file c.self.invariant.2,
      c.self.invariant.3,
    )
