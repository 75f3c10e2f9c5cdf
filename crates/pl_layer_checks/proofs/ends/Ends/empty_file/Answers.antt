use Rattle.std.proofs.Common.{ap}
use Rattle.pl_segments.specs.Segments.{at}
use Rattle.pl_layer_checks.proofs.Staying.{stays-changed, stays-same}
use Rattle.pl_layer_checks.proofs.ends.Ends.empty_file.Goals as goal

pub invariant_of-self : goal.invariant_of-self
invariant_of-self g c =
    let k = c.self.inside in
    let new = c.empty_file.new.self in
    let stays = stays-same (at k.nodes.pipes) (at new.pipes) (ap at c.empty_file.ensures.pipes.pipes) in (
      stays k.first c.self.invariant.0,
      stays k.second c.self.invariant.1,
      stays-changed k.file (at k.nodes.files) (at new.files) _ c.empty_file.ensures.ok k.file c.self.invariant.2,
      c.self.invariant.3,
    )
