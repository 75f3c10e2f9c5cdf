use Rattle.std.proofs.Common.{ap}
use Rattle.pl_segments.specs.Segments.{at}
use Rattle.pl_nodes.specs.Nodes.{Nodes}
use Rattle.pl_layer_checks.proofs.Staying.{stays-same}
use Rattle.pl_layer_checks.proofs.ends.Ends.unlink.Goals as goal

pub invariant_of-self : goal.invariant_of-self
invariant_of-self g c =
    let k = c.self.inside in
    let new = c.unlink.new.self in
    let stays = stays-same (at k.nodes.pipes) (at new.pipes) (ap (λ (v : Nodes). at v.pipes) c.unlink.ensures.rest) in (
      stays k.first c.self.invariant.0,
      stays k.second c.self.invariant.1,
      stays-same (at k.nodes.files) (at new.files) (ap (λ (v : Nodes). at v.files) c.unlink.ensures.rest) k.file c.self.invariant.2,
      c.self.invariant.3,
    )
