use Rattle.std.proofs.Common.{[]}
use Rattle.pl_segments.specs.Segments.{at}
use Rattle.pl_layer_checks.proofs.Staying.{stays-file-made, stays-same}
use Rattle.pl_layer_checks.proofs.ends.Ends.make_file.Goals as goal

pub invariant_of-self : goal.invariant_of-self
invariant_of-self g c =
    let k = c.self.inside in
    let new = c.make_file.new.self in
    let done = c.make_file.ensures in
    let stays = stays-same (at k.nodes.pipes) (at new.pipes) done.pipes in (
      stays k.first c.self.invariant.0,
      stays k.second c.self.invariant.1,
      stays-file-made c.make_file.result k.nodes new [] done.ok done.unchanged k.file c.self.invariant.2,
      c.self.invariant.3,
    )
