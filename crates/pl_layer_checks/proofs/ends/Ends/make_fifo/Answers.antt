use Rattle.pl_model.specs.State.{empty_pipe}
use Rattle.pl_segments.specs.Segments.{at}
use Rattle.pl_layer_checks.proofs.Staying.{stays-pipe-made, stays-same}
use Rattle.pl_layer_checks.proofs.ends.Ends.make_fifo.Goals as goal

pub invariant_of-self : goal.invariant_of-self
invariant_of-self g c =
    let k = c.self.inside in
    let new = c.make_fifo.new.self in
    let done = c.make_fifo.ensures in
    let stays = stays-pipe-made c.make_fifo.result k.nodes new empty_pipe done.ok done.unchanged in (
      stays k.first c.self.invariant.0,
      stays k.second c.self.invariant.1,
      stays-same (at k.nodes.files) (at new.files) done.files k.file c.self.invariant.2,
      c.self.invariant.3,
    )
