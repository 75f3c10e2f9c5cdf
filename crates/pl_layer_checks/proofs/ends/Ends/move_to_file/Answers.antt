use Rattle.pl_layer_checks.proofs.Staying.{stays-file, stays-pipe}
use Rattle.pl_layer_checks.proofs.ends.Ends.move_to_file.Goals as goal

pub invariant_of-self : goal.invariant_of-self
invariant_of-self g c =
    let k = c.self.inside in
    let new = c.move_pipe_file.new.self in
    let done = c.move_pipe_file.ensures in
    let stays = stays-pipe c.move_pipe_file.result k.second k.nodes new _ done.pipes done.unchanged in (
      stays k.first c.self.invariant.0,
      stays k.second c.self.invariant.1,
      stays-file c.move_pipe_file.result k.file k.nodes new _ done.files done.unchanged k.file c.self.invariant.2,
      c.self.invariant.3,
    )
