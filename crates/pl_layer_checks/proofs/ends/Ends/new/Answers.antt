use Rattle.std.proofs.Common.{[]}
use Rattle.pl_model.specs.State.{empty_pipe}
use Rattle.pl_segments.specs.Segments.{at}
use Rattle.pl_layer_checks.proofs.Staying.{stays-same, stays-set, there-set, elsewhere}
use Rattle.pl_layer_checks.proofs.ends.Ends.new.Goals as goal

pub invariant_of-result : goal.invariant_of-result
invariant_of-result g c =
    let zero = c.new-nodes.result in
    let one = c.make_fifo.new.self in
    let two = c.make_pipe.new.self in
    let three = c.make_file.new.self in
    let first = there-set c.in-Ok.first (at zero.pipes) (at one.pipes) empty_pipe c.in-Ok.ensures.ok in
    let stays = stays-same (at two.pipes) (at three.pipes) c.make_file.ensures.pipes in (
      stays c.in-Ok.first (stays-set c.in_ok-second.second (at one.pipes) (at two.pipes) empty_pipe c.in_ok-second.ensures.ok c.in-Ok.first first),
      stays c.in_ok-second.second (there-set c.in_ok-second.second (at one.pipes) (at two.pipes) empty_pipe c.in_ok-second.ensures.ok),
      there-set c.in-Ok-make_file.file (at two.files) (at three.files) [] c.in-Ok-make_file.ensures.ok,
      elsewhere (at one.pipes) c.in-Ok.first c.in_ok-second.second first c.in_ok-second.ensures.vacant.0,
    )
