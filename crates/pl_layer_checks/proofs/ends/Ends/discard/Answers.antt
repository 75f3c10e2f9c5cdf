use Rattle.std.proofs.Common.{ap, ◌∙◌}
use Rattle.pl_segments.specs.Segments.{at}
use Rattle.pl_nodes.specs.Nodes.{Nodes}
use Rattle.pl_layer_checks.proofs.Staying.{stays-same}
use Rattle.pl_layer_checks.proofs.ends.Ends.discard.Goals as goal
use Rattle.pl_layer_checks.proofs.ends.Ends.discard.Goals.{then-not-has_name, else-not-has_name}

pub discard_file-requires-clause-here : goal.discard_file-requires-clause-here
discard_file-requires-clause-here g c =
    let k = c.self.inside in
    let now = c.if-not-has_name.nodes in
    elim c.if-not-has_name.branch [
      | then-not-has_name w ↦ stays-same (at k.nodes.files) (at now.files) (ap (λ (v : Nodes). at v.files) w.nodes-is ∙ w.discard_pipe.ensures.files) k.file c.self.invariant.2
      | else-not-has_name w ↦ stays-same (at k.nodes.files) (at now.files) (ap (λ (v : Nodes). at v.files) w.nodes-is) k.file c.self.invariant.2
    ]
