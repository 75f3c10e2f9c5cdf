use Rattle.std.proofs.Common.{sym, ◌∙◌, ap, length}
use Rattle.std.proofs.lemmas.List.{length-map}
use Rattle.pl_nodes.specs.Nodes.{Nodes}
use Rattle.pl_nodes.proofs.nodes.Nodes.name_count.Goals as goal

pub returns : goal.returns
returns g c = c.len.ensures.len ∙ sym (length-map c.self.inside.names.entries (λ e. (e.0.items, e.1))) ∙ ap (λ (n : Nodes). length n.names) c.self.view_is
