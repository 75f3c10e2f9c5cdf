use Rattle.std.proofs.Common.{◌∙◌, sym, ap, length}
use Rattle.pl_segments.specs.Sharing.{slots_at}
use Rattle.pl_nodes.specs.Nodes.{Nodes}
use Rattle.pl_nodes.specs.NodesView.{slots_in}
use Rattle.pl_nodes.proofs.Lists.{lists-at}
use Rattle.pl_nodes.proofs.Pipes.{seen-there}
use Rattle.pl_nodes.proofs.nodes.Nodes.slots.Goals as goal

pub pipe_at-requires : goal.pipe_at-requires
pipe_at-requires g c = seen-there c.self.inside c.args.self.now c.self.view_is c.args.key c.requires

pub returns-clause-value : goal.returns-clause-value
returns-clause-value g c =
    let contents = c.self.inside.contents.slots in
    c.slots.ensures.value
    ∙ ap (λ o. length (slots_in o)) (sym c.pipe_at.ensures)
    ∙ ap length (sym (lists-at contents c.args.key))
    ∙ ap (λ (v : Nodes). length (slots_at v.slots c.args.key)) c.self.view_is
