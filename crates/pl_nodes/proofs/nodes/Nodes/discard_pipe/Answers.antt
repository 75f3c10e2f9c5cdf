use Rattle.std.proofs.Common.{◌∙◌, Some, None, refl, sym, ap, nat_eq, arith}
use Rattle.pl_model.specs.declared.node.Node.TheVariants as node
use Rattle.pl_model.specs.Map.{set_at}
use Rattle.pl_segments.specs.Segments.{segment_at, at, trimmed}
use Rattle.pl_nodes.specs.declared.content.Content.TheVariants.{Pipe}
use Rattle.pl_nodes.specs.Nodes.{Nodes}
use Rattle.pl_nodes.specs.NodesView.{pipe_named}
use Rattle.pl_nodes.specs.Queue.{slots_of}
use Rattle.pl_nodes.proofs.AtKey.{held}
use Rattle.pl_nodes.proofs.OneChanged.{pipes_seen, files_seen, gone-seen, gone-unseen, cut-updates}
use Rattle.pl_nodes.proofs.Slices.{none-left}
use Rattle.pl_nodes.proofs.Coming.{says-unnamed, gone-sound, gone-shrinks}
use Rattle.pl_nodes.proofs.nodes.Nodes.discard_pipe.Goals as goal

pub let_go-requires : goal.let_go-requires
let_go-requires g c = held c.self.inside c.args.key (Pipe c.in-Pipe.gone) (c.remove.ensures.value ∙ ap (λ x. Some x) c.in-Pipe.is) c.self.invariant

pub invariant_of-self : goal.invariant_of-self
invariant_of-self g c =
    let k = c.self.inside in
    let there = c.remove.ensures.value ∙ ap (λ x. Some x) c.in-Pipe.is in
    rw (c.trim.ensures) (gone-sound k c.self.invariant (trimmed c.self.inside.limits.spare_max c.let_go.new.store) c.went.new.table c.args.key (Pipe c.in-Pipe.gone) there c.let_go.ensures.turns (cut-updates c.self.inside.contents c.remove.new.self c.went.new.table c.args.key None c.remove.ensures.updates c.went.ensures)
    (sym (sym (ap pipe_named there) ∙ says-unnamed k c.self.invariant c.args.self.now c.self.view_is (node.Pipe c.args.key) c.requires.unnamed), refl) (omega arith) c.went.new.self)

pub returns-clause-ok : goal.returns-clause-ok
returns-clause-ok g c =
    let k = c.self.inside in
    rw (c.trim.ensures) (gone-seen (segment_at k.store) (segment_at (trimmed c.self.inside.limits.spare_max c.let_go.new.store)) k.contents c.went.new.table c.args.key (Pipe c.in-Pipe.gone) (c.remove.ensures.value ∙ ap (λ x. Some x) c.in-Pipe.is)
    c.self.invariant.shared c.let_go.ensures.turns (cut-updates c.self.inside.contents c.remove.new.self c.went.new.table c.args.key None c.remove.ensures.updates c.went.ensures) pipes_seen
    ∙ ap (λ (v : Nodes). set_at nat_eq (at v.pipes) c.args.key None) c.self.view_is)

pub returns-clause-files : goal.returns-clause-files
returns-clause-files g c =
    let k = c.self.inside in
    rw (c.trim.ensures) (gone-unseen (segment_at k.store) (segment_at (trimmed c.self.inside.limits.spare_max c.let_go.new.store)) k.contents c.went.new.table c.args.key (Pipe c.in-Pipe.gone) (c.remove.ensures.value ∙ ap (λ x. Some x) c.in-Pipe.is)
    c.self.invariant.shared c.let_go.ensures.turns (cut-updates c.self.inside.contents c.remove.new.self c.went.new.table c.args.key None c.remove.ensures.updates c.went.ensures) files_seen refl
    ∙ ap (λ (v : Nodes). at v.files) c.self.view_is)

pub returns-clause-shrinks : goal.returns-clause-shrinks
returns-clause-shrinks g c =
    let k = c.self.inside in
    let there = c.remove.ensures.value ∙ ap (λ x. Some x) c.in-Pipe.is in
    rw (c.trim.ensures) (gone-shrinks k c.self.invariant (trimmed c.self.inside.limits.spare_max c.let_go.new.store) c.went.new.table c.args.key (Pipe c.in-Pipe.gone) there c.let_go.ensures.turns (cut-updates c.self.inside.contents c.remove.new.self c.went.new.table c.args.key None c.remove.ensures.updates c.went.ensures)
    (none-left k.store.held (trimmed c.self.inside.limits.spare_max c.let_go.new.store).held (slots_of c.in-Pipe.gone.queue) c.in_use-segments.ensures.good c.let_go.ensures.turns) c.args.self.now c.self.view_is)
