use Rattle.std.proofs.Common.{◌∙◌, ap}
use Rattle.pl_segments.specs.Segments.{segment_at, at}
use Rattle.pl_segments.specs.Sharing.{named}
use Rattle.pl_nodes.specs.Nodes.{Nodes, segments_named}
use Rattle.pl_nodes.specs.NodesView.{lists}
use Rattle.pl_nodes.proofs.Lists.{no-segments, unseen-slots}
use Rattle.pl_nodes.proofs.Slices.{named-live}
use Rattle.pl_nodes.proofs.nodes.Nodes.segments.Goals as goal

pub returns-clause-named : goal.returns-clause-named
returns-clause-named g c = λ n. λ below.
    let k = c.self.inside in
    c.in_use.ensures.value
    ∙ named-live k.store.held (lists k.contents.slots) c.in_use.ensures.good c.self.invariant.shared n
    (λ key l. ap (λ (v : Nodes). named v.slots key) c.self.view_is ∙ below key l)
    ∙ ap (λ (v : Nodes). segments_named v.slots n) c.self.view_is

pub returns-clause-none : goal.returns-clause-none
returns-clause-none g c = λ no_pipe. λ no_file.
    let k = c.self.inside in
    c.in_use.ensures.value
    ∙ no-segments k.store.held (lists k.contents.slots) c.in_use.ensures.good c.self.invariant.shared
    (unseen-slots (segment_at k.store) k.contents.slots
    (λ q. ap (λ (v : Nodes). at v.pipes q) c.self.view_is ∙ no_pipe q) (λ q. ap (λ (v : Nodes). at v.files q) c.self.view_is ∙ no_file q))
