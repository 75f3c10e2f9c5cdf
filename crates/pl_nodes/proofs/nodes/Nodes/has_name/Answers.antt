use Rattle.std.proofs.Common.{◌≡◌, ◌∙◌, sym, ap}
use Rattle.pl_model.specs.Nodes.{key_of, has_name}
use Rattle.pl_segments.specs.Segments.{at}
use Rattle.pl_nodes.specs.Nodes.{Nodes}
use Rattle.pl_nodes.specs.NodesView.{named_as}
use Rattle.pl_nodes.proofs.Named.{named-is, named-none}
use Rattle.pl_nodes.proofs.Pipes.{named-plain}
use Rattle.pl_nodes.proofs.nodes.Nodes.has_name.Given.{Over}
use Rattle.pl_nodes.proofs.nodes.Nodes.has_name.Goals.{After-get}
use Rattle.pl_nodes.proofs.nodes.Nodes.has_name.Goals as goal

-- what is under the node's key says whether a name stands for it
said : (g : Over) (c : After-get g) → named_as c.args.node (at c.self.inside.contents.slots c.key.result) ≡ has_name c.args.self.now.names c.args.node
said g c =
    ap (λ q. named_as c.args.node (at c.self.inside.contents.slots q)) c.key.ensures
    ∙ named-is c.self.inside.names.entries c.self.inside.contents.slots c.self.invariant.named c.args.node
    ∙ ap (λ (v : Nodes). has_name v.names c.args.node) c.self.view_is

pub returns-in-Some-clause-value : goal.returns-in-Some-clause-value
returns-in-Some-clause-value g c = c.is_named_as.ensures ∙ ap (named_as c.args.node) c.in-Some.ensures ∙ said g (goal.at.returns-in-Some-clause-value g c).After-get

pub returns-in-None-clause-value : goal.returns-in-None-clause-value
returns-in-None-clause-value g c = sym (named-none g.row.A.Denot c.args.node) ∙ ap (named_as c.args.node) c.in-None.ensures ∙ said g (goal.at.returns-in-None-clause-value g c).After-get

pub returns-in-Some-clause-bytes : goal.returns-in-Some-clause-bytes
returns-in-Some-clause-bytes g c = λ key. λ is. λ named.
    let k = c.self.inside in
    named-plain k c.self.invariant c.args.self.now c.self.view_is key
    (sym (
    c.is_named_as.ensures
    ∙ ap (named_as c.args.node) c.in-Some.ensures
    ∙ ap (λ q. named_as c.args.node (at k.contents.slots q)) c.key.ensures
    ∙ ap (λ n. named_as n (at k.contents.slots (key_of n))) is
    )
    ∙ named)
