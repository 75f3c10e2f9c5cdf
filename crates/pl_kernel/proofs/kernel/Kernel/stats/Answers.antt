use Rattle.std.proofs.Common.{ap, sym, subst, ◌∙◌}
use Rattle.pl_nodes.specs.Nodes.{NamesBelow, segments_named}
use Rattle.pl_state.specs.Contents.{Contents}
use Rattle.pl_state.specs.KernelView.{view_of}
use Rattle.pl_state.specs.Makes.{Stands}
use Rattle.pl_state.proofs.holders.Deserted.{no_pipe, no_file, nobody_there, nameless_there}
use Rattle.pl_kernel.proofs.kernel.Kernel.stats.Goals as goal

pub returns-clause-none : goal.returns-clause-none
returns-clause-none g c = λ s. λ stands. λ deserted.
    let k = view_of c.state.inside in
    let here = subst (λ z. Stands z s) (sym (c.state.view_is ∙ c.self.view_is)) stands in
    let nobody = nobody_there k s here deserted in
    let nameless = nameless_there k s here deserted in
    c.segments.ensures.none (no_pipe k c.state.invariant.0 nobody nameless) (no_file k c.state.invariant.0 nobody nameless)

pub returns-clause-value : goal.returns-clause-value
returns-clause-value g c = c.segments.ensures.value ∙ ap (λ (z : Contents g.row.A.Denot). z.nodes.memory.segments) (c.state.view_is ∙ c.self.view_is)

pub returns-clause-named : goal.returns-clause-named
returns-clause-named g c = λ n. λ below.
    let same = ap (λ (z : Contents g.row.A.Denot). z.nodes.memory.slots) (c.state.view_is ∙ c.self.view_is) in
    c.segments.ensures.named n (subst (NamesBelow n) (sym same) below) ∙ ap (λ slots. segments_named slots n) same
