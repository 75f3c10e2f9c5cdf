use Rattle.std.proofs.Common.{◌≡◌, Option, Some, None, w32, sym, ap, subst, ◌∙◌, IsSome}
use Rattle.std.specs.Prelude.{option_map}
use Rattle.std.proofs.lemmas.Int.{to_z-of_z}
use Rattle.pl_model.specs.declared.node.Node.{Node}
use Rattle.pl_model.specs.declared.node.Node.TheVariants as node
use Rattle.pl_desc.specs.Rows.{at}
use Rattle.pl_state.specs.Contents.{Contents, IsThere, core_of, node_of}
use Rattle.pl_state.specs.KernelView.{view_of}
use Rattle.pl_kernel.specs.ToldNodes.{OfFd, node_at, held_by}
use Rattle.pl_kernel.proofs.ToldNodes.{tells_held, held-told}
use Rattle.pl_kernel.proofs.told_nodes.held.Given.{Over}
use Rattle.pl_kernel.proofs.told_nodes.held.Goals.{After-node_of_fd}
use Rattle.pl_kernel.proofs.told_nodes.held.Goals as goal

-- what the descriptor stands for
on_fd : (g : Over) (c : After-node_of_fd g) (o : Option Node) → c.node_of_fd.result ≡ o → option_map node_of o ≡ node_at (core_of c.args.kernel.now) (OfFd c.args.pid c.args.fd)
on_fd g c o is =
    ap (option_map node_of) (sym is) ∙ c.node_of_fd.ensures.value
    ∙ ap (λ fd. node_at (core_of c.args.kernel.now) (OfFd c.args.pid fd)) (to_z-of_z w32 c.args.fd c.ranges.fd)

pub returns-in_err-node : goal.returns-in_err-node
returns-in_err-node g c =
    let w = (goal.at.returns-in_err-node g c).After-node_of_fd in
    rw (c.from_residual.ensures) (tells_held c.args.kernel.now c.args.pid c.args.fd None (ap (held_by (core_of c.args.kernel.now)) (on_fd g w None c.in_err-node.was)))

pub returns-in-Pipe : goal.returns-in-Pipe
returns-in-Pipe g c =
    let w = (goal.at.returns-in-Pipe g c).After-node_of_fd in
    let k = view_of c.kernel.inside in
    let p = c.in-Pipe.pipe in
    let there : IsThere c.args.kernel.now.nodes (node.Pipe p) = subst (IsThere c.args.kernel.now.nodes) c.in-Pipe.is c.in_ok-node.ensures.there in
    let here = subst (λ (z : Contents g.row.A.Denot). IsSome (at z.nodes.pipes p)) (sym c.kernel.view_is) there in
    let on = on_fd g w (Some (node.Pipe p)) (c.in_ok-node.was ∙ ap (λ n. Some n) c.in-Pipe.is) in
    let on_view = on ∙ ap (λ (z : Contents g.row.A.Denot). node_at (core_of z) (OfFd c.args.pid c.args.fd)) (sym c.kernel.view_is) in
    rw (← c.kernel.view_is) (tells_held k c.args.pid c.args.fd (Some c.held.result) (held-told k p c.held.result here c.held.ensures.value ∙ ap (held_by (core_of k)) on_view))

pub returns-in-File : goal.returns-in-File
returns-in-File g c =
    let w = (goal.at.returns-in-File g c).After-node_of_fd in
    let on = on_fd g w (Some (node.File c.in-File.field-0)) (c.in_ok-node.was ∙ ap (λ n. Some n) c.in-File.is) in
    tells_held c.args.kernel.now c.args.pid c.args.fd None (ap (held_by (core_of c.args.kernel.now)) on)
