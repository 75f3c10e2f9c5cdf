use Rattle.std.proofs.Common.{◌≡◌, ℕ, Some, sym, ap, subst, ◌∙◌}
use Rattle.std.specs.Prelude.{option_map, IfSome}
use Rattle.pl_desc.specs.Rows.{at, row_of}
use Rattle.pl_desc.specs.Descs.{Opened}
use Rattle.pl_state.specs.Contents.{IsThere, node_of}
use Rattle.pl_state.specs.KernelView.{view_of}
use Rattle.pl_state.proofs.by_call.Closing.{row_found, open_here}
use Rattle.pl_state.proofs.Known.{known}
use Rattle.pl_kernel.proofs.ToldNodes.{unopened, opened-on}
use Rattle.pl_kernel.proofs.told_nodes.node_of_fd.Given.{Over}
use Rattle.pl_kernel.proofs.told_nodes.node_of_fd.Goals.{After-find, After-node}
use Rattle.pl_kernel.proofs.told_nodes.node_of_fd.Goals as goal

-- what the descriptor names
named : (g : Over) (c : After-find g) → row_of c.kernel.inside.descs.tables c.args.pid c.args.fd ≡ c.find.result
named g c = row_found c.kernel.inside.descs.tables c.args.pid c.args.fd c.ranges.fd c.find.result c.find.ensures

-- what it is open on
module _ (g : Over) (c : After-node g) where
  abbrev key : ℕ
  key = c.in_ok-key.key

  row : row_of c.kernel.inside.descs.tables c.args.pid c.args.fd ≡ Some key
  row = named g c.before.before.before ∙ c.in_ok-key.was

  here : (o : Opened) × (at c.kernel.inside.descs.opened key ≡ Some o)
  here = open_here (known c.kernel.inside c.kernel.invariant) c.args.pid c.args.fd key row

  on : here.0.node ≡ c.node.result
  on = let told : Some here.0.node ≡ Some c.node.result = sym (ap (option_map (λ (x : Opened). x.node)) here.1) ∙ c.node.ensures in cc

pub returns-in_err-key-clause-value : goal.returns-in_err-key-clause-value
returns-in_err-key-clause-value g c =
    let w = (goal.at.returns-in_err-key-clause-value g c).After-find in
    rw (c.from_residual.ensures, ← c.kernel.view_is) (sym (unopened (view_of c.kernel.inside) c.args.pid c.args.fd (named g w ∙ c.in_err-key.was)))

pub returns-clause-value : goal.returns-clause-value
returns-clause-value g c =
    let w = (goal.at.returns-clause-value g c).After-node in
    rw (← c.kernel.view_is) (sym (opened-on (view_of c.kernel.inside) c.args.pid c.args.fd (key g w) (here g w).0 (row g w) (here g w).1 ∙ ap (λ n. Some (node_of n)) (on g w)))

pub returns-clause-there : goal.returns-clause-there
returns-clause-there g c =
    let w = (goal.at.returns-clause-there g c).After-node in
    let k = view_of c.kernel.inside in
    rw (← c.kernel.view_is) (subst (IsThere k.nodes) (on g w) (subst (λ z. IfSome z (λ y. IsThere k.nodes y.node)) (here g w).1 (c.kernel.invariant.0.there.described (key g w))))
