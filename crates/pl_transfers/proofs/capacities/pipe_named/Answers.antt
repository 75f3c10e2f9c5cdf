use Rattle.std.proofs.Common.{◌≡◌, ℕ, Some, sym, ap, ◌∙◌}
use Rattle.std.specs.Prelude.{option_map, option_and_then}
use Rattle.pl_model.specs.declared.node.Node.{Node}
use Rattle.pl_model.specs.declared.node.Node.TheVariants as node
use Rattle.pl_model.specs.Capacity.{pipe_of}
use Rattle.pl_desc.specs.Rows.{at, row_of}
use Rattle.pl_desc.specs.Descs.{Opened}
use Rattle.pl_state.specs.Contents.{node_of, core_of}
use Rattle.pl_state.specs.KernelView.{view_of}
use Rattle.pl_state.proofs.by_call.Begun.{open-none, open-is}
use Rattle.pl_state.proofs.by_call.Closing.{row_found, open_here}
use Rattle.pl_state.proofs.Known.{known}
use Rattle.pl_transfers.specs.Capacities.{pipe_named, HasEnd}
use Rattle.pl_transfers.proofs.capacities.pipe_named.Given.{Over}
use Rattle.pl_transfers.proofs.capacities.pipe_named.Goals.{After-find, After-node}
use Rattle.pl_transfers.proofs.capacities.pipe_named.Goals as goal

-- what the descriptor names
named : (g : Over) (c : After-find g) → row_of c.kernel.inside.descs.tables c.args.pid c.args.fd ≡ c.find.result
named g c = row_found c.kernel.inside.descs.tables c.args.pid c.args.fd c.ranges.fd c.find.result c.find.ensures

-- what it is open on
module _ (g : Over) (c : After-node g) where
  abbrev key : ℕ
  key = c.in_ok-key.key

  row : row_of c.kernel.inside.descs.tables c.args.pid c.args.fd ≡ Some key
  row = named g c.before.before.before ∙ c.in_ok-key.was

  here : (o : Opened) × (at c.kernel.inside.descs.opened key ≡ Some o)
  here = open_here (known c.kernel.inside c.kernel.invariant) c.args.pid c.args.fd key row

  on : here.0.node ≡ c.node.result
  on = let told : Some here.0.node ≡ Some c.node.result = sym (ap (option_map (λ (x : Opened). x.node)) here.1) ∙ c.node.ensures in cc

  is : (n : Node) → c.node.result ≡ n → pipe_named (core_of (view_of c.kernel.inside)) c.args.pid c.args.fd ≡ pipe_of (node_of n)
  is n at_node = ap (option_and_then (λ o. pipe_of o.description.node)) (open-is (view_of c.kernel.inside) c.args.pid c.args.fd key here.0 row here.1) ∙ ap (λ n. pipe_of (node_of n)) (on ∙ at_node)

pub returns-in_err-key-clause-value : goal.returns-in_err-key-clause-value
returns-in_err-key-clause-value g c =
    let w = (goal.at.returns-in_err-key-clause-value g c).After-find in
    rw (c.from_residual.ensures, ← c.kernel.view_is) (sym (ap (option_and_then (λ o. pipe_of o.description.node)) (open-none (view_of c.kernel.inside) c.args.pid c.args.fd (named g w ∙ c.in_err-key.was))))

pub returns-in-Pipe-clause-value : goal.returns-in-Pipe-clause-value
returns-in-Pipe-clause-value g c =
    let w = (goal.at.returns-in-Pipe-clause-value g c).After-node in
    rw (← c.kernel.view_is) (sym (is g w (node.Pipe c.in-Pipe.pipe) c.in-Pipe.is))

pub returns-in-Pipe-clause-end : goal.returns-in-Pipe-clause-end
returns-in-Pipe-clause-end g c =
    let w = (goal.at.returns-in-Pipe-clause-end g c).After-node in
    let end : HasEnd (view_of c.kernel.inside) c.in-Pipe.pipe = (key g w, record { opened = (here g w).0; here = (here g w).1; node = on g w ∙ c.in-Pipe.is }) in
    rw (← c.kernel.view_is) end

pub returns-in-File-clause-value : goal.returns-in-File-clause-value
returns-in-File-clause-value g c =
    let w = (goal.at.returns-in-File-clause-value g c).After-node in
    rw (← c.kernel.view_is) (sym (is g w (node.File c.in-File.field-0) c.in-File.is))
