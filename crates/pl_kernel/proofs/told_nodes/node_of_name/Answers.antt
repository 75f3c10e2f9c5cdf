use Rattle.std.proofs.Common.{sym, ap, ◌∙◌}
use Rattle.std.specs.Prelude.{option_map}
use Rattle.pl_state.specs.Contents.{node_of}
use Rattle.pl_state.specs.KernelView.{view_of}
use Rattle.pl_kernel.proofs.ToldNodes.{name-stands, name-there}
use Rattle.pl_kernel.proofs.told_nodes.node_of_name.Goals as goal

pub returns-clause-value : goal.returns-clause-value
returns-clause-value g c = rw (← c.kernel.view_is) (ap (option_map node_of) c.look_up.ensures ∙ sym (name-stands (view_of c.kernel.inside) c.args.name.now))

pub returns-clause-there : goal.returns-clause-there
returns-clause-there g c = rw (← c.kernel.view_is) (name-there (view_of c.kernel.inside) c.kernel.invariant.0 c.args.name.now c.look_up.result (sym c.look_up.ensures))
