use Rattle.std.proofs.Common.{subst}
use Rattle.pl_state.specs.Contents.{Contents}
use Rattle.pl_kernel.specs.ToldNodes.{OfName, TellsShape, TellsWhich}
use Rattle.pl_kernel.proofs.ToldNodes.{tells_shape, tells_which}
use Rattle.pl_kernel.proofs.kernel.Kernel.name_facts.Goals as goal

pub returns-clause-shape : goal.returns-clause-shape
returns-clause-shape g c = subst (λ (z : Contents g.row.A.Denot). TellsShape z (OfName c.args.name.now) c.name_facts.result) c.self.view_is (tells_shape c.self.inside.state (OfName c.args.name.now) c.name_facts.result c.name_facts.ensures)

pub returns-clause-which : goal.returns-clause-which
returns-clause-which g c = subst (λ (z : Contents g.row.A.Denot). TellsWhich z (OfName c.args.name.now) c.name_facts.result) c.self.view_is (tells_which c.self.inside.state (OfName c.args.name.now) c.name_facts.result c.name_facts.ensures)
