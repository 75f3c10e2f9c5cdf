use Rattle.std.proofs.Common.{◌≡◌, w32, subst, ◌∙◌, ap}
use Rattle.std.proofs.lemmas.Int.{to_z-of_z}
use Rattle.pl_state.specs.Contents.{Contents}
use Rattle.pl_kernel.specs.ToldNodes.{OfFd, facts_named, TellsShape, TellsWhich}
use Rattle.pl_kernel.proofs.ToldNodes.{tells_shape, tells_which}
use Rattle.pl_kernel.proofs.kernel.Kernel.fd_facts.Given.{Over}
use Rattle.pl_kernel.proofs.kernel.Kernel.fd_facts.Goals.{After-fd_facts}
use Rattle.pl_kernel.proofs.kernel.Kernel.fd_facts.Goals as goal

-- what was told is what the kernel has
told : (g : Over) (c : After-fd_facts g) → c.fd_facts.result ≡ facts_named c.self.inside.state (OfFd c.args.pid c.args.fd)
told g c = c.fd_facts.ensures ∙ ap (λ fd. facts_named c.self.inside.state (OfFd c.args.pid fd)) (to_z-of_z w32 c.args.fd c.ranges.fd)

pub returns-clause-shape : goal.returns-clause-shape
returns-clause-shape g c =
    let is = told g (goal.at.returns-clause-shape g c).After-fd_facts in
    subst (λ (z : Contents g.row.A.Denot). TellsShape z (OfFd c.args.pid c.args.fd) c.fd_facts.result) c.self.view_is (tells_shape c.self.inside.state (OfFd c.args.pid c.args.fd) c.fd_facts.result is)

pub returns-clause-which : goal.returns-clause-which
returns-clause-which g c =
    let is = told g (goal.at.returns-clause-which g c).After-fd_facts in
    subst (λ (z : Contents g.row.A.Denot). TellsWhich z (OfFd c.args.pid c.args.fd) c.fd_facts.result) c.self.view_is (tells_which c.self.inside.state (OfFd c.args.pid c.args.fd) c.fd_facts.result is)
