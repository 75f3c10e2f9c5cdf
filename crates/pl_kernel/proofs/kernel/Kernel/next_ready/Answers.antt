use Rattle.std.proofs.Common.{subst}
use Rattle.std.specs.Prelude.{None}
use Rattle.pl_state.specs.Contents.{Contents}
use Rattle.pl_kernel.specs.Progress.{TellsNextReady}
use Rattle.pl_kernel.proofs.NextReady.{tells_next_ready}
use Rattle.pl_kernel.proofs.kernel.Kernel.next_ready.Goals as goal

-- none could before, and nothing changed
pub returns-then-self-clause-told : goal.returns-then-self-clause-told
returns-then-self-clause-told g c =
    subst (λ (z : Contents g.row.A.Denot). TellsNextReady z c.args.from None) c.self.view_is
    (tells_next_ready c.self.inside.state c.args.from None (λ other on. c.self.invariant.1 c.if-self.true other))

pub returns-clause-told : goal.returns-clause-told
returns-clause-told g c =
    subst (λ (z : Contents g.row.A.Denot). TellsNextReady z c.args.from c.next_ready-next.result) c.self.view_is
    (tells_next_ready c.self.inside.state c.args.from c.next_ready-next.result c.next_ready-next.ensures.least)
