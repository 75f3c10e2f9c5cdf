use Rattle.std.proofs.Common.{◌≡◌, None, sym, subst}
use Rattle.pl_locked.specs.Waking.{Notes, can_end, to_wake}
use Rattle.pl_locked.proofs.Quiet.{nobody}
use Rattle.pl_locked.proofs.wait_queue.WaitQueue.wake.Goals as goal

pub returns-then-self-clause-whom : goal.returns-then-self-clause-whom
returns-then-self-clause-whom g c =
    let can = can_end {A = g.row.A.Denot} g.N.Layer.limits g.N.Layer.max_steps c.args.books.now.journal in
    subst (λ (z : Notes). None ≡ to_wake can z.waiting) c.self.view_is (sym (nobody can c.self.inside.waiting.items (c.self.invariant c.if-self.true)))
