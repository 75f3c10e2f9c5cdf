use Rattle.std.proofs.Common.{None, ap, sym, ◌∙◌}
use Rattle.std.specs.Prelude.{if◌then◌else◌}
use Rattle.std.specs.List.{position}
use Rattle.pl_locked.specs.Waking.{can_end, is_helped_asleep}
use Rattle.pl_locked.proofs.Sleeping.{first_is}
use Rattle.pl_locked.proofs.wait_queue.WaitQueue.whom.Goals as goal

pub returns-clause-whom : goal.returns-clause-whom
returns-clause-whom g c =
    let can = can_end {A = g.row.A.Denot} g.N.Layer.limits g.N.Layer.max_steps c.args.books.now.journal in
    let ws = c.args.self.now.waiting in
    c.first_but.ensures.first ∙ first_is can c.are_stuck.result ws c.are_stuck.ensures
    ∙ ap (λ b. if b then None else position (is_helped_asleep can) ws) (sym c.if-helps_one_awake.false ∙ c.helps_one_awake.ensures)
