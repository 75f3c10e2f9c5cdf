use Rattle.std.proofs.Common.{sym, ap, ◌∙◌}
use Rattle.std.specs.Prelude.{nat_le, length}
use Rattle.std.proofs.lemmas.Bool.{not-true}
use Rattle.pl_model.specs.History.{state_of_history}
use Rattle.pl_locked.specs.Waking.{Notes}
use Rattle.pl_locked.proofs.Sleeping.{all_stuck}
use Rattle.pl_locked.proofs.wait_queue.WaitQueue.are_stuck.Goals as goal

pub returns-then-self : goal.returns-then-self
returns-then-self g c = λ is.
    let journal = c.args.books.now.journal in
    let alike = c.requires (sym (ap (λ (z : Notes). z.alike) c.self.view_is) ∙ c.if-self.true) in
    all_stuck (state_of_history g.N.Layer.limits journal) (nat_le g.N.Layer.max_steps (length journal)) c.args.self.now.waiting c.in-Some.call
    alike (sym c.first_together.ensures ∙ c.in-Some.is) (sym c.can_end.ensures ∙ not-true c.can_end.result is)
