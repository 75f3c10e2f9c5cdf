use Rattle.std.proofs.Common.{◌≡◌, Some, sym, ◌∙◌, ap}
use Rattle.pl_model.specs.History.{state_of_history}
use Rattle.pl_locked.specs.Waking.{Notes, first_together}
use Rattle.pl_locked.proofs.Sleeping.{alike_of_none, becomes_first, joins_first}
use Rattle.pl_locked.proofs.wait_queue.WaitQueue.joins.Goals.{then-self, else-self}
use Rattle.pl_locked.proofs.wait_queue.WaitQueue.joins.Goals as goal

pub returns-after-self-clause-joins : goal.returns-after-self-clause-joins
returns-after-self-clause-joins g c = λ is.
    let s = state_of_history g.N.Layer.limits c.args.books.now.journal in
    let first : first_together c.args.self.now.waiting ≡ Some c.in-Some.other = sym c.first_together.ensures ∙ c.in-Some.is in
    elim c.if-self.branch [
      | then-self w ↦
          let alike = c.requires (sym (ap (λ (z : Notes). z.alike) c.self.view_is) ∙ w.if-self.true) in
          joins_first s c.args.self.now.waiting c.in-Some.other c.args.call alike first (w.are_alike.ensures (sym w.result-is ∙ is))
      | else-self w ↦ absurd (cc)
    ]

pub returns-in-None-clause-joins : goal.returns-in-None-clause-joins
returns-in-None-clause-joins g c = λ is.
    let s = state_of_history g.N.Layer.limits c.args.books.now.journal in
    becomes_first s c.args.self.now.waiting c.args.call (sym c.first_together.ensures ∙ c.in-None.is) (c.are_alike-in-None.ensures is)

pub returns-in-None-clause-alike : goal.returns-in-None-clause-alike
returns-in-None-clause-alike g c = λ _. alike_of_none (state_of_history g.N.Layer.limits c.args.books.now.journal) c.args.self.now.waiting (sym c.first_together.ensures ∙ c.in-None.is)
