use Rattle.std.proofs.Common.{◌≡◌, true, List, ap, sym, subst}
use Rattle.pl_model.specs.declared.history.Entry.{Entry}
use Rattle.pl_model.specs.History.{state_of_history}
use Rattle.pl_locked.specs.Views.{Kept}
use Rattle.pl_locked.specs.Waking.{AreServed, SleepAlike, can_end}
use Rattle.pl_locked.proofs.desk.Desk.hand_out.Goals as goal

pub invariant_of-self : goal.invariant_of-self
invariant_of-self g c =
    let inv = c.self.invariant in
    let queue = c.self.inside.queue in
    let same : c.self.inside.books.journal ≡ c.hand_out.new.self.journal = sym (ap (λ (z : Kept g.row.A.Denot). z.journal) c.hand_out.ensures.kept) in (
      inv.0,
      subst (λ (h : List (Entry g.row.A.Denot)). queue.alike ≡ true → SleepAlike (state_of_history g.N.Layer.limits h) queue.waiting) same inv.1,
      subst (λ (h : List (Entry g.row.A.Denot)). AreServed (can_end g.N.Layer.limits g.N.Layer.max_steps h) queue.waiting) same inv.2,
    )
