use Rattle.std.proofs.Common.{List, ℕ, Bool, [], sym, subst}
use Rattle.std.specs.Prelude.{vec_capacity}
use Rattle.pl_waiters.specs.MarkLists.{AreMarked}
use Rattle.pl_waiters.proofs.MarkLists.{none}
use Rattle.pl_waiters.proofs.marks.Marks.new.Goals as goal

pub invariant_of-result : goal.invariant_of-result
invariant_of-result g c = record {
  kept =
      subst (λ (marked : List Bool). AreMarked marked c.new-2.result.items (vec_capacity c.new-2.result)) (sym c.new.ensures.items)
      (subst (λ (nodes : List ℕ). AreMarked [] nodes (vec_capacity c.new-2.result)) (sym c.new-2.ensures.items)
      (subst (λ room. AreMarked [] [] room) (sym c.new-2.ensures.capacity) none));
}
