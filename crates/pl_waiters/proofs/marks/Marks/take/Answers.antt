use Rattle.std.proofs.Common.{List, ℕ, ◌∷◌, ◌++◌, [], false, sym, subst, slice_set, rules}
use Rattle.std.specs.Prelude.{vec_capacity}
use Rattle.pl_waiters.specs.MarkLists.{AreMarked}
use Rattle.pl_waiters.proofs.MarkLists.{last-within, fewer}
use Rattle.pl_waiters.proofs.marks.Marks.take.Given.{Over}
use Rattle.pl_waiters.proofs.marks.Marks.take.Goals.{In_ok-node}
use Rattle.pl_waiters.proofs.marks.Marks.take.Goals as goal

-- what was marked, with the last node at the end
module _ (g : Over) (c : In_ok-node g) where
  before : AreMarked c.args.self.now.marked.items (c.pop.new.self.items ++ c.in_ok-node.node ∷ []) (vec_capacity c.args.self.now.nodes)
  before = subst (λ (nodes : List ℕ). AreMarked c.args.self.now.marked.items nodes (vec_capacity c.args.self.now.nodes)) c.in_ok-node.ensures.items c.args.self.now.kept

pub index_mut-requires : goal.index_mut-requires
index_mut-requires g c =
    let w = (goal.at.index_mut-requires g c).In_ok-node in
    let l = last-within c.args.self.now.marked.items c.pop.new.self.items c.in_ok-node.node (vec_capacity c.args.self.now.nodes) (before g w) in
    let len = c.args.self.now.marked.ok.0 in
    search (rules, l, len)

pub invariant_of-self-2 : goal.invariant_of-self-2
invariant_of-self-2 g c =
    let w = (goal.at.invariant_of-self-2 g c).In_ok-node in
    record {
      kept =
          subst (λ room. AreMarked (slice_set c.args.self.now.marked.items c.in_ok-node.node false) c.pop.new.self.items room) (sym c.pop.ensures.capacity)
          (fewer c.args.self.now.marked.items c.pop.new.self.items c.in_ok-node.node (vec_capacity c.args.self.now.nodes) (before g w));
    }
