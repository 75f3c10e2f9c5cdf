use Rattle.std.proofs.Common.{◌≡◌, List, ℕ, ◌∷◌, ◌++◌, [], true, false, sym, subst, slice_set, rules}
use Rattle.std.specs.Prelude.{vec_capacity}
use Rattle.pl_waiters.specs.MarkLists.{mark_at, AreMarked}
use Rattle.pl_waiters.proofs.MarkLists.{has_room_for, more, read-off}
use Rattle.pl_waiters.proofs.marks.Marks.mark.Goals as goal

pub push_reserved-requires : goal.push_reserved-requires
push_reserved-requires g c =
    let m = c.args.self.now in
    let off : mark_at m.marked.items c.args.node ≡ false = read-off m.marked.items c.args.node c.index.result.now c.index.ensures c.requires c.if-index.false in
    let room = has_room_for m.marked.items m.nodes.items (vec_capacity m.nodes) m.kept c.args.node c.requires off in
    let len = m.nodes.ok.0 in
    search (rules, room, len)

pub invariant_of-self : goal.invariant_of-self
invariant_of-self g c =
    let m = c.args.self.now in
    let off : mark_at m.marked.items c.args.node ≡ false = read-off m.marked.items c.args.node c.index.result.now c.index.ensures c.requires c.if-index.false in
    record {
      kept =
          subst (λ (nodes : List ℕ). AreMarked (slice_set m.marked.items c.args.node true) nodes (vec_capacity c.push_reserved.new.self)) (sym c.push_reserved.ensures.items)
          (subst (λ room. AreMarked (slice_set m.marked.items c.args.node true) (m.nodes.items ++ c.args.node ∷ []) room) (sym c.push_reserved.ensures.capacity)
          (more m.marked.items m.nodes.items (vec_capacity m.nodes) m.kept c.args.node c.requires off));
    }
