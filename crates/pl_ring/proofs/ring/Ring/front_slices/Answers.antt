use Rattle.std.proofs.Common.{◌≡◌, ◌∙◌, ap, sym}
use Rattle.pl_segments.specs.Slots.{front_of}
use Rattle.pl_ring.specs.Ring.{Ring}
use Rattle.pl_ring.proofs.First.{front-all}
use Rattle.pl_ring.proofs.ring.Ring.front_slices.Goals.{then-count-self+in_ok-list, else-count-self+in_ok-list-2}
use Rattle.pl_ring.proofs.ring.Ring.front_slices.Goals as goal

pub returns : goal.returns
returns g c =
    let inv = c.self.invariant in
    let slots = ap (λ (r : Ring). r.slots) c.self.view_is in
    let list : c.if-count-self.list.items ≡ front_of c.args.count c.self.inside.slots.items =
    elim c.if-count-self.branch [
      | then-count-self+in_ok-list w ↦
          (λ i. (w.list-is i).items) ∙ w.in_ok-list.ensures ∙ sym (front-all c.self.inside.slots.items inv.slots.solid)
          ∙ ap (λ k. front_of k c.self.inside.slots.items) (sym (w.if-count-self.true ∙ inv.held))
      | else-count-self+in_ok-list-2 w ↦ (λ i. (w.list-is i).items) ∙ w.in_ok-list-2.ensures
    ] in
    c.from_vec.ensures ∙ list ∙ ap (front_of c.args.count) slots
