use Rattle.std.proofs.Common.{◌≡◌, ◌-◌, ◌∙◌, ap, subst, arith, length}
use Rattle.pl_segments.specs.Slots.{total}
use Rattle.pl_ring.specs.Ring.{Ring}
use Rattle.pl_ring.specs.RingView.{IsSound}
use Rattle.pl_ring.proofs.Dropping.{dropped}
use Rattle.pl_ring.proofs.ring.Ring.pop_into.Goals as goal

pub pop_only-requires-clause-all : goal.pop_only-requires-clause-all
pop_only-requires-clause-all g c = c.if-into-self.true ∙ c.self.invariant.held

pub invariant_of-self : goal.invariant_of-self
invariant_of-self g c =
    let was = ap (λ (r : Ring). total r.slots) c.self.view_is in
    let all = c.if-into-self.true in
    let none : c.self.inside.held - length c.args.into.now ≡ 0 = omega (arith, all) in
    subst (λ h. IsSound (record c.self.inside { slots = c.pop_only.new.slots; held = h })) none
    (dropped c.self.inside c.pop_only.new.slots (length c.args.into.now) c.self.invariant (omega (arith, was, c.requires.count)) c.pop_only.ensures.slots c.pop_only.ensures.capacity)

pub invariant_of-self-2 : goal.invariant_of-self-2
invariant_of-self-2 g c =
    let was = ap (λ (r : Ring). total r.slots) c.self.view_is in
    dropped c.self.inside c.pop_into.new.slots (length c.args.into.now) c.self.invariant (omega (arith, was, c.requires.count)) c.pop_into.ensures.slots c.pop_into.ensures.capacity
