use Rattle.std.proofs.Common.{ap, arith}
use Rattle.pl_segments.specs.Slots.{total}
use Rattle.pl_ring.specs.Ring.{Ring}
use Rattle.pl_ring.proofs.Dropping.{dropped}
use Rattle.pl_ring.proofs.ring.Ring.drop_front.Goals as goal

pub invariant_of-self : goal.invariant_of-self
invariant_of-self g c =
    let was = ap (λ (r : Ring). total r.slots) c.self.view_is in
    dropped c.self.inside c.drop_front.new.slots c.args.count c.self.invariant (omega (arith, was, c.requires.count)) c.drop_front.ensures.slots c.drop_front.ensures.capacity
