use Rattle.std.proofs.Common.{◌≡◌, ◌*◌, ◌/◌, ap, arith}
use Rattle.pl_ring.specs.Ring.{place_size, Ring}
use Rattle.pl_ring.proofs.Placing.{places-enough}
use Rattle.pl_ring.proofs.ring.Ring.slots.Goals as goal

-- the slots of a ring never need more places than its capacity has
pub returns-clause-bound : goal.returns-clause-bound
returns-clause-bound g c =
    let k = c.self.inside in
    let inv = c.self.invariant in
    let room = ap (λ (r : Ring). r.capacity) c.self.view_is in
    let whole = inv.range.whole in
    let is : place_size * (k.capacity / 2048) ≡ k.capacity = omega (arith, whole) in
    let few = places-enough k.slots.items (k.capacity / 2048) inv.slots.merged inv.slots.solid (omega (arith, whole)) (omega (arith, is, inv.held, inv.fits)) in
    omega (arith, few, room, whole, c.len.ensures.len)
