use Rattle.std.proofs.Common.{◌≤◌, sym, ap, subst, arith}
use Rattle.pl_packets.proofs.Cutting.{total-fit}
use Rattle.pl_nodes.specs.Queue.{capacity_of}
use Rattle.pl_nodes.proofs.queue.Queue.len.Goals as goal

pub returns-in-Packets-clause-fits : goal.returns-in-Packets-clause-fits
returns-in-Packets-clause-fits g c =
    let few = total-fit c.in-Packets.ring.slots c.len-in-Packets.ensures.fit in
    subst (λ q. c.len-in-Packets.result ≤ capacity_of q) (sym c.in-Packets.is)
    (omega (arith, few, c.len-in-Packets.ensures.value, c.slots-slots.ensures.value, c.slots-slots.ensures.bound))

pub returns-in-Packets-clause-few : goal.returns-in-Packets-clause-few
returns-in-Packets-clause-few g c =
    let few = total-fit c.in-Packets.ring.slots c.len-in-Packets.ensures.fit in
    let capacity = ap capacity_of c.in-Packets.is in
    let most = c.capacity-capacity.ensures.range.most in
    omega (arith, few, c.len-in-Packets.ensures.value, c.slots-slots.ensures.value, c.slots-slots.ensures.bound, capacity, most, c.capacity-capacity.ensures.value)
