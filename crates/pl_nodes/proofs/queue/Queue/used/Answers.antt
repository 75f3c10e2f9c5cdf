use Rattle.std.proofs.Common.{◌≡◌, ◌*◌, sym, subst, arith}
use Rattle.pl_ring.proofs.Placing.{length-lens}
use Rattle.pl_nodes.specs.Queue.{used_by}
use Rattle.pl_nodes.proofs.queue.Queue.used.Goals as goal

pub returns-in-Packets-clause-value : goal.returns-in-Packets-clause-value
returns-in-Packets-clause-value g c =
    let n = length-lens c.in-Packets.ring.slots in
    subst (λ q. c.slots.result * 4096 ≡ used_by q) (sym c.in-Packets.is) (omega (arith, n, c.slots.ensures.value))
