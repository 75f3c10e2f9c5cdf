use Rattle.std.proofs.Common.{◌≡◌, ◌-◌, sym, subst, arith}
use Rattle.pl_ring.proofs.Placing.{length-lens}
use Rattle.pl_nodes.specs.Queue.{capacity_of, used_by}
use Rattle.pl_nodes.proofs.queue.Queue.room.Goals as goal

pub returns-in-Packets-clause-value : goal.returns-in-Packets-clause-value
returns-in-Packets-clause-value g c =
    let n = length-lens c.in-Packets.ring.slots in
    subst (λ q. c.room-in-Packets.result ≡ capacity_of q - used_by q) (sym c.in-Packets.is) (omega (arith, n, c.room-in-Packets.ensures))
