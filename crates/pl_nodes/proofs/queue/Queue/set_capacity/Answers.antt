use Rattle.std.proofs.Common.{◌≡◌, ◌<◌, ◌*◌, ◌∙◌, sym, ap, subst, length}
use Rattle.pl_ring.proofs.Placing.{length-lens}
use Rattle.pl_packets.specs.Packets.{packet_size}
use Rattle.pl_nodes.specs.Queue.{used_by}
use Rattle.pl_nodes.proofs.queue.Queue.set_capacity.Goals as goal

pub returns-in-Packets-clause-busy : goal.returns-in-Packets-clause-busy
returns-in-Packets-clause-busy g c =
    let used : used_by c.args.self.now ≡ packet_size * length c.in-Packets.ring.slots = ap used_by c.in-Packets.is ∙ ap (λ n. packet_size * n) (length-lens c.in-Packets.ring.slots) in
    let busy = c.set_capacity-in-Packets.ensures.busy in
    (λ is. subst (λ n. c.args.capacity < n) (sym used) (busy.0 is), λ more. busy.1 (subst (λ n. c.args.capacity < n) used more))
