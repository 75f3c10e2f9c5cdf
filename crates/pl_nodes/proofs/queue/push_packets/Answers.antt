use Rattle.std.proofs.Common.{arith}
use Rattle.pl_ring.proofs.Placing.{length-lens}
use Rattle.pl_nodes.proofs.queue.push_packets.Goals as goal

pub push_packets-requires-clause-fits : goal.push_packets-requires-clause-fits
push_packets-requires-clause-fits g c =
    let n = length-lens c.args.ring.now.slots in
    omega (arith, n, c.requires.room, c.slots-slots.ensures.value, c.slots-slots.ensures.bound)
