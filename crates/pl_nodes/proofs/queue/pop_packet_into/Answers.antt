use Rattle.std.proofs.Common.{◌≤◌, ◌∙◌, ap, length, arith}
use Rattle.pl_ring.specs.Merging.{lens}
use Rattle.pl_nodes.proofs.Queues.{packets-left}
use Rattle.pl_nodes.proofs.queue.pop_packet_into.Goals as goal

pub returns-clause-packets : goal.returns-clause-packets
returns-clause-packets g c =
    let some : 1 ≤ length c.args.ring.now.slots = omega (arith, c.if-slots-eq0.false, c.slots.ensures.value) in
    ap lens c.pop_packet_into.ensures.slots ∙ packets-left c.args.ring.now.slots (length c.args.into.now) c.len-len.ensures.solid some
