use Rattle.std.proofs.Common.{◌≤◌, ◌∙◌, ap, length, arith}
use Rattle.std.proofs.lemmas.Result.{on_ok_weaker}
use Rattle.pl_ring.specs.Merging.{lens}
use Rattle.pl_nodes.proofs.Queues.{packets-left}
use Rattle.pl_nodes.proofs.queue.pop_packet.Goals as goal

pub returns-clause-packets : goal.returns-clause-packets
returns-clause-packets g c =
    let some : 1 ≤ length c.args.ring.now.slots = omega (arith, c.if-slots-eq0.false, c.slots.ensures.value) in
    on_ok_weaker c.pop_packet.result (λ e. ap lens e ∙ packets-left c.args.ring.now.slots c.args.count c.len-len.ensures.solid some) c.pop_packet.ensures.slots
