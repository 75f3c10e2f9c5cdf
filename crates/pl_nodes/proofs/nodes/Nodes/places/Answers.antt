use Rattle.std.proofs.Common.{length}
use Rattle.pl_segments.specs.Segments.{at}
use Rattle.pl_nodes.proofs.Keyed.{if_both}
use Rattle.pl_nodes.proofs.Queues.{places-left}
use Rattle.pl_nodes.proofs.nodes.Nodes.places.Goals as goal

pub returns : goal.returns
returns g c = if_both (at c.args.self.now.pipes c.args.key) (λ x. λ is. λ is2. places-left x.packets x.capacity (length x.bytes) c.room.result is) c.room.ensures.value c.room.ensures.value
