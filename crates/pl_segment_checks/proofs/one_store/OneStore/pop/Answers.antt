use Rattle.pl_segments.specs.Segments.{segment_at}
use Rattle.pl_segment_checks.proofs.Shares.{left-held, left-turned}
use Rattle.pl_segment_checks.proofs.one_store.OneStore.pop.Goals as goal

pub pop_bytes-requires-clause-held : goal.pop_bytes-requires-clause-held
pop_bytes-requires-clause-held g c =
    let k = c.self.inside in
    left-held (segment_at k.store) k.left.slots k.right.slots k.file c.self.invariant

pub invariant_of-self-2 : goal.invariant_of-self-2
invariant_of-self-2 g c =
    let k = c.self.inside in
    left-turned (segment_at k.store) k.left.slots k.right.slots k.file c.self.invariant (segment_at c.pop_bytes.new.store) c.pop_bytes.new.self.slots c.in_ok-bytes.ensures.turns
