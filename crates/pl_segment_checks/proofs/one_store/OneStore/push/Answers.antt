use Rattle.pl_segments.specs.Segments.{segment_at}
use Rattle.pl_segment_checks.proofs.Shares.{left-held, left-turned}
use Rattle.pl_segment_checks.proofs.one_store.OneStore.push.Goals as goal

pub push_bytes-requires-clause-held : goal.push_bytes-requires-clause-held
push_bytes-requires-clause-held g c =
    let k = c.self.inside in
    left-held (segment_at k.store) k.left.slots k.right.slots k.file c.self.invariant

pub invariant_of-self-2 : goal.invariant_of-self-2
invariant_of-self-2 g c =
    let k = c.self.inside in
    left-turned (segment_at k.store) k.left.slots k.right.slots k.file c.self.invariant (segment_at c.push_bytes.new.store) c.push_bytes.new.self.slots c.in_ok-push_bytes.ensures.gains.turns
