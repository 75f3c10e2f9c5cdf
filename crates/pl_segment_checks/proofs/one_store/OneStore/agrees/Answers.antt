use Rattle.pl_segments.specs.Segments.{segment_at}
use Rattle.pl_segment_checks.proofs.Shares.{left-held, right-held}
use Rattle.pl_segment_checks.proofs.one_store.OneStore.agrees.Goals as goal

pub ring_agrees-requires : goal.ring_agrees-requires
ring_agrees-requires g c =
    let k = c.self.inside in
    (left-held (segment_at k.store) k.left.slots k.right.slots k.file c.self.invariant).lie

pub ring_agrees-requires-2 : goal.ring_agrees-requires-2
ring_agrees-requires-2 g c =
    let k = c.self.inside in
    (right-held (segment_at k.store) k.left.slots k.right.slots k.file c.self.invariant).lie
