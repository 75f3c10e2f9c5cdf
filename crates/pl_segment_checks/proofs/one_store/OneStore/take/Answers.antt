use Rattle.pl_segments.specs.Segments.{segment_at}
use Rattle.pl_segment_checks.proofs.Shares.{left-held, left-turned, file-held}
use Rattle.pl_segment_checks.proofs.one_store.OneStore.take.Goals as goal

pub push_slices-requires-clause-held : goal.push_slices-requires-clause-held
push_slices-requires-clause-held g c =
    let k = c.self.inside in
    left-held (segment_at k.store) k.left.slots k.right.slots k.file c.self.invariant

pub invariant_of-self-2 : goal.invariant_of-self-2
invariant_of-self-2 g c =
    let k = c.self.inside in
    left-turned (segment_at k.store) k.left.slots k.right.slots k.file c.self.invariant (segment_at c.push_slices.new.store) c.push_slices.new.self.slots c.in_ok-push_slices.ensures.gains.turns

pub push_slices-requires-clause-lie : goal.push_slices-requires-clause-lie
push_slices-requires-clause-lie g c =
    let k = c.self.inside in
    let m = segment_at k.store in
    c.in_ok-slices.ensures.lie m (file-held m k.left.slots k.right.slots k.file c.self.invariant).lie
