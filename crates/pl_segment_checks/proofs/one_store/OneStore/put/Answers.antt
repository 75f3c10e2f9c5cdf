use Rattle.pl_segments.specs.Segments.{segment_at}
use Rattle.pl_segment_checks.proofs.Shares.{left-held, file-held, file-turned}
use Rattle.pl_segment_checks.proofs.one_store.OneStore.put.Goals as goal

pub put_slices_at-requires-clause-held : goal.put_slices_at-requires-clause-held
put_slices_at-requires-clause-held g c =
    let k = c.self.inside in
    file-held (segment_at k.store) k.left.slots k.right.slots k.file c.self.invariant

pub invariant_of-self-2 : goal.invariant_of-self-2
invariant_of-self-2 g c =
    let k = c.self.inside in
    file-turned (segment_at k.store) k.left.slots k.right.slots k.file c.self.invariant (segment_at c.put_slices_at.new.store) c.put_slices_at.new.self c.in_ok-count.ensures.becomes.turns

pub put_slices_at-requires-clause-lie : goal.put_slices_at-requires-clause-lie
put_slices_at-requires-clause-lie g c =
    let k = c.self.inside in
    let m = segment_at k.store in
    c.in-Ok.ensures.lie m (left-held m k.left.slots k.right.slots k.file c.self.invariant).lie
