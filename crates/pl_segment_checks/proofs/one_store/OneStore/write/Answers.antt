use Rattle.pl_segments.specs.Segments.{segment_at}
use Rattle.pl_segment_checks.proofs.Shares.{file-held, file-turned}
use Rattle.pl_segment_checks.proofs.one_store.OneStore.write.Goals as goal

pub write_at-requires-clause-held : goal.write_at-requires-clause-held
write_at-requires-clause-held g c =
    let k = c.self.inside in
    file-held (segment_at k.store) k.left.slots k.right.slots k.file c.self.invariant

pub invariant_of-self-2 : goal.invariant_of-self-2
invariant_of-self-2 g c =
    let k = c.self.inside in
    file-turned (segment_at k.store) k.left.slots k.right.slots k.file c.self.invariant (segment_at c.write_at.new.store) c.write_at.new.self c.in_ok-count.ensures.becomes.turns
