use Rattle.pl_segments.specs.Segments.{segment_at}
use Rattle.pl_segment_checks.proofs.Shares.{left-held, left-turned}
use Rattle.pl_segment_checks.proofs.one_store.OneStore.skip.Goals as goal

pub drop_front-requires-clause-held : goal.drop_front-requires-clause-held
drop_front-requires-clause-held g c =
    let k = c.self.inside in
    left-held (segment_at k.store) k.left.slots k.right.slots k.file c.self.invariant

pub invariant_of-self : goal.invariant_of-self
invariant_of-self g c =
    let k = c.self.inside in
    left-turned (segment_at k.store) k.left.slots k.right.slots k.file c.self.invariant (segment_at c.drop_front.new.store) c.drop_front.new.self.slots c.drop_front.ensures.turns
