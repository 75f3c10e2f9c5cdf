use Rattle.pl_segments.specs.Segments.{segment_at}
use Rattle.pl_segment_checks.proofs.Shares.{both-held, ring-passed}
use Rattle.pl_segment_checks.proofs.one_store.OneStore.pass.Goals as goal

pub take_front-requires-clause-held : goal.take_front-requires-clause-held
take_front-requires-clause-held g c =
    let k = c.self.inside in
    both-held (segment_at k.store) k.left.slots k.right.slots k.file c.self.invariant

pub invariant_of-self-2 : goal.invariant_of-self-2
invariant_of-self-2 g c =
    let k = c.self.inside in
    ring-passed (segment_at k.store) (segment_at c.take_front.new.store) k.left.slots k.right.slots k.file c.take_front.new.other.slots c.take_front.new.self.slots c.self.invariant c.in_ok-take_front.ensures.passed.turns
