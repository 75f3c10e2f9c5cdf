use Rattle.pl_segments.specs.Segments.{segment_at}
use Rattle.pl_segment_checks.proofs.Slices.{second-turned}
use Rattle.pl_segment_checks.proofs.two_slices.TwoSlices.append_second.Goals as goal

pub try_append-requires : goal.try_append-requires
try_append-requires g c = c.self.invariant.lie.1.0

pub invariant_of-self-2 : goal.invariant_of-self-2
invariant_of-self-2 g c =
    let k = c.self.inside in
    second-turned (segment_at k.store) (segment_at c.try_append.new.self) k.first k.second c.self.invariant c.in_ok-longer.longer c.in_ok-longer.ensures.turns
