use Rattle.pl_segments.specs.Segments.{segment_at}
use Rattle.pl_segment_checks.proofs.Slices.{first-left}
use Rattle.pl_segment_checks.proofs.two_slices.TwoSlices.release_both.Goals as goal

pub release-requires : goal.release-requires
release-requires g c = c.self.invariant.lie.1.0

pub release-requires-2 : goal.release-requires-2
release-requires-2 g c =
    let k = c.self.inside in
    first-left (segment_at k.store) (segment_at c.release.new.self) k.first k.second c.self.invariant c.release.ensures.turns
