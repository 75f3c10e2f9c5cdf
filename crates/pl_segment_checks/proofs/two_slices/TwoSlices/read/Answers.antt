use Rattle.pl_segment_checks.proofs.two_slices.TwoSlices.read.Goals as goal

pub bytes-requires : goal.bytes-requires
bytes-requires g c = c.self.invariant.lie.0

pub bytes-requires-2 : goal.bytes-requires-2
bytes-requires-2 g c = c.self.invariant.lie.1.0
