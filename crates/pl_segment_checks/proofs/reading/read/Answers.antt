use Rattle.pl_segments.specs.Segments.{segment_at}
use Rattle.pl_segments.proofs.SlotLemmas.{no_slice}
use Rattle.pl_segments.proofs.Pushing.{lie-at}
use Rattle.pl_segment_checks.proofs.reading.read.Goals as goal

pub bytes-read-requires : goal.bytes-read-requires
bytes-read-requires g c = lie-at (segment_at c.args.store.now) c.args.slices.now c.loop-i.i no_slice c.loop-i-test.true c.requires
