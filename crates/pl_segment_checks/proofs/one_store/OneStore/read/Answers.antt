use Rattle.pl_segments.specs.Segments.{segment_at}
use Rattle.pl_segment_checks.proofs.Shares.{file-held}
use Rattle.pl_segment_checks.proofs.one_store.OneStore.read.Goals as goal

pub read_at-requires : goal.read_at-requires
read_at-requires g c =
    let k = c.self.inside in
    (file-held (segment_at k.store) k.left.slots k.right.slots k.file c.self.invariant).lie
