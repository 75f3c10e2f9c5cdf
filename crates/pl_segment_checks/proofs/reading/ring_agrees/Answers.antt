use Rattle.std.proofs.Common.{sym, subst}
use Rattle.pl_segments.specs.Segments.{segment_at}
use Rattle.pl_segments.specs.Slices.{AllLie}
use Rattle.pl_segment_checks.proofs.reading.ring_agrees.Goals as goal

pub read-requires : goal.read-requires
read-requires g c =
    let m = segment_at c.args.store.now in
    subst (AllLie m) (sym c.as_slice-slices.ensures) (c.in_ok-list.ensures.lie m c.requires)
