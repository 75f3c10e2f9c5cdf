use Rattle.std.proofs.Common.{◌∙◌, ◌++◌, sym, slice_index_or}
use Rattle.pl_segments.specs.Segments.{segment_at}
use Rattle.pl_segments.proofs.SlotLemmas.{no_slice}
use Rattle.pl_segments.proofs.Pushing.{lie-at, read-more}
use Rattle.pl_file.proofs.file.read_all.Goals as goal

pub bytes-requires : goal.bytes-requires
bytes-requires g c = lie-at (segment_at c.args.store.now) c.args.slices.now c.loop-i.i no_slice c.loop-i-test.true c.requires

pub loop-i-preserved : goal.loop-i-preserved
loop-i-preserved g c =
    let m = segment_at c.args.store.now in
    let xs = c.args.slices.now in
    let x = slice_index_or xs c.loop-i.i no_slice in
    c.in_ok-extend_from_slice.ensures.items
    ∙ (λ i. c.loop-i.invariant i ++ c.bytes.ensures i)
    ∙ sym (read-more xs c.loop-i.i no_slice c.loop-i-test.true m)
