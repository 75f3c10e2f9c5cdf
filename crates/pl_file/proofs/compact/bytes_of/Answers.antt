use Rattle.std.proofs.Common.{◌+◌, ◌++◌, ◌∙◌, ap, sym, take, drop, arith}
use Rattle.std.proofs.lemmas.Bool.{ltb-true}
use Rattle.std.proofs.lemmas.List.{append_assoc}
use Rattle.pl_segments.specs.Segments.{segment_at}
use Rattle.pl_segments.specs.Slices.{reads, all_read}
use Rattle.pl_file.specs.Rows.{index}
use Rattle.pl_file.proofs.Cutting.{here-lies}
use Rattle.pl_file.proofs.Editing.{total-take}
use Rattle.pl_file.proofs.Patching.{from-got}
use Rattle.pl_file.proofs.compact.bytes_of.Goals.{After-is_before}
use Rattle.pl_file.proofs.compact.bytes_of.Goals as goal

pub overflow_sub-start : goal.overflow_sub-start
overflow_sub-start g c =
    let v = c.args.chunks.now in
    let t = total-take v.slots (index v c.args.first) (index v c.args.end) c.requires.span.order in
    omega (arith, t, c.start.ensures, c.start-2.ensures)

pub bytes-requires : goal.bytes-requires
bytes-requires g c = here-lies c.args.chunks.now.slots (index c.args.chunks.now c.loop-end.spot) c.get.result c.get.ensures (segment_at c.args.store.now) c.requires.lie

pub loop-end-preserved : goal.loop-end-preserved
loop-end-preserved g c =
    let m = segment_at c.args.store.now in
    let v = c.args.chunks.now in
    let span = take (index v c.args.end) v.slots in
    let i = index v c.loop-end.spot in
    let x = c.get.result in
    let before = ltb-true i (index v c.args.end) (sym c.loop-end-test.ensures) in
    let next = c.next-spot.ensures.index in
    let rest = all_read m (drop (i + 1) span) in
    record {
      spot = c.next-spot.ensures.spot;
      most = omega (arith, before, next);
      read = (λ k. (c.in_ok-extend_from_slice.ensures.items ∙ ap (λ ys. c.loop-end.bytes.items ++ ys) c.bytes.ensures) k ++ all_read m (drop (next k) span))
          ∙ append_assoc c.loop-end.bytes.items (reads m x) rest
          ∙ ap (λ ys. c.loop-end.bytes.items ++ all_read m ys) (sym (from-got v.slots i (index v c.args.end) x c.get.ensures before))
          ∙ c.loop-end.invariant.read;
    }
