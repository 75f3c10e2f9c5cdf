use Rattle.std.proofs.Common.{◌∷◌, ◌<◌, ◌+◌, subst, sym, take, drop, arith}
use Rattle.std.proofs.lemmas.Bool.{ltb-true, ltb-false}
use Rattle.std.proofs.lemmas.List.{drop_all, length-take}
use Rattle.pl_segments.specs.Segments.{segment_at}
use Rattle.pl_segments.specs.Turns.{Turns, Holds}
use Rattle.pl_segments.proofs.Turning.{turns-same, turns-then, holds-turned}
use Rattle.pl_segments.proofs.Fronting.{gone-turns}
use Rattle.pl_file.specs.Rows.{index}
use Rattle.pl_file.proofs.Patching.{from-got}
use Rattle.pl_file.proofs.patch.release_range.Given.{Over}
use Rattle.pl_file.proofs.patch.release_range.Goals.{After-is_before, After-get}
use Rattle.pl_file.proofs.patch.release_range.Goals as goal

pub loop-end-init : goal.loop-end-init
loop-end-init g c = record {
  spot = c.requires.span.from;
  most = c.requires.span.order;
  turns = turns-same (segment_at c.args.store.now) (drop (index c.args.chunks.now c.args.first) (take (index c.args.chunks.now c.args.end) c.args.chunks.now.slots)) c.requires.held.lie;
  in_use = omega arith;
}

pub get-requires-clause-within : goal.get-requires-clause-within
get-requires-clause-within g c =
    let l = ltb-true (index c.args.chunks.now c.loop-end.spot) (index c.args.chunks.now c.args.end) (sym c.loop-end-test.ensures) in
    omega (arith, l, c.requires.span.most)

-- the slot that goes, and those behind it
module _ (g : Over) (c : After-get g) where
  before : index c.args.chunks.now c.loop-end.spot < index c.args.chunks.now c.args.end
  before = ltb-true (index c.args.chunks.now c.loop-end.spot) (index c.args.chunks.now c.args.end) (sym c.loop-end-test.ensures)

  turns :
      Turns (segment_at c.args.store.now) (drop (index c.args.chunks.now c.args.first) (take (index c.args.chunks.now c.args.end) c.args.chunks.now.slots)) (segment_at c.loop-end.store)
      (c.get.result ∷ drop (index c.args.chunks.now c.loop-end.spot + 1) (take (index c.args.chunks.now c.args.end) c.args.chunks.now.slots))
  turns =
      subst (Turns (segment_at c.args.store.now) (drop (index c.args.chunks.now c.args.first) (take (index c.args.chunks.now c.args.end) c.args.chunks.now.slots)) (segment_at c.loop-end.store))
      (from-got c.args.chunks.now.slots (index c.args.chunks.now c.loop-end.spot) (index c.args.chunks.now c.args.end) c.get.result c.get.ensures before) c.loop-end.invariant.turns

  held : Holds (segment_at c.loop-end.store) (c.get.result ∷ drop (index c.args.chunks.now c.loop-end.spot + 1) (take (index c.args.chunks.now c.args.end) c.args.chunks.now.slots))
  held =
      holds-turned (segment_at c.args.store.now) (segment_at c.loop-end.store) (drop (index c.args.chunks.now c.args.first) (take (index c.args.chunks.now c.args.end) c.args.chunks.now.slots))
      (c.get.result ∷ drop (index c.args.chunks.now c.loop-end.spot + 1) (take (index c.args.chunks.now c.args.end) c.args.chunks.now.slots)) c.requires.held turns

pub release-requires : goal.release-requires
release-requires g c = (held g (goal.at.release-requires g c).After-get).lie.0

pub loop-end-smaller : goal.loop-end-smaller
loop-end-smaller g c =
    let l = before g (goal.at.loop-end-smaller g c).After-get in
    let n = c.next-spot.ensures.index in
    omega (arith, l, n)

pub loop-end-preserved : goal.loop-end-preserved
loop-end-preserved g c =
    let k = (goal.at.loop-end-preserved g c).After-get in
    let v = c.args.chunks.now in
    let span = take (index v c.args.end) v.slots in
    let xs = drop (index v c.args.first) span in
    let rest = drop (index v c.loop-end.spot + 1) span in
    let m = segment_at c.loop-end.store in
    let n = segment_at c.release.new.self in
    let l = before g k in
    let i = c.next-spot.ensures.index in
    record {
      spot = c.next-spot.ensures.spot;
      most = omega (arith, l, i);
      turns =
          subst (λ j. Turns (segment_at c.args.store.now) xs n (drop j span)) (sym i)
          (turns-then (segment_at c.args.store.now) m n xs (c.get.result ∷ rest) rest (turns g k) (gone-turns m n c.get.result rest (held g k) c.release.ensures.turns));
      in_use = omega (arith, c.loop-end.invariant.in_use, c.release.ensures.in_use);
    }

pub returns-clause-turns : goal.returns-clause-turns
returns-clause-turns g c =
    let v = c.args.chunks.now in
    let span = take (index v c.args.end) v.slots in
    let len = length-take (index v c.args.end) v.slots in
    let past = ltb-false (index v c.loop-end.spot) (index v c.args.end) (sym c.loop-end-test.ensures) in
    let none = drop_all (index v c.loop-end.spot) span (omega (arith, len, past)) in
    subst (Turns (segment_at c.args.store.now) (drop (index v c.args.first) span) (segment_at c.loop-end.store)) none c.loop-end.invariant.turns
