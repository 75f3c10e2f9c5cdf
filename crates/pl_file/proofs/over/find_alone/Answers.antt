use Rattle.std.proofs.Common.{◌≡◌, ◌+◌, ◌∙◌, ap, take, arith}
use Rattle.pl_segments.specs.Segments.{segment_at}
use Rattle.pl_segments.specs.Slots.{total}
use Rattle.pl_file.specs.Rows.{index}
use Rattle.pl_file.proofs.Cutting.{here-lies, here-total}
use Rattle.pl_file.proofs.Editing.{total-some}
use Rattle.pl_file.proofs.InPlace.{before-end, found-inside, alone-next, alone-all}
use Rattle.pl_file.proofs.over.find_alone.Goals as goal

pub find-first-requires : goal.find-first-requires
find-first-requires g c = record { some = total-some c.args.chunks.now.slots (omega (arith, c.if-end-place.false, c.end.ensures, c.requires.some)) }

pub loop-init : goal.loop-init
loop-init g c = record {
  spot = c.find-first.ensures.spot;
  order = omega arith;
  here = omega (arith, c.start.ensures, c.find-first.ensures.before);
  some = omega (arith, c.requires.some);
  alone = λ k x least less at. absurd (omega (arith, least, less));
}

pub get-slot-requires-clause-within : goal.get-slot-requires-clause-within
get-slot-requires-clause-within g c =
    before-end c.args.chunks.now.slots (index c.args.chunks.now c.loop.spot) (omega (arith, c.loop.invariant.here, c.loop.invariant.some, c.if-end-place.false, c.end.ensures))

pub holders-requires : goal.holders-requires
holders-requires g c =
    here-lies c.args.chunks.now.slots (index c.args.chunks.now c.loop.spot) c.get-slot.result c.get-slot.ensures (segment_at c.args.store.now) c.requires.lie

pub returns-then-left-slot-clause-alone : goal.returns-then-left-slot-clause-alone
returns-then-left-slot-clause-alone g c =
    let xs = c.args.chunks.now.slots in
    let first = index c.args.chunks.now c.find-first.result in
    let inv = c.loop.invariant in
    let inside = found-inside xs first c.args.place c.find-first.ensures.after (omega (arith, c.if-end-place.false, c.end.ensures, c.requires.some)) in
    alone-all (segment_at c.args.store.now) xs first (index c.args.chunks.now c.loop.spot) c.get-slot.result c.get-slot.ensures (omega (arith, c.holders.ensures, c.if-holders-ne1.false)) inv.alone
    c.args.place c.args.count c.loop.left c.find-first.ensures.before inside (omega (arith, c.if-end-place.false, c.end.ensures)) inv.here c.if-left-slot.true

pub loop-preserved : goal.loop-preserved
loop-preserved g c =
    let xs = c.args.chunks.now.slots in
    let i = index c.args.chunks.now c.loop.spot in
    let inv = c.loop.invariant in
    let next = c.next-spot.ensures.index in
    let behind : total (take (index c.args.chunks.now c.next-spot.result) xs) ≡ total (take i xs) + c.get-slot.result.len = ap (λ n. total (take n xs)) next ∙ here-total xs i c.get-slot.result c.get-slot.ensures in
    record {
      spot = c.next-spot.ensures.spot;
      order = omega (arith, next, inv.order);
      here = omega (arith, behind, inv.here, c.if-left-slot.false);
      some = omega (arith, c.if-left-slot.false);
      alone = λ k x least less at.
          alone-next (segment_at c.args.store.now) xs (index c.args.chunks.now c.find-first.result) i c.get-slot.result c.get-slot.ensures (omega (arith, c.holders.ensures, c.if-holders-ne1.false)) inv.alone k x least
          (omega (arith, next, less)) at;
    }
