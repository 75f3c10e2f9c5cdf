use Rattle.std.proofs.Common.{ap, sym, subst, arith}
use Rattle.pl_segments.specs.Slices.{AllLie}
use Rattle.pl_segments.specs.Slots.{total}
use Rattle.pl_segments.proofs.Fronting.{front-lie, front-total}
use Rattle.pl_segment_checks.proofs.reading.front.Goals as goal

pub returns-clause-lie : goal.returns-clause-lie
returns-clause-lie g c = λ m h. subst (AllLie m) (sym c.in_ok-list.ensures) (front-lie m c.args.ring.now.slots c.min-count.result h)

pub returns-clause-long : goal.returns-clause-long
returns-clause-long g c =
    let is = ap total c.in_ok-list.ensures in
    let v = c.len.ensures.value in
    let n = c.min-count.ensures in
    let f = front-total c.args.ring.now.slots c.min-count.result (omega (arith, v, n)) in
    omega (arith, is, f, n)

pub returns-clause-most : goal.returns-clause-most
returns-clause-most g c =
    let is = ap total c.in_ok-list.ensures in
    let v = c.len.ensures.value in
    let s = c.len.ensures.fits in
    let n = c.min-count.ensures in
    let k = c.capacity-capacity.ensures.value in
    let r = c.capacity-capacity.ensures.range in
    let f = front-total c.args.ring.now.slots c.min-count.result (omega (arith, v, n)) in
    omega (arith, is, f, n, s, k, r)
