use Rattle.std.proofs.Common.{ap, sym, subst, arith}
use Rattle.pl_segments.specs.Slices.{AllLie}
use Rattle.pl_segments.specs.Slots.{total, drop_bytes}
use Rattle.pl_segments.proofs.Fronting.{front-lie}
use Rattle.pl_file.proofs.Editing.{lie-drop}
use Rattle.pl_segment_checks.proofs.Shares.{listed-total}
use Rattle.pl_segment_checks.proofs.reading.range_of.Goals as goal

pub returns-clause-lie : goal.returns-clause-lie
returns-clause-lie g c = λ m h.
    let xs = c.args.file.now in
    let from = c.min-from.result in
    subst (AllLie m) (sym c.in_ok-list.ensures) (front-lie m (drop_bytes from xs) c.min-count.result (lie-drop m xs from h))

pub returns-clause-long : goal.returns-clause-long
returns-clause-long g c =
    let is = ap total c.in_ok-list.ensures in
    let v = c.len-len.ensures.value in
    let f = c.min-from.ensures in
    let n = c.min-count.ensures in
    let t = listed-total c.args.file.now c.min-from.result c.min-count.result (omega (arith, v, f)) (omega (arith, v, f, n)) in
    omega (arith, is, t, n)

pub returns-clause-most : goal.returns-clause-most
returns-clause-most g c =
    let is = ap total c.in_ok-list.ensures in
    let v = c.len-len.ensures.value in
    let b = c.len-len.ensures.most in
    let f = c.min-from.ensures in
    let n = c.min-count.ensures in
    let t = listed-total c.args.file.now c.min-from.result c.min-count.result (omega (arith, v, f)) (omega (arith, v, f, n)) in
    omega (arith, is, t, n, v, b)
