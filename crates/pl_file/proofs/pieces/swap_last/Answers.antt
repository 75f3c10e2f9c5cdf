use Rattle.std.proofs.Common.{◌≡◌, ◌+◌, ◌-◌, ◌++◌, ◌∙◌, ap, length, take, drop, arith}
use Rattle.std.specs.List.{swap_remove}
use Rattle.pl_file.proofs.Swapping.{underway, underway-first, underway-next}
use Rattle.pl_file.proofs.pieces.swap_last.Goals as goal

pub loop-place-init : goal.loop-place-init
loop-place-init g c = record {
  from = c.requires.order;
  most = omega arith;
  rows = underway-first c.args.rows.now.items c.args.first c.args.last (length c.args.rows.now.items - (c.args.last - c.args.first)) c.requires.order (omega (arith, c.requires.order, c.requires.most)) (omega (arith, c.requires.order, c.requires.most));
}

pub loop-place-preserved : goal.loop-place-preserved
loop-place-preserved g c =
    let xs = c.args.rows.now.items in
    let inv = c.loop-place.invariant in
    let place = c.loop-place.place in
    let test = c.loop-place-test.true in
    let r = c.requires in
    let len = length xs - (c.args.last - c.args.first) in
    let e : place ≡ place - 1 + 1 = omega (arith, test) in
    record {
      from = omega (arith, test);
      most = let m = inv.most in omega (arith, m);
      rows = c.swap_remove.ensures.items
          ∙ ap (λ ys. swap_remove ys (place - 1) c.swap_remove.result) (inv.rows ∙ ap (underway xs c.args.first c.args.last len) e)
          ∙ underway-next xs c.args.first c.args.last len r.order (omega (arith, r.order, r.most)) (omega (arith, r.order, r.most)) (place - 1) c.swap_remove.result (omega (arith, test)) (let m = inv.most in omega (arith, test, m));
    }

pub returns : goal.returns
returns g c =
    let inv = c.loop-place.invariant in
    let xs = c.args.rows.now.items in
    let f = inv.from in
    let test = c.loop-place-test.false in
    let e : c.loop-place.place ≡ c.args.first = omega (arith, f, test) in
    let z : length xs - (c.args.last - c.args.first) + (c.args.first - c.args.first) ≡ length xs - (c.args.last - c.args.first) = omega arith in
    inv.rows
    ∙ ap (underway xs c.args.first c.args.last (length xs - (c.args.last - c.args.first))) e
    ∙ ap (λ k. take c.args.first xs ++ (drop k xs ++ drop c.args.last (take k xs))) z
