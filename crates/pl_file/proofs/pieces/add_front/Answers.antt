use Rattle.std.proofs.Common.{◌≡◌, ◌<◌, ◌≤◌, ◌+◌, ◌++◌, ◌∙◌, Some, refl, ap, sym, length, take, arith}
use Rattle.std.specs.Prelude.{slice_get}
use Rattle.std.proofs.lemmas.List.{length-append, length-take-le}
use Rattle.std.proofs.lemmas.Option.{slice_get_read}
use Rattle.pl_segments.specs.Slots.{total}
use Rattle.pl_segments.proofs.SlotLemmas.{total-append}
use Rattle.pl_file.specs.Rows.{slots_in}
use Rattle.pl_file.proofs.Chunking.{spot-some, spot-le, take-index, total-index, row-le, row-base, row-take, row-total}
use Rattle.pl_file.proofs.pieces.add_front.Given.{Over}
use Rattle.pl_file.proofs.pieces.add_front.Goals.{Then-spot-gt0, After-index-rows-spot}
use Rattle.pl_file.proofs.pieces.add_front.Goals as goal

there : (g : Over) (c : Then-spot-gt0 g) → c.args.spot.chunk < length c.args.rows.now
there g c = let some = c.if-spot-gt0.true in spot-some c.args.rows.now c.args.spot.chunk c.args.spot.at c.requires.spot (omega (arith, some))

pub offset_bounds-rows-spot : goal.offset_bounds-rows-spot
offset_bounds-rows-spot g c = let l = there g (goal.at.offset_bounds-rows-spot g c).Then-spot-gt0 in omega (arith, l)

pub bounds-rows-spot : goal.bounds-rows-spot
bounds-rows-spot g c = there g (goal.at.bounds-rows-spot g c).Then-spot-gt0

module _ (g : Over) (c : After-index-rows-spot g) where
  got : slice_get c.args.rows.now c.args.spot.chunk ≡ Some c.index-rows-spot.result
  got = slice_get_read c.args.rows.now (length c.args.rows.now) c.args.spot.chunk c.index-rows-spot.result refl (let some = c.if-spot-gt0.true in spot-some c.args.rows.now c.args.spot.chunk c.args.spot.at c.requires.spot (omega (arith, some))) c.index-rows-spot.is

  le : c.args.spot.at ≤ length (slots_in c.args.rows.now c.args.spot.chunk)
  le = spot-le c.args.rows.now c.args.spot.chunk c.args.spot.at c.requires.spot

  within : c.args.spot.at ≤ length c.index-rows-spot.result.slots
  within = row-le c.args.rows.now c.args.spot.chunk c.args.spot.at c.index-rows-spot.result got c.requires.chunks le

  starts : c.args.middle.now.base ≡ c.index-rows-spot.result.base + total (take c.args.spot.at c.index-rows-spot.result.slots)
  starts = c.requires.starts ∙ row-total c.args.rows.now c.args.spot.chunk c.args.spot.at c.index-rows-spot.result got c.requires.chunks le

pub put_before-requires-clause-count : goal.put_before-requires-clause-count
put_before-requires-clause-count g c = within g (goal.at.put_before-requires-clause-count g c).After-index-rows-spot

pub put_before-requires-clause-starts : goal.put_before-requires-clause-starts
put_before-requires-clause-starts g c = starts g (goal.at.put_before-requires-clause-starts g c).After-index-rows-spot

pub returns-then-spot-gt0-clause-slots : goal.returns-then-spot-gt0-clause-slots
returns-then-spot-gt0-clause-slots g c =
    let k = (goal.at.returns-then-spot-gt0-clause-slots g c).After-index-rows-spot in
    c.put_before.ensures.slots ∙ ap (λ ys. ys ++ c.args.middle.now.slots) (row-take c.args.rows.now c.args.spot.chunk c.args.spot.at c.index-rows-spot.result (got g k) c.requires.chunks (le g k))

pub returns-then-spot-gt0-clause-whole : goal.returns-then-spot-gt0-clause-whole
returns-then-spot-gt0-clause-whole g c = sym (take-index c.args.rows.now c.args.spot.chunk c.args.spot.at (le g (goal.at.returns-then-spot-gt0-clause-whole g c).After-index-rows-spot))

pub returns-then-spot-gt0-clause-base : goal.returns-then-spot-gt0-clause-base
returns-then-spot-gt0-clause-base g c =
    let k = (goal.at.returns-then-spot-gt0-clause-base g c).After-index-rows-spot in
    c.put_before.ensures.base ∙ row-base c.args.rows.now c.args.spot.chunk c.args.spot.at c.index-rows-spot.result (got g k) c.requires.chunks (le g k)

pub returns-then-spot-gt0-clause-end : goal.returns-then-spot-gt0-clause-end
returns-then-spot-gt0-clause-end g c =
    let k = (goal.at.returns-then-spot-gt0-clause-end g c).After-index-rows-spot in
    let s = starts g k in
    let e = ap total c.put_before.ensures.slots in
    let a = total-append (take c.args.spot.at c.index-rows-spot.result.slots) c.args.middle.now.slots in
    let b = c.put_before.ensures.base in
    omega (arith, s, e, a, b)

pub returns-then-spot-gt0-clause-many : goal.returns-then-spot-gt0-clause-many
returns-then-spot-gt0-clause-many g c =
    let k = (goal.at.returns-then-spot-gt0-clause-many g c).After-index-rows-spot in
    let e = ap length c.put_before.ensures.slots in
    let a = length-append (take c.args.spot.at c.index-rows-spot.result.slots) c.args.middle.now.slots in
    let l = length-take-le c.args.spot.at c.index-rows-spot.result.slots (within g k) in
    omega (arith, e, a, l)

pub returns-else-spot-gt0-clause-whole : goal.returns-else-spot-gt0-clause-whole
returns-else-spot-gt0-clause-whole g c = sym (take-index c.args.rows.now c.args.spot.chunk c.args.spot.at (spot-le c.args.rows.now c.args.spot.chunk c.args.spot.at c.requires.spot))

pub returns-else-spot-gt0-clause-base : goal.returns-else-spot-gt0-clause-base
returns-else-spot-gt0-clause-base g c =
    let z : c.args.spot.at ≡ 0 = (let f = c.if-spot-gt0.false in omega (arith, f)) in
    let t = total-index c.args.rows.now c.args.spot.chunk c.args.spot.at (spot-le c.args.rows.now c.args.spot.chunk c.args.spot.at c.requires.spot) in
    let none : total (take c.args.spot.at (slots_in c.args.rows.now c.args.spot.chunk)) ≡ 0 = ap (λ k. total (take k (slots_in c.args.rows.now c.args.spot.chunk))) z in
    omega (arith, t, none, c.requires.starts)
