use Rattle.std.proofs.Common.{◌≡◌, ◌<◌, ◌≤◌, ◌+◌, suc, ◌++◌, ◌∙◌, Some, refl, ap, sym, length, take, drop, arith}
use Rattle.std.specs.Prelude.{slice_get}
use Rattle.std.proofs.lemmas.List.{append_assoc, length-append, length-drop}
use Rattle.std.proofs.lemmas.Option.{slice_get_read}
use Rattle.pl_segments.specs.Slots.{total}
use Rattle.pl_segments.proofs.SlotLemmas.{total-append}
use Rattle.pl_file.specs.Rows.{flat, slots_in, lens_of, index_of}
use Rattle.pl_file.proofs.Placed.{total-parts}
use Rattle.pl_file.proofs.Chunking.{spot-some, spot-le, spot-most, slots-in, drop-index, drop-first, total-index, index-within, row-le, row-total, row-end, left-some}
use Rattle.pl_file.proofs.pieces.add_rest.Given.{Over}
use Rattle.pl_file.proofs.pieces.add_rest.Goals.{Then-spot-eq0, Else-spot-eq0, After-index-rows-spot, After-put_behind}
use Rattle.pl_file.proofs.pieces.add_rest.Goals as goal

pub returns-then-spot-eq0-clause-slots : goal.returns-then-spot-eq0-clause-slots
returns-then-spot-eq0-clause-slots g c =
    let rows = c.args.rows.now in
    let z = c.if-spot-eq0.true in
    ap (λ ys. c.args.middle.now.slots ++ ys) (sym (drop-first rows c.args.spot.chunk) ∙ ap (λ k. drop (index_of (lens_of rows) c.args.spot.chunk k) (flat rows)) (sym z))

pub returns-then-spot-eq0-clause-ends : goal.returns-then-spot-eq0-clause-ends
returns-then-spot-eq0-clause-ends g c =
    let rows = c.args.rows.now in
    let at = c.args.spot.at in
    let z = c.if-spot-eq0.true in
    λ l.
    let t = total-index rows c.args.spot.chunk at (spot-le rows c.args.spot.chunk at c.requires.spot) in
    let none : total (take at (slots_in rows c.args.spot.chunk)) ≡ 0 = ap (λ k. total (take k (slots_in rows c.args.spot.chunk))) z in
    let e = c.requires.ends (index-within rows c.args.spot.chunk at c.requires.spot l) in
    omega (arith, t, none, e)

pub returns-then-spot-eq0-clause-next : goal.returns-then-spot-eq0-clause-next
returns-then-spot-eq0-clause-next g c =
    let z = c.if-spot-eq0.true in
    record {
      from = omega arith;
      behind = λ some. absurd (omega (arith, some, z));
      most = spot-most c.args.rows.now c.args.spot.chunk c.args.spot.at c.requires.spot;
    }

there : (g : Over) (c : Else-spot-eq0 g) → c.args.spot.chunk < length c.args.rows.now
there g c = let some = c.if-spot-eq0.false in spot-some c.args.rows.now c.args.spot.chunk c.args.spot.at c.requires.spot (omega (arith, some))

pub offset_bounds-rows-spot : goal.offset_bounds-rows-spot
offset_bounds-rows-spot g c = let l = there g (goal.at.offset_bounds-rows-spot g c).Else-spot-eq0 in omega (arith, l)

pub bounds-rows-spot : goal.bounds-rows-spot
bounds-rows-spot g c = there g (goal.at.bounds-rows-spot g c).Else-spot-eq0

pub overflow_add-result : goal.overflow_add-result
overflow_add-result g c = let l = there g (goal.at.overflow_add-result g c).Else-spot-eq0 in omega (arith, l)

module _ (g : Over) (c : After-index-rows-spot g) where
  here : c.args.spot.chunk < length c.args.rows.now
  here = let some = c.if-spot-eq0.false in spot-some c.args.rows.now c.args.spot.chunk c.args.spot.at c.requires.spot (omega (arith, some))

  got : slice_get c.args.rows.now c.args.spot.chunk ≡ Some c.index-rows-spot.result
  got = slice_get_read c.args.rows.now (length c.args.rows.now) c.args.spot.chunk c.index-rows-spot.result refl here c.index-rows-spot.is

  le : c.args.spot.at ≤ length (slots_in c.args.rows.now c.args.spot.chunk)
  le = spot-le c.args.rows.now c.args.spot.chunk c.args.spot.at c.requires.spot

  starts : c.args.middle.now.base + total c.args.middle.now.slots ≡ c.index-rows-spot.result.base + total (take c.args.spot.at c.index-rows-spot.result.slots)
  starts =
      c.requires.ends (index-within c.args.rows.now c.args.spot.chunk c.args.spot.at c.requires.spot here)
      ∙ row-total c.args.rows.now c.args.spot.chunk c.args.spot.at c.index-rows-spot.result got c.requires.chunks le

pub put_behind-requires-clause-from : goal.put_behind-requires-clause-from
put_behind-requires-clause-from g c =
    let k = (goal.at.put_behind-requires-clause-from g c).After-index-rows-spot in
    row-le c.args.rows.now c.args.spot.chunk c.args.spot.at c.index-rows-spot.result (got g k) c.requires.chunks (le g k)

pub put_behind-requires-clause-room : goal.put_behind-requires-clause-room
put_behind-requires-clause-room g c =
    let k = (goal.at.put_behind-requires-clause-room g c).After-index-rows-spot in
    let e = ap length (slots-in c.args.rows.now c.args.spot.chunk c.index-rows-spot.result (got g k)) in
    let f = c.if-spot-eq0.false in
    let l = left-some (length (slots_in c.args.rows.now c.args.spot.chunk)) c.args.spot.at (omega (arith, f)) in
    omega (arith, e, l, c.requires.room)

pub put_behind-requires-clause-starts : goal.put_behind-requires-clause-starts
put_behind-requires-clause-starts g c = starts g (goal.at.put_behind-requires-clause-starts g c).After-index-rows-spot

pub returns-clause-slots : goal.returns-clause-slots
returns-clause-slots g c =
    let k = (goal.at.returns-clause-slots g c).After-index-rows-spot in
    let rows = c.args.rows.now in
    let chunk = c.args.spot.chunk in
    let at = c.args.spot.at in
    let next : chunk + 1 ≡ suc chunk = omega arith in
    (λ i. c.put_behind.ensures.slots i ++ flat (drop (next i) rows))
    ∙ append_assoc c.args.middle.now.slots (drop at c.index-rows-spot.result.slots) (flat (drop (suc chunk) rows))
    ∙ ap (λ ys. c.args.middle.now.slots ++ (drop at ys ++ flat (drop (suc chunk) rows))) (sym (slots-in rows chunk c.index-rows-spot.result (got g k)))
    ∙ ap (λ ys. c.args.middle.now.slots ++ ys) (sym (drop-index rows chunk at (le g k)))

pub returns-clause-some : goal.returns-clause-some
returns-clause-some g c =
    let e = ap length c.put_behind.ensures.slots in
    let a = length-append c.args.middle.now.slots (drop c.args.spot.at c.index-rows-spot.result.slots) in
    omega (arith, e, a)

pub returns-clause-many : goal.returns-clause-many
returns-clause-many g c =
    let k = (goal.at.returns-clause-many g c).After-index-rows-spot in
    let e = ap length c.put_behind.ensures.slots in
    let a = length-append c.args.middle.now.slots (drop c.args.spot.at c.index-rows-spot.result.slots) in
    let d = length-drop c.args.spot.at c.index-rows-spot.result.slots in
    let s = ap length (slots-in c.args.rows.now c.args.spot.chunk c.index-rows-spot.result (got g k)) in
    let f = c.if-spot-eq0.false in
    let l = left-some (length (slots_in c.args.rows.now c.args.spot.chunk)) c.args.spot.at (omega (arith, f)) in
    omega (arith, e, a, d, s, l)

pub returns-clause-ends : goal.returns-clause-ends
returns-clause-ends g c =
    let k = (goal.at.returns-clause-ends g c).After-index-rows-spot in
    let rows = c.args.rows.now in
    let chunk = c.args.spot.chunk in
    let at = c.args.spot.at in
    let r = c.index-rows-spot.result in
    let next : chunk + 1 ≡ suc chunk = omega arith in
    let e = ap total c.put_behind.ensures.slots in
    let a = total-append c.args.middle.now.slots (drop at r.slots) in
    let p = total-parts at r.slots in
    let s = starts g k in
    let b = c.put_behind.ensures.base in
    let end = row-end rows chunk at r (got g k) c.requires.chunks (le g k) in
    let same = ap (λ n. total (flat (take n rows))) next in
    λ l. omega (arith, e, a, p, s, b, end, same)

pub returns-clause-next : goal.returns-clause-next
returns-clause-next g c =
    let l = here g (goal.at.returns-clause-next g c).After-index-rows-spot in
    record { from = omega arith; behind = λ some. omega arith; most = omega (arith, l) }
