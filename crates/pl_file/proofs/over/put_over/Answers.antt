use Rattle.std.proofs.Common.{◌≡◌, ℕ, ◌+◌, ◌-◌, ◌<◌, ◌≤◌, ◌∙◌, ◌++◌, List, inl, inr, ap, sym, length, take, drop, arith}
use Rattle.std.specs.Prelude.{◌⊎◌}
use Rattle.std.proofs.lemmas.Bool.{cases_lt}
use Rattle.std.proofs.lemmas.List.{length-take, length-drop, drop-drop}
use Rattle.std.proofs.Math.Seq.{take-add}
use Rattle.pl_segments.specs.declared.slice.Slice.{Slice}
use Rattle.pl_segments.specs.Segments.{Map, holders, segment_at}
use Rattle.pl_segments.specs.Slices.{all_read}
use Rattle.pl_segments.specs.Turns.{Holds}
use Rattle.pl_segments.specs.Slots.{total}
use Rattle.pl_segments.proofs.SlotLemmas.{total-read}
use Rattle.pl_segments.proofs.Turning.{holds-turned, turns-same, turns-then}
use Rattle.pl_file.specs.File.{written}
use Rattle.pl_file.specs.Rows.{index}
use Rattle.pl_file.proofs.Cutting.{here-total, here-solid, here-lies}
use Rattle.pl_file.proofs.InPlace.{before-end, lies-here, over-turns, over-read, written-then}
use Rattle.pl_file.proofs.over.put_over.Given.{Over}
use Rattle.pl_file.proofs.over.put_over.Goals.{After-get-slot}
use Rattle.pl_file.proofs.over.put_over.Goals as goal

pub get-slot-requires-clause-within : goal.get-slot-requires-clause-within
get-slot-requires-clause-within g c =
    let some = c.loop-rest-test.true in
    let here = c.loop-rest.invariant.here (omega (arith, some)) in
    before-end c.args.chunks.now.slots (index c.args.chunks.now c.loop-rest.spot) (omega (arith, here, some, c.requires.alone.ends))

-- the slot in which the rest begins
module _ (g : Over) (c : After-get-slot g) where
  abbrev slots : List Slice
  slots = c.args.chunks.now.slots

  abbrev i : ℕ
  i = index c.args.chunks.now c.loop-rest.spot

  abbrev x : Slice
  x = c.get-slot.result

  abbrev was : Map
  was = segment_at c.args.store.now

  abbrev now : Map
  now = segment_at c.loop-rest.store

  behind : total (take (i + 1) slots) ≡ total (take i slots) + x.len
  behind = here-total slots i x c.get-slot.ensures

  begins : c.loop-rest.at < x.len
  begins = by (cases_lt 0 c.loop-rest.at)
    where
      by : (0 < c.loop-rest.at) ⊎ (c.loop-rest.at ≤ 0) → c.loop-rest.at < x.len
      by (inl h) =
          let some = c.loop-rest-test.true in
          let l = c.loop-rest.invariant.inside (omega (arith, some)) h in
          omega (arith, l, behind)
      by (inr h) = let l = here-solid slots i x c.get-slot.ensures c.requires.solid in omega (arith, h, l)

  held : Holds now slots
  held = holds-turned was now slots slots c.requires.held c.loop-rest.invariant.turns

  alone : holders now x.segment ≡ 1
  alone =
      let some = c.loop-rest-test.true in
      let here = c.loop-rest.invariant.here (omega (arith, some)) in
      let first = c.requires.alone.alone i x c.loop-rest.invariant.order (omega (arith, here, some)) c.get-slot.ensures in
      let same = c.loop-rest.invariant.turns.counted x.segment in
      omega (arith, first, same)

pub overflow_sub-slot : goal.overflow_sub-slot
overflow_sub-slot g c = let l = begins g (goal.at.overflow_sub-slot g c).After-get-slot in omega (arith, l)

pub overwrite-requires-clause-lies : goal.overwrite-requires-clause-lies
overwrite-requires-clause-lies g c =
    let k = (goal.at.overwrite-requires-clause-lies g c).After-get-slot in
    here-lies (slots g k) (i g k) (x g k) c.get-slot.ensures (now g k) (held g k).lie

pub overwrite-requires-clause-alone : goal.overwrite-requires-clause-alone
overwrite-requires-clause-alone g c = alone g (goal.at.overwrite-requires-clause-alone g c).After-get-slot

pub overwrite-requires-clause-within : goal.overwrite-requires-clause-within
overwrite-requires-clause-within g c =
    let l = begins g (goal.at.overwrite-requires-clause-within g c).After-get-slot in
    let n = ap length c.split_at.ensures.front in
    let t = length-take c.min.result c.loop-rest.rest.now in
    omega (arith, l, n, t, c.min.ensures)

pub loop-rest-smaller : goal.loop-rest-smaller
loop-rest-smaller g c =
    let l = begins g (goal.at.loop-rest-smaller g c).After-get-slot in
    let n = ap length c.split_at.ensures.back in
    let t = length-drop c.min.result c.loop-rest.rest.now in
    let some = c.loop-rest-test.true in
    omega (arith, l, n, t, some, c.min.ensures)

pub loop-rest-preserved : goal.loop-rest-preserved
loop-rest-preserved g c =
    let k = (goal.at.loop-rest-preserved g c).After-get-slot in
    let inv = c.loop-rest.invariant in
    let bytes = c.args.bytes.now in
    let rest = c.loop-rest.rest.now in
    let piece = c.split_at.result.0.now in
    let more = c.split_at.result.1.now in
    let count = c.min.result in
    let done = length bytes - length rest in
    let old = all_read (was g k) (slots g k) in
    let some = c.loop-rest-test.true in
    let l = begins g k in
    let size : length piece ≡ count = (let n = ap length c.split_at.ensures.front in let t = length-take count rest in omega (arith, n, t, c.min.ensures)) in
    let left : length more ≡ length rest - count = ap length c.split_at.ensures.back ∙ length-drop count rest in
    let so_far : length bytes - length more ≡ done + count = omega (arith, left, c.min.ensures, inv.few) in
    let next = c.next-spot.ensures.index in
    let behind_next : total (take (index c.args.chunks.now c.next-spot.result) (slots g k)) ≡ total (take (i g k) (slots g k)) + (x g k).len = ap (λ n. total (take n (slots g k))) next ∙ behind g k in
    let begun = inv.here (omega (arith, some)) in
    let here = lies-here (now g k) (slots g k) (i g k) (x g k) c.get-slot.ensures (alone g k) c.loop-rest.at (length piece) (omega (arith, l, size, c.min.ensures)) in
    let place = total (take (i g k) (slots g k)) + c.loop-rest.at in
    let long = total-read (was g k) (slots g k) c.requires.held.lie in
    let front = length-take done bytes in
    let joined : take done bytes ++ piece ≡ take (length bytes - length more) bytes =
    ap (λ bs. take done bytes ++ bs) (c.split_at.ensures.front ∙ ap (take count) inv.rest) ∙ sym (take-add done count bytes) ∙ ap (λ n. take n bytes) (sym so_far) in
    record {
      spot = c.next-spot.ensures.spot;
      order = omega (arith, next, inv.order);
      here = λ other. omega (arith, behind_next, begun, left, size, l, c.min.ensures, other);
      few = omega (arith, left, inv.few);
      rest = c.split_at.ensures.back ∙ ap (drop count) inv.rest ∙ drop-drop count done bytes ∙ ap (λ n. drop n bytes) (sym so_far);
      inside = λ _ none. absurd (omega (arith, none));
      turns = turns-then (was g k) (now g k) (segment_at c.overwrite.new.self) (slots g k) (slots g k) (slots g k) inv.turns
          (over-turns (now g k) (segment_at c.overwrite.new.self) (slots g k) place piece (x g k) c.loop-rest.at (held g k) here c.overwrite.ensures.turns);
      read = over-read (now g k) (segment_at c.overwrite.new.self) (slots g k) place piece (x g k) c.loop-rest.at (held g k) here c.overwrite.ensures.turns c.overwrite.ensures.reads (omega (arith, size, some, l, c.min.ensures))
          ∙ ap (written place piece) inv.read
          ∙ written-then c.args.place place (take done bytes) piece old (omega (arith, front, begun, inv.few)) (omega (arith, size, some, l, c.min.ensures)) (omega (arith, size, begun, long, c.requires.alone.ends, c.min.ensures))
          ∙ ap (λ bs. written c.args.place bs old) joined;
    }

pub loop-rest-init : goal.loop-rest-init
loop-rest-init g c =
    let all : length c.args.bytes.now - length c.args.bytes.now ≡ 0 = omega arith in
    let old = all_read (segment_at c.args.store.now) c.args.chunks.now.slots in
    record {
      spot = c.requires.spot;
      order = omega arith;
      here = λ _. omega (arith, c.start.ensures, c.requires.alone.begins);
      few = omega arith;
      rest = ap (λ n. drop n c.args.bytes.now) (sym all);
      inside = λ _ _. omega (arith, c.start.ensures, c.requires.alone.begins, c.requires.alone.inside);
      turns = turns-same (segment_at c.args.store.now) c.args.chunks.now.slots c.requires.held.lie;
      read = sym (ap (λ n. written c.args.place (take n c.args.bytes.now) old) all);
    }
