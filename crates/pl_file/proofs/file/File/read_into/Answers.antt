use Rattle.std.proofs.Common.{◌≡◌, ◌∙◌, ◌+◌, ◌-◌, ◌≤◌, ◌++◌, [], ◌∷◌, ap, sym, subst, length, take, drop, arith}
use Rattle.std.specs.Prelude.{slice_get, Some}
use Rattle.std.proofs.lemmas.List.{append-nil, append_assoc, drop_more, drop_all, length-append, length-drop, length-take-le, take_all}
use Rattle.std.proofs.lemmas.Option.{get_or_from_slice_get}
use Rattle.pl_segments.specs.Segments.{segment_at}
use Rattle.pl_segments.specs.Slices.{AllLie, all_read, reads}
use Rattle.pl_segments.specs.Slots.{solid_of, drop_bytes}
use Rattle.pl_segments.proofs.SlotLemmas.{total-read}
use Rattle.pl_segments.proofs.Turning.{lie-left, read-append}
use Rattle.pl_segments.proofs.Fronting.{take-both}
use Rattle.std.proofs.lemmas.Bool.{ltb-true, ltb-false}
use Rattle.pl_file.specs.Rows.{index}
use Rattle.pl_file.proofs.Cutting.{here-within, here-lies}
use Rattle.pl_file.proofs.Editing.{lie-drop, drop-read}
use Rattle.pl_file.proofs.file.File.read_into.Given.{Over}
use Rattle.pl_file.proofs.file.File.read_into.Goals.{After-rest_cut-cut, After-get, At-loop-filled}
use Rattle.pl_file.proofs.file.File.read_into.Goals as goal

-- the part of the slot before the cut, and the slots from there on
cut_is : (g : Over) (c : After-rest_cut-cut g) → drop_bytes c.args.place c.args.self.now ≡ solid_of (c.rest_cut-cut.result.part ∷ []) ++ drop (index c.self.inside.chunks c.rest_cut-cut.result.place) c.args.self.now
cut_is g c = subst (λ ys. drop_bytes c.args.place ys ≡ solid_of (c.rest_cut-cut.result.part ∷ []) ++ drop (index c.self.inside.chunks c.rest_cut-cut.result.place) ys) c.self.view_is c.rest_cut-cut.ensures.rest.is

-- the slot that is read
got : (g : Over) (c : After-get g) → slice_get c.args.self.now (index c.self.inside.chunks c.loop-filled.spot) ≡ Some c.get.result
got g c = subst (λ ys. slice_get ys (index c.self.inside.chunks c.loop-filled.spot) ≡ Some c.get.result) c.self.view_is c.get.ensures

pub fill_part-filled-requires : goal.fill_part-filled-requires
fill_part-filled-requires g c =
    let m = segment_at c.args.store.now in
    let p = c.rest_cut-cut.result in
    lie-left m (solid_of (p.part ∷ [])) (drop (index c.self.inside.chunks p.place) c.args.self.now) (subst (AllLie m) (cut_is g (goal.at.fill_part-filled-requires g c).After-rest_cut-cut) (lie-drop m c.args.self.now c.args.place c.requires.lie))

pub loop-filled-init : goal.loop-filled-init
loop-filled-init g c =
    let m = segment_at c.args.store.now in
    let xs = c.args.self.now in
    let n = length c.args.into.now in
    let p = c.rest_cut-cut.result in
    let part = all_read m (solid_of (p.part ∷ [])) in
    let k = c.fill_part-filled.result in
    let first : take k c.fill_part-filled.new.into ≡ take n part = c.fill_part-filled.ensures.bytes in
    let len : k ≡ length (take n part) = sym (length-take-le k c.fill_part-filled.new.into c.fill_part-filled.ensures.most) ∙ ap length first in
    record {
      read = (λ i. first i ++ take (n - len i) (all_read m (drop (index c.self.inside.chunks p.place) xs)))
          ∙ take-both n part (all_read m (drop (index c.self.inside.chunks p.place) xs))
          ∙ ap (take n) (sym (read-append m (solid_of (p.part ∷ [])) (drop (index c.self.inside.chunks p.place) xs)) ∙ ap (all_read m) (sym (cut_is g (goal.at.loop-filled-init g c).After-rest_cut-cut)));
      filled = omega (arith, c.fill_part-filled.ensures.most, c.fill_part-filled.ensures.len);
      len = c.fill_part-filled.ensures.len;
      spot = c.rest_cut-cut.ensures.spot;
    }

pub get-requires-clause-within : goal.get-requires-clause-within
get-requires-clause-within g c = ltb-true (index c.self.inside.chunks c.loop-filled.spot) (length c.self.inside.chunks.slots) (sym c.if-has.ensures)

pub next-spot-requires-clause-within : goal.next-spot-requires-clause-within
next-spot-requires-clause-within g c = ltb-true (index c.self.inside.chunks c.loop-filled.spot) (length c.self.inside.chunks.slots) (sym c.if-has.ensures)

pub loop-filled-smaller : goal.loop-filled-smaller
loop-filled-smaller g c =
    let l = ltb-true (index c.self.inside.chunks c.loop-filled.spot) (length c.self.inside.chunks.slots) (sym c.if-has.ensures) in
    let n = c.next-spot.ensures.index in
    let e = ap length c.self.view_is in
    omega (arith, l, n, e)

pub fill-filled-requires-clause-lies : goal.fill-filled-requires-clause-lies
fill-filled-requires-clause-lies g c =
    let here = got g (goal.at.fill-filled-requires-clause-lies g c).After-get in
    here-lies c.args.self.now (index c.self.inside.chunks c.loop-filled.spot) c.get.result here (segment_at c.args.store.now) c.requires.lie

pub loop-filled-preserved : goal.loop-filled-preserved
loop-filled-preserved g c =
    let m = segment_at c.args.store.now in
    let xs = c.args.self.now in
    let i = (index c.self.inside.chunks c.loop-filled.spot) in
    let x = c.get.result in
    let here = got g (goal.at.loop-filled-preserved g c).After-get in
    let l = here-within xs i x here in
    let shape : drop i xs ≡ x ∷ drop (i + 1) xs = drop_more xs i x l ∙ ap (λ y. y ∷ drop (i + 1) xs) (get_or_from_slice_get xs i x x here) in
    let rest = all_read m (drop (i + 1) xs) in
    let inv = c.loop-filled.invariant in
    let f = c.loop-filled.filled in
    let n = length c.args.into.now in
    let old = take f c.loop-filled.into in
    let bytes : take c.fill-filled.result c.fill-filled.new.into ≡ old ++ take (n - f) (reads m x) = c.fill-filled.ensures.bytes ∙ ap (λ k. old ++ take (k - f) (reads m x)) inv.len in
    let long = ap length bytes in
    let parts = length-append old (take (n - f) (reads m x)) in
    let before = length-take-le f c.loop-filled.into (omega (arith, inv.len, inv.filled)) in
    let after = length-take-le c.fill-filled.result c.fill-filled.new.into c.fill-filled.ensures.most in
    let left : n - c.fill-filled.result ≡ (n - f) - length (take (n - f) (reads m x)) = omega (arith, long, parts, before, after) in
    record {
      read = (λ j. bytes j ++ take (left j) (all_read m (drop (c.next-spot.ensures.index j) xs)))
          ∙ append_assoc old (take (n - f) (reads m x)) (take ((n - f) - length (take (n - f) (reads m x))) rest)
          ∙ ap (λ bs. old ++ bs) (take-both (n - f) (reads m x) rest)
          ∙ ap (λ zs. old ++ take (n - f) (all_read m zs)) (sym shape)
          ∙ inv.read;
      filled = omega (arith, c.fill-filled.ensures.most, c.fill-filled.ensures.len, inv.len);
      len = c.fill-filled.ensures.len ∙ inv.len;
      spot = c.next-spot.ensures.spot;
    }

-- where nothing more is to come, all places are filled
module _ (g : Over) (c : At-loop-filled g) where
  filled_whole :
      take (length c.args.into.now - c.loop-filled.filled) (all_read (segment_at c.args.store.now) (drop (index c.self.inside.chunks c.loop-filled.spot) c.args.self.now)) ≡ []
      → c.loop-filled.into ≡ take (length c.args.into.now) (drop c.args.place (all_read (segment_at c.args.store.now) c.args.self.now))
  filled_whole none =
      let m = segment_at c.args.store.now in
      let xs = c.args.self.now in
      let n = length c.args.into.now in
      let inv = c.loop-filled.invariant in
      let f = c.loop-filled.filled in
      let had = take f c.loop-filled.into in
      let whole = drop c.args.place (all_read m xs) in
      let are : had ≡ take n whole = sym (append-nil had) ∙ ap (λ ys. had ++ ys) (sym none) ∙ inv.read ∙ ap (take n) (drop-read m xs c.args.place c.requires.lie) in
      let long = length-drop c.args.place (all_read m xs) in
      let total = total-read m xs c.requires.lie in
      let all = length-take-le n whole (omega (arith, long, total, c.requires.fits)) in
      let filled = length-take-le f c.loop-filled.into (omega (arith, inv.len, inv.filled)) in
      let same = ap length are in
      sym (take_all f c.loop-filled.into (omega (arith, same, all, filled, inv.len))) ∙ are

pub returns-else-has : goal.returns-else-has
returns-else-has g c =
    let xs = c.args.self.now in
    let n = length c.args.into.now in
    let f = c.loop-filled.filled in
    let past : length xs ≤ (index c.self.inside.chunks c.loop-filled.spot) = (let f = ltb-false (index c.self.inside.chunks c.loop-filled.spot) (length c.self.inside.chunks.slots) (sym c.if-has.ensures) in let e = ap length c.self.view_is in omega (arith, f, e)) in
    filled_whole g (goal.at.returns-else-has g c).At-loop-filled
    (ap (λ ys. take (n - f) (all_read (segment_at c.args.store.now) ys)) (drop_all (index c.self.inside.chunks c.loop-filled.spot) xs past) ∙ take_all (n - f) [] (omega arith))

pub returns-after-loop-filled : goal.returns-after-loop-filled
returns-after-loop-filled g c =
    let z : length c.args.into.now - c.loop-filled.filled ≡ 0 = (let t = c.loop-filled-test.false in let e = c.loop-filled.invariant.len in omega (arith, t, e)) in
    filled_whole g (goal.at.returns-after-loop-filled g c).At-loop-filled
    (ap (λ k. take k (all_read (segment_at c.args.store.now) (drop (index c.self.inside.chunks c.loop-filled.spot) c.args.self.now))) z)
