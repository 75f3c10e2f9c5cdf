use Rattle.std.proofs.Common.{◌≡◌, ◌∙◌, ◌+◌, ◌-◌, ◌≤◌, ◌++◌, [], ◌∷◌, ap, sym, subst, length, drop, arith}
use Rattle.std.specs.Prelude.{slice_get, Some}
use Rattle.std.proofs.lemmas.List.{append-nil, append_assoc, drop_more, drop_all}
use Rattle.std.proofs.lemmas.Option.{get_or_from_slice_get}
use Rattle.pl_segments.specs.Slots.{total, AllSolid, solid_of, drop_bytes, front_of}
use Rattle.pl_segments.proofs.SlotLemmas.{total-solid}
use Rattle.pl_segments.proofs.Fronting.{front-append, front-none}
use Rattle.std.proofs.lemmas.Bool.{ltb-true, ltb-false}
use Rattle.pl_file.specs.Rows.{index}
use Rattle.pl_file.proofs.Cutting.{here-within, here-solid}
use Rattle.pl_file.proofs.Patching.{solid-some}
use Rattle.pl_file.proofs.file.File.slices_at.Goals.{then-loop-rest-test+else-has, else-loop-rest-test}
use Rattle.pl_file.proofs.file.File.slices_at.Goals as goal

pub loop-rest-init : goal.loop-rest-init
loop-rest-init g c =
    let xs = c.args.self.now in
    let p = c.rest_cut-cut.result in
    let part = solid_of (p.part ∷ []) in
    let rest = subst (λ ys. drop_bytes c.args.place ys ≡ part ++ drop (index c.self.inside.chunks p.place) ys) c.self.view_is c.rest_cut-cut.ensures.rest.is in
    let items : c.list_part.new.list.items ≡ front_of c.args.count part = c.in_ok-rest.ensures.items ∙ ap (λ ys. ys ++ front_of c.args.count part) c.in_ok-list.ensures.items in
    let left : c.in_ok-rest.rest ≡ c.args.count - total part = (let l = c.in_ok-rest.ensures.left in let t = total-solid (p.part ∷ []) in omega (arith, l, t)) in
    record {
      list = (λ i. items i ++ front_of (left i) (drop (index c.self.inside.chunks p.place) xs)) ∙ sym (front-append c.args.count part (drop (index c.self.inside.chunks p.place) xs)) ∙ ap (front_of c.args.count) (sym rest);
      spot = c.rest_cut-cut.ensures.spot;
    }

pub get-requires-clause-within : goal.get-requires-clause-within
get-requires-clause-within g c = ltb-true (index c.self.inside.chunks c.loop-rest.spot) (length c.self.inside.chunks.slots) (sym c.if-has.ensures)

pub next-spot-requires-clause-within : goal.next-spot-requires-clause-within
next-spot-requires-clause-within g c = ltb-true (index c.self.inside.chunks c.loop-rest.spot) (length c.self.inside.chunks.slots) (sym c.if-has.ensures)

pub loop-rest-smaller : goal.loop-rest-smaller
loop-rest-smaller g c =
    let l = ltb-true (index c.self.inside.chunks c.loop-rest.spot) (length c.self.inside.chunks.slots) (sym c.if-has.ensures) in
    let n = c.next-spot.ensures.index in
    let e = ap length c.self.view_is in
    omega (arith, l, n, e)

pub loop-rest-preserved : goal.loop-rest-preserved
loop-rest-preserved g c =
    let xs = c.args.self.now in
    let x = c.get.result in
    let at = (index c.self.inside.chunks c.loop-rest.spot) in
    let rest = c.loop-rest.rest in
    let got = subst (λ ys. slice_get ys at ≡ Some x) c.self.view_is c.get.ensures in
    let l = here-within xs at x got in
    let shape : drop at xs ≡ x ∷ drop (at + 1) xs = drop_more xs at x l ∙ ap (λ y. y ∷ drop (at + 1) xs) (get_or_from_slice_get xs at x x got) in
    let part = solid_of (x ∷ []) in
    let one : part ≡ x ∷ [] = (let some = here-solid xs at x got (subst AllSolid c.self.view_is c.self.invariant.solid) in solid-some x (λ z. absurd (omega (arith, z, some)))) in
    let left : c.in_ok-rest-2.rest ≡ rest - total part = (let n = c.in_ok-rest-2.ensures.left in let t = total-solid (x ∷ []) in omega (arith, n, t)) in
    record {
      list =
          (λ i. c.in_ok-rest-2.ensures.items i ++ front_of (left i) (drop (c.next-spot.ensures.index i) xs))
          ∙ append_assoc c.loop-rest.list.items (front_of rest part) (front_of (rest - total part) (drop (at + 1) xs))
          ∙ ap (λ ys. c.loop-rest.list.items ++ ys) (sym (front-append rest part (drop (at + 1) xs)) ∙ ap (λ ys. front_of rest (ys ++ drop (at + 1) xs)) one ∙ ap (front_of rest) (sym shape))
          ∙ c.loop-rest.invariant.list;
      spot = c.next-spot.ensures.spot;
    }

pub returns : goal.returns
returns g c =
    let xs = c.args.self.now in
    let items = c.loop-rest.list.items in
    let none : front_of c.loop-rest.rest (drop (index c.self.inside.chunks c.loop-rest.spot) xs) ≡ [] =
    elim c.loop-rest-test.branch as (λ _. front_of c.loop-rest.rest (drop (index c.self.inside.chunks c.loop-rest.spot) xs) ≡ []) [
      | then-loop-rest-test+else-has w ↦
          let past : length xs ≤ (index c.self.inside.chunks c.loop-rest.spot) = (let f = ltb-false (index c.self.inside.chunks c.loop-rest.spot) (length c.self.inside.chunks.slots) (sym w.if-has.ensures) in let e = ap length c.self.view_is in omega (arith, f, e)) in
          ap (front_of c.loop-rest.rest) (drop_all (index c.self.inside.chunks c.loop-rest.spot) xs past)
      | else-loop-rest-test w ↦
          let z : c.loop-rest.rest ≡ 0 = (let f = w.loop-rest-test.false in omega (arith, f)) in
          ap (λ n. front_of n (drop (index c.self.inside.chunks c.loop-rest.spot) xs)) z ∙ front-none (drop (index c.self.inside.chunks c.loop-rest.spot) xs)
    ] in
    c.from_vec.ensures ∙ sym (append-nil items) ∙ ap (λ ys. items ++ ys) (sym none) ∙ c.loop-rest.invariant.list
