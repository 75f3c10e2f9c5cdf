use Rattle.std.proofs.Common.{◌≡◌, ◌∙◌, ◌++◌, ◌-◌, ap, sym, subst, take, length, arith}
use Rattle.std.proofs.lemmas.List.{length-take-le, take_all}
use Rattle.pl_segments.specs.Segments.{segment_at}
use Rattle.pl_segments.specs.Slices.{AllLie, all_read}
use Rattle.pl_segments.proofs.SlotLemmas.{total-read}
use Rattle.pl_segments.proofs.Turning.{lie-left, lie-right, read-append}
use Rattle.pl_segments.proofs.Fronting.{take-both}
use Rattle.pl_ring.proofs.front.copy_slots_into.Goals as goal

pub fill-filled-requires-clause-lie : goal.fill-filled-requires-clause-lie
fill-filled-requires-clause-lie g c =
    lie-left (segment_at c.args.store.now) c.as_slices.result.0.now c.as_slices.result.1.now (subst (AllLie (segment_at c.args.store.now)) (sym c.as_slices.ensures) c.requires.lie)

pub fill-requires-clause-lie : goal.fill-requires-clause-lie
fill-requires-clause-lie g c =
    lie-right (segment_at c.args.store.now) c.as_slices.result.0.now c.as_slices.result.1.now (subst (AllLie (segment_at c.args.store.now)) (sym c.as_slices.ensures) c.requires.lie)

pub returns : goal.returns
returns g c =
    let m = segment_at c.args.store.now in
    let n = length c.args.into.now in
    let front = all_read m c.as_slices.result.0.now in
    let back = all_read m c.as_slices.result.1.now in
    let k = c.fill-filled.result in
    let one = c.fill-filled.new.into in
    let first : take k one ≡ take n front = c.fill-filled.ensures.bytes ∙ (let e : n - 0 ≡ n = omega arith in ap (λ j. take j front) e) in
    let len : k ≡ length (take n front) = sym (length-take-le k one c.fill-filled.ensures.most) ∙ ap length first in
    let second : take c.fill.result c.fill.new.into ≡ take n (front ++ back) =
    c.fill.ensures.bytes ∙ (λ i. first i ++ take (c.fill-filled.ensures.len i - len i) back) ∙ take-both n front back in
    let all : front ++ back ≡ all_read m c.args.slots.now.items = sym (read-append m c.as_slices.result.0.now c.as_slices.result.1.now) ∙ ap (all_read m) c.as_slices.ensures in
    let total = total-read m c.args.slots.now.items c.requires.lie in
    let long = sym (length-take-le c.fill.result c.fill.new.into c.fill.ensures.most) ∙ ap length second ∙ ap (λ z. length (take n z)) all in
    let whole = length-take-le n (all_read m c.args.slots.now.items) (omega (arith, total, c.requires.count)) in
    sym (take_all c.fill.result c.fill.new.into (omega (arith, long, whole, c.fill.ensures.len, c.fill-filled.ensures.len))) ∙ second ∙ ap (take n) all
