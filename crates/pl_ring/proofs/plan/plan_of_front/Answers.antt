use Rattle.std.proofs.Common.{◌≡◌, ◌+◌, ◌-◌, ◌∙◌, ap, sym, length, drop, take, arith}
use Rattle.std.specs.Prelude.{slice_index_or}
use Rattle.pl_segments.specs.declared.slice.Slice.{Slice}
use Rattle.pl_segments.specs.Slots.{solid_of, last_len}
use Rattle.pl_segments.proofs.SlotLemmas.{last-total}
use Rattle.pl_ring.specs.Merging.{lens, merges}
use Rattle.pl_ring.proofs.Planning.{InParts, in-parts}
use Rattle.pl_ring.proofs.plan.plan_of_front.Given.{Over}
use Rattle.pl_ring.proofs.plan.plan_of_front.Goals.{After-last_len}
use Rattle.pl_ring.proofs.plan.plan_of_front.Goals as goal

-- the two parts that are planned, and what stands between them
module _ (g : Over) (c : After-last_len g) where
  abbrev d : Slice
  d = record { segment = 0; from = 0; len = 0 }

  parts :
      InParts c.args.slices.now (length c.args.slots.now.items) (last_len c.args.slots.now.items) d c.split_at.result.0.now c.split_at-2.result.0.now c.split_at-2.result.1.now
  parts =
      let is = in-parts c.args.slices.now (length c.args.slots.now.items) (last_len c.args.slots.now.items) d c.requires.front (let n = c.if-slices-le-FEW.false in omega (arith, n)) in
      let rest = c.split_at.ensures.back in
      let mid : c.split_at-2.result.0.now ≡ take (length (drop 2 c.args.slices.now) - 1) (drop 2 c.args.slices.now) = c.split_at-2.ensures.front ∙ ap (λ xs. take (length xs - 1) xs) rest in
      let end : c.split_at-2.result.1.now ≡ drop (length (drop 2 c.args.slices.now) - 1) (drop 2 c.args.slices.now) = c.split_at-2.ensures.back ∙ ap (λ xs. drop (length xs - 1) xs) rest in
      rw (c.split_at.ensures.front) (rw (mid) (rw (end) is))

pub plan_after-plan-requires : goal.plan_after-plan-requires
plan_after-plan-requires g c =
    let last = last-total c.args.slots.now.items in
    let begins = (parts g c).begins in
    omega (arith, last, begins, c.len.ensures.len, c.len.ensures.within.0, c.last_len.ensures, c.requires.ring.fits, c.requires.most)

pub plan_after-last-requires : goal.plan_after-last-requires
plan_after-last-requires g c =
    let p = parts g (goal.at.plan_after-last-requires g c).After-last_len in
    let few = p.few in
    let first = p.first in
    let head = c.plan_after-plan.ensures in
    omega (arith, few, first, head.slots, c.len.ensures.len, c.len.ensures.within.0, c.requires.ring.fits, c.requires.most)

pub overflow_add-result : goal.overflow_add-result
overflow_add-result g c =
    let p = parts g (goal.at.overflow_add-result g c).After-last_len in
    let first = p.first in
    let one = p.one in
    let few = p.few in
    let head = c.plan_after-plan.ensures in
    let end = c.plan_after-last.ensures in
    omega (arith, first, one, few, head.slots, end.slots, c.len.ensures.len, c.len.ensures.within.0, c.requires.ring.fits, c.requires.most)

pub returns : goal.returns
returns g c =
    let p = parts g (goal.at.returns g c).After-last_len in
    let first = p.first in
    let one = p.one in
    let all = p.all in
    let count = c.len.ensures.len in
    let head = c.plan_after-plan.ensures in
    let end = c.plan_after-last.ensures in
    let mid = c.split_at-2.result.0.now in
    let begun : c.plan_after-plan.result.merges ≡ merges (length c.args.slots.now.items) (last_len c.args.slots.now.items) (lens (solid_of c.split_at.result.0.now)) =
    head.merges ∙ (λ i. merges (count i) (c.last_len.ensures i) (lens (solid_of c.split_at.result.0.now))) in
    let slots : c.plan_after-plan.result.slots ≡ length c.args.slots.now.items + 2 - merges (length c.args.slots.now.items) (last_len c.args.slots.now.items) (lens (solid_of c.split_at.result.0.now)) =
    omega (arith, head.slots, begun, first, count) in
    let ended = end.merges ∙ ap (λ k. merges (k + length mid) (slice_index_or mid (length mid - 1) (d g (goal.at.returns g c).After-last_len)).len (lens (solid_of c.split_at-2.result.1.now))) slots in
    record {
      merges = (λ i. begun i + ended i) ∙ sym p.merges;
      slots = omega (arith, head.slots, end.slots, first, one, all, count);
      more = omega (arith, head.more, end.more, count);
      few = end.few;
    }
