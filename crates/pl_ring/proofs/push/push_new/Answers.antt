use Rattle.std.proofs.Common.{◌≡◌, ◌∙◌, ◌++◌, ◌∷◌, [], ◌≤◌, ◌+◌, ap, length, take, drop, arith}
use Rattle.std.proofs.lemmas.List.{append_assoc, take-append-drop, length-take, length-drop}
use Rattle.pl_segments.specs.declared.slice.Slice.{Slice}
use Rattle.pl_segments.specs.Segments.{segment_at}
use Rattle.pl_segments.specs.Slices.{all_read}
use Rattle.pl_segments.specs.Turns.{Turns, Holds}
use Rattle.pl_segments.proofs.Turning.{turns-then, holds-turned}
use Rattle.pl_segments.proofs.Pushing.{push-turns, push-read, total-pushed}
use Rattle.pl_ring.proofs.Placing.{full-alone, joining-most}
use Rattle.pl_ring.proofs.push.push_new.Given.{Over}
use Rattle.pl_ring.proofs.push.push_new.Goals.{After-make_reserved-slice}
use Rattle.pl_ring.proofs.push.push_new.Goals as goal

-- the slots are held, and so they are with the new slice
module _ (g : Over) (c : After-make_reserved-slice g) where
  held : Holds (segment_at c.loop-rest.store) c.loop-rest.slots.items
  held = holds-turned (segment_at c.args.store.now) (segment_at c.loop-rest.store) c.args.slots.now.items c.loop-rest.slots.items c.requires.held c.loop-rest.invariant.turns

  pushed : Turns (segment_at c.loop-rest.store) c.loop-rest.slots.items (segment_at c.make_reserved-slice.new.self) (c.loop-rest.slots.items ++ c.make_reserved-slice.result ∷ [])
  pushed = push-turns (segment_at c.loop-rest.store) (segment_at c.make_reserved-slice.new.self) c.loop-rest.slots.items c.make_reserved-slice.result c.split_at.result.0.now held c.make_reserved-slice.ensures.turns

  read : all_read (segment_at c.make_reserved-slice.new.self) (c.loop-rest.slots.items ++ c.make_reserved-slice.result ∷ []) ≡ all_read (segment_at c.loop-rest.store) c.loop-rest.slots.items ++ c.split_at.result.0.now
  read = push-read (segment_at c.loop-rest.store) (segment_at c.make_reserved-slice.new.self) c.loop-rest.slots.items c.make_reserved-slice.result c.split_at.result.0.now held c.make_reserved-slice.ensures.turns c.make_reserved-slice.ensures.reads

  lens : (c.make_reserved-slice.result.len ≡ length c.split_at.result.0.now) × (length c.split_at.result.0.now ≡ c.min-count.result) × (length c.split_at.result.1.now + c.min-count.result ≡ length c.loop-rest.rest.now) × (1 ≤ c.min-count.result)
  lens =
      let len : c.make_reserved-slice.result.len ≡ length c.split_at.result.0.now = ap (λ (s : Slice). s.len) c.make_reserved-slice.ensures.slice in
      let f : length c.split_at.result.0.now ≡ length (take c.min-count.result c.loop-rest.rest.now) = ap length c.split_at.ensures.front in
      let b : length c.split_at.result.1.now ≡ length (drop c.min-count.result c.loop-rest.rest.now) = ap length c.split_at.ensures.back in
      let lf = length-take c.min-count.result c.loop-rest.rest.now in
      let lb = length-drop c.min-count.result c.loop-rest.rest.now in
      let count = c.min-count.ensures in
      let some = c.loop-rest-test.true in
      (len, omega (arith, f, lf, count), omega (arith, b, lb, count), omega (arith, count, some))

pub push_slot-requires-clause-held : goal.push_slot-requires-clause-held
push_slot-requires-clause-held g c =
    let k = (goal.at.push_slot-requires-clause-held g c).After-make_reserved-slice in
    holds-turned (segment_at c.loop-rest.store) (segment_at c.make_reserved-slice.new.self) c.loop-rest.slots.items (c.loop-rest.slots.items ++ c.make_reserved-slice.result ∷ []) (held g k) (pushed g k)

pub push_slot-requires-clause-ring : goal.push_slot-requires-clause-ring
push_slot-requires-clause-ring g c =
    let n = lens g (goal.at.push_slot-requires-clause-ring g c).After-make_reserved-slice in
    let inv = c.loop-rest.invariant in
    record {
      slots = inv.slots;
      even = let k = inv.capacity in omega (arith, k, c.requires.ring.even);
      fits = let f = inv.fits in let k = inv.capacity in omega (arith, n, f, k);
    }

pub push_slot-requires-clause-some : goal.push_slot-requires-clause-some
push_slot-requires-clause-some g c =
    let n = lens g (goal.at.push_slot-requires-clause-some g c).After-make_reserved-slice in
    omega (arith, n)

pub loop-rest-preserved : goal.loop-rest-preserved
loop-rest-preserved g c =
    let k = (goal.at.loop-rest-preserved g c).After-make_reserved-slice in
    let m0 = segment_at c.args.store.now in
    let m = segment_at c.loop-rest.store in
    let o = segment_at c.push_slot.new.store in
    let ys = c.loop-rest.slots.items in
    let x = c.make_reserved-slice.result in
    let zs = c.push_slot.new.slots.items in
    let first = c.split_at.result.0.now in
    let more = c.split_at.result.1.now in
    let inv = c.loop-rest.invariant in
    let n = lens g k in
    let took = c.push_slot.ensures.took in
    let whole : first ++ more ≡ c.loop-rest.rest.now = (λ i. c.split_at.ensures.front i ++ c.split_at.ensures.back i) ∙ take-append-drop c.min-count.result c.loop-rest.rest.now in
    let both : Turns m ys o zs = turns-then m (segment_at c.make_reserved-slice.new.self) o ys (ys ++ x ∷ []) zs (pushed g k) took.turns in
    let reads : all_read o zs ≡ all_read m ys ++ first = took.read ∙ read g k in
    let sum = total-pushed m o ys zs first (held g k).lie both.lie reads in
    record {
      turns = turns-then m0 m o c.args.slots.now.items ys zs inv.turns both;
      read = ap (λ bs. bs ++ more) reads ∙ append_assoc (all_read m ys) first more ∙ ap (λ bs. all_read m ys ++ bs) whole ∙ inv.read;
      slots = took.slots;
      in_use =
          let all = inv.in_use.0 c.loop-rest-test.true in
          let made = c.make_reserved-slice.ensures.in_use in
          let joined = c.push_slot.ensures.in_use in
          let count = c.min-count.ensures in
          let one = joining-most ys x in
          ((λ some. let alone = full-alone ys x inv.slots.solid (omega (arith, n, count, some)) in omega (arith, all, made, joined, alone, n, count, some)), omega (arith, all, made, joined, one, n));
      capacity = took.capacity ∙ inv.capacity;
      fits = omega (arith, sum, n, inv.fits);
      room = λ some.
          let count = c.min-count.ensures in
          let alone = full-alone ys x inv.slots.solid (omega (arith, n, count, some)) in
          let r = c.push_slot.ensures.room in
          let s = c.make_reserved-slice.ensures.room in
          let t = inv.room (omega (arith, n, some)) in
          omega (arith, n, count, some, alone, r, s, t);
    }
