use Rattle.std.proofs.Common.{◌≡◌, ◌∙◌, ◌++◌, List, refl, not, ap, sym, subst, drop, take, arith}
use Rattle.std.proofs.lemmas.List.{append_assoc}
use Rattle.pl_segments.specs.declared.slice.Slice.{Slice}
use Rattle.pl_segments.specs.Segments.{Map, Segments, segment_at, live_count}
use Rattle.pl_segments.specs.Slices.{all_read}
use Rattle.pl_segments.specs.Turns.{Holds, Turns}
use Rattle.pl_segments.proofs.Turning.{turns-then, holds-turned, turns-behind, turns-before, naming-append, read-append, lie-left, lie-right, others-read}
use Rattle.pl_segments.proofs.Together.{holds-left, holds-right}
use Rattle.pl_segments.proofs.Fronting.{front-solid, front-total}
use Rattle.pl_segments.specs.Slots.{total, solid_of, front_of}
use Rattle.pl_ring.specs.Merging.{lens, merges_onto}
use Rattle.pl_ring.specs.Parts.{is_among, fresh}
use Rattle.pl_ring.specs.Pushed.{CanTake}
use Rattle.pl_ring.proofs.Counting.{fresh-first}
use Rattle.pl_ring.proofs.Leaving.{parts-read}
use Rattle.pl_ring.proofs.Merging.{solid-same, front-merges}
use Rattle.pl_ring.proofs.push.move_slices.Given.{Over}
use Rattle.pl_ring.proofs.push.move_slices.Goals.{After-leave_front}
use Rattle.pl_ring.proofs.push.move_slices.Goals as goal

pub plan_of_front-plan-requires-clause-ring : goal.plan_of_front-plan-requires-clause-ring
plan_of_front-plan-requires-clause-ring g c =
    subst (CanTake c.args.to.now) (sym (ap total c.requires.front ∙ front-total c.args.from.now.items c.args.count c.requires.count)) c.requires.ring

pub plan_of_front-plan-requires-clause-front : goal.plan_of_front-plan-requires-clause-front
plan_of_front-plan-requires-clause-front g c =
    record { source = c.args.from.now.items; count = c.args.count; solid = c.requires.source.solid; merged = c.requires.source.merged; is = c.requires.front }

pub leave_front-requires-clause-held : goal.leave_front-requires-clause-held
leave_front-requires-clause-held g c =
    subst (λ (s : Segments). Holds (segment_at s) c.args.from.now.items) (sym c.reserve.ensures.kept) (holds-right (segment_at c.args.store.now) c.args.to.now.items c.args.from.now.items c.requires.held)

-- the first slots of the one are held beside those of both
module _ (g : Over) (c : After-leave_front g) where
  abbrev m : Map
  m = segment_at c.args.store.now

  abbrev n : Map
  n = segment_at c.leave_front.new.store

  abbrev to : List Slice
  to = c.args.to.now.items

  abbrev source : List Slice
  source = c.args.from.now.items

  abbrev front : List Slice
  front = front_of c.args.count c.args.from.now.items

  abbrev left : List Slice
  left = c.leave_front.new.slots.items

  all_solid : solid_of c.args.slices.now ≡ front
  all_solid = ap solid_of c.requires.front ∙ solid-same front (front-solid source c.args.count c.requires.source.solid)

  went : Turns m source n (front ++ left)
  went = subst (λ (s : Segments). Turns (segment_at s) source n (front ++ left)) c.reserve.ensures.kept c.leave_front.ensures.turns

  beside : Turns m (to ++ source) n ((to ++ front) ++ left)
  beside = subst (Turns m (to ++ source) n) (sym (append_assoc to front left)) (turns-behind m n to source (front ++ left) c.requires.held went)

  held : Holds n ((to ++ front) ++ left)
  held = holds-turned m n (to ++ source) ((to ++ front) ++ left) c.requires.held beside

  to_held : Holds n (to ++ solid_of c.args.slices.now)
  to_held = subst (λ zs. Holds n (to ++ zs)) (sym all_solid) (holds-left n (to ++ front) left held)

  -- what both read
  parts : (all_read n front ≡ take c.args.count (all_read m source)) × (all_read n left ≡ drop c.args.count (all_read m source))
  parts = parts-read n (all_read m source) c.args.count front left went.lie (front-total source c.args.count c.requires.count) (c.leave_front.ensures.read ∙ ap (λ (s : Segments). all_read (segment_at s) source) c.reserve.ensures.kept)

  to_reads : all_read n to ≡ all_read m to
  to_reads = others-read m n source (front ++ left) went to (λ key. let f = c.requires.held.few key in let e = naming-append to source key in omega (arith, f, e)) (lie-left m to source c.requires.held.lie)

pub push_held-requires-clause-held : goal.push_held-requires-clause-held
push_held-requires-clause-held g c = to_held g (goal.at.push_held-requires-clause-held g c).After-leave_front

pub push_held-requires-clause-ring : goal.push_held-requires-clause-ring
push_held-requires-clause-ring g c =
    subst (CanTake c.args.to.now) (sym (ap total c.requires.front ∙ front-total c.args.from.now.items c.args.count c.requires.count)) c.requires.ring

pub returns-clause-moved : goal.returns-clause-moved
returns-clause-moved g c =
    let w = (goal.at.returns-clause-moved g c).After-leave_front in
    let k = segment_at c.push_held.new.store in
    let got = c.push_held.new.slots.items in
    let took = c.push_held.ensures.took in
    let t : Turns (n g w) (to g w ++ front g w) k got = subst (λ zs. Turns (n g w) (to g w ++ zs) k got) (all_solid g w) took.turns in
    record {
      passed = record {
        turns = turns-then (m g w) (n g w) k (to g w ++ source g w) ((to g w ++ front g w) ++ left g w) (got ++ left g w) (beside g w) (turns-before (n g w) k (to g w ++ front g w) got (left g w) (held g w) t);
        slots = c.leave_front.ensures.slots;
        rest =
            others-read (n g w) k (to g w ++ front g w) got t (left g w)
            (λ key. let f = (held g w).few key in let e = naming-append (to g w ++ front g w) (left g w) key in omega (arith, f, e))
            (lie-right (n g w) (to g w ++ front g w) (left g w) (held g w).lie)
            ∙ (parts g w).1;
        read = took.read ∙ ap (λ zs. all_read (n g w) (to g w ++ zs)) (all_solid g w) ∙ read-append (n g w) (to g w) (front g w) ∙ (λ i. to_reads g w i ++ (parts g w).0 i);
      };
      slots = took.slots;
      given = c.leave_front.ensures.capacity;
      capacity = took.capacity;
    }

pub returns-clause-makes : goal.returns-clause-makes
returns-clause-makes g c =
    let w = (goal.at.returns-clause-makes g c).After-leave_front in
    let e = c.push_held.ensures in
    let ring = c.requires.source in
    let three = front-merges (to g w) (front g w) (record { source = source g w; count = c.args.count; solid = ring.solid; merged = ring.merged; is = refl }) in
    let same = ap (λ zs. merges_onto (to g w) (lens zs)) (all_solid g w ∙ sym (solid-same (front g w) (front-solid (source g w) c.args.count ring.solid))) in
    record {
      slots =
          let p = e.parts (λ x. not (is_among (to g w ++ front g w) x)) in
          let z = fresh-first (to g w) (front g w) in
          let q = ap (λ zs. fresh (to g w ++ front g w) (to g w ++ zs)) (all_solid g w ∙ sym (solid-same (front g w) (front-solid (source g w) c.args.count ring.solid))) in
          omega (arith, p, z, q, three, same);
      segments =
          let kept = ap (λ (s : Segments). live_count s.held) c.reserve.ensures.kept in
          let left = c.leave_front.ensures.kept.0 in
          omega (arith, e.in_use, left, kept, three, same);
    }
