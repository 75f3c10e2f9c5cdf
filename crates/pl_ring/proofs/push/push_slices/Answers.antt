use Rattle.std.proofs.Common.{◌≡◌, ◌∙◌, ◌++◌, [], not, ap, subst, arith}
use Rattle.pl_segments.specs.Segments.{Map, Segments, segment_at, live_count}
use Rattle.pl_segments.specs.Slices.{all_read}
use Rattle.pl_segments.specs.Turns.{Turns}
use Rattle.pl_segments.proofs.Turning.{turns-then, holds-turned}
use Rattle.pl_segments.specs.Slots.{solid_of}
use Rattle.pl_segments.proofs.LastSlot.{part-most}
use Rattle.pl_segments.proofs.Pushing.{pushes-turns, pushes-read}
use Rattle.pl_ring.specs.Parts.{is_among}
use Rattle.pl_ring.proofs.Counting.{fresh-first}
use Rattle.pl_ring.proofs.push.push_slices.Given.{Over}
use Rattle.pl_ring.proofs.push.push_slices.Goals.{After-hold_all}
use Rattle.pl_ring.proofs.push.push_slices.Goals as goal

-- the slices are held beside the slots
module _ (g : Over) (c : After-hold_all g) where
  abbrev slots : Map
  slots = segment_at c.args.store.now

  same : segment_at c.reserve.new.self ≡ slots
  same = ap (λ (s : Segments). segment_at s) c.reserve.ensures.kept

  held : Turns slots [] (segment_at c.hold_all.new.store) (solid_of c.args.slices.now)
  held = subst (λ m. Turns m [] (segment_at c.hold_all.new.store) (solid_of c.args.slices.now)) same c.hold_all.ensures.turns

  beside : Turns slots c.args.slots.now.items (segment_at c.hold_all.new.store) (c.args.slots.now.items ++ solid_of c.args.slices.now)
  beside = pushes-turns slots (segment_at c.hold_all.new.store) c.args.slots.now.items (solid_of c.args.slices.now) c.requires.held held

pub push_held-requires-clause-held : goal.push_held-requires-clause-held
push_held-requires-clause-held g c =
    holds-turned (segment_at c.args.store.now) (segment_at c.hold_all.new.store) c.args.slots.now.items (c.args.slots.now.items ++ solid_of c.args.slices.now)
    c.requires.held (beside g (goal.at.push_held-requires-clause-held g c).After-hold_all)

pub returns-clause-pushed : goal.returns-clause-pushed
returns-clause-pushed g c =
    let k = (goal.at.returns-clause-pushed g c).After-hold_all in
    let m = segment_at c.args.store.now in
    let n = segment_at c.hold_all.new.store in
    let xs = c.args.slots.now.items in
    let ds = solid_of c.args.slices.now in
    let took = c.push_held.ensures.took in
    record {
      gains = record {
        turns = turns-then m n (segment_at c.push_held.new.store) xs (xs ++ ds) c.push_held.new.slots.items (beside g k) took.turns;
        read = took.read ∙ pushes-read m n xs ds c.requires.held (held g k) ∙ ap (λ bs. all_read m xs ++ bs) (c.hold_all.ensures.read ∙ ap (λ (o : Map). all_read o c.args.slices.now) (same g k));
      };
      slots = took.slots;
      capacity = took.capacity;
    }

pub returns-clause-merges : goal.returns-clause-merges
returns-clause-merges g c =
    let plan = c.requires.plan in
    let e = c.push_held.ensures in
    record {
      count = omega (arith, plan.merges, plan.slots, e.count);
      makes = record {
        slots =
            let p = e.parts (λ x. not (is_among (c.args.slots.now.items ++ c.args.slices.now) x)) in
            let z = fresh-first c.args.slots.now.items c.args.slices.now in
            omega (arith, p, z);
        segments =
            let kept = ap (λ (s : Segments). live_count s.held) c.reserve.ensures.kept in
            omega (arith, e.in_use, c.hold_all.ensures.in_use, kept);
      };
    }

pub push_held-requires-clause-room : goal.push_held-requires-clause-room
push_held-requires-clause-room g c =
    let part = part-most (segment_at c.hold_all.new.store) c.args.slots.now.items in
    let plan = c.requires.plan in
    omega (arith, part, plan.merges, plan.slots, plan.more, c.in_ok-reserve.ensures.room, c.hold_all.ensures.room, c.len.ensures.len)
