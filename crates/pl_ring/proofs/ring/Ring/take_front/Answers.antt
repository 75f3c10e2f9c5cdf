use Rattle.std.proofs.Common.{◌≡◌, ◌+◌, ◌∙◌, ap, sym, subst, length, take, arith}
use Rattle.std.proofs.lemmas.List.{length-take}
use Rattle.pl_segments.specs.Segments.{segment_at}
use Rattle.pl_segments.specs.Slices.{AllLie, all_read}
use Rattle.pl_segments.specs.Slots.{total}
use Rattle.pl_segments.proofs.SlotLemmas.{total-read}
use Rattle.pl_segments.proofs.Turning.{lie-left, lie-right}
use Rattle.pl_segments.proofs.Pushing.{total-pushed}
use Rattle.pl_ring.specs.Ring.{Ring, HasPlaces}
use Rattle.pl_ring.proofs.Dropping.{dropped}
use Rattle.pl_ring.proofs.ring.Ring.take_front.Goals as goal

pub invariant_of-self-2 : goal.invariant_of-self-2
invariant_of-self-2 g c =
    let k = c.self.inside in
    let m = segment_at c.args.store.now in
    let source = c.other.inside.slots.items in
    let before = c.make_places.new.slots.items in
    let got = c.move_front.new.to.items in
    let items : before ≡ k.slots.items = c.make_places.ensures.items in
    let slots : before ≡ c.args.self.now.slots = items ∙ ap (λ (r : Ring). r.slots) c.self.view_is in
    let others : source ≡ c.args.other.now.slots = ap (λ (r : Ring). r.slots) c.other.view_is in
    let room : k.capacity ≡ c.args.self.now.capacity = ap (λ (r : Ring). r.capacity) c.self.view_is in
    let moved = c.in_ok-move_front.ensures.moved in
    let lie : AllLie m before = subst (AllLie m) (sym slots) (lie-left m c.args.self.now.slots c.args.other.now.slots c.requires.held.lie) in
    let source_lie : AllLie m source = subst (AllLie m) (sym others) (lie-right m c.args.self.now.slots c.args.other.now.slots c.requires.held.lie) in
    let bytes = take c.args.count (all_read m source) in
    let more : total got ≡ total before + length bytes =
    total-pushed m (segment_at c.move_front.new.store) before got bytes lie (lie-left (segment_at c.move_front.new.store) got c.move_front.new.from.items moved.passed.turns.lie) moved.passed.read in
    let len = length-take c.args.count (all_read m source) in
    let sum = total-read m source source_lie in
    let has = ap total others in
    let same = ap total items in
    let was = ap total slots in
    let inv = c.self.invariant in
    let places = moved.capacity in
    let enough = c.in_ok-make_places.ensures.enough in
    record {
      held = omega (arith, more, same, inv.held, len, sum, has, c.requires.count);
      fits = omega (arith, was, same, room, inv.held, c.requires.fits);
      enough = omega (arith, enough, places);
      places = subst (λ p. HasPlaces p c.make_places.new.few) (sym places) c.in_ok-make_places.ensures.places;
      range = inv.range;
      slots = moved.slots;
    }

pub invariant_of-other-2 : goal.invariant_of-other-2
invariant_of-other-2 g c =
    let moved = c.in_ok-move_front.ensures.moved in
    let was = ap (λ (r : Ring). total r.slots) c.other.view_is in
    dropped c.other.inside c.move_front.new.from c.args.count c.other.invariant (omega (arith, was, c.requires.count)) moved.passed.slots moved.given
