use Rattle.std.proofs.Common.{◌≡◌, ◌+◌, ◌∙◌, ap, sym, subst, length, arith}
use Rattle.pl_segments.specs.Segments.{segment_at}
use Rattle.pl_segments.specs.Turns.{Holds}
use Rattle.pl_ring.specs.Ring.{Ring, HasPlaces}
use Rattle.pl_segments.specs.Slots.{total}
use Rattle.pl_segments.proofs.Pushing.{total-pushed}
use Rattle.pl_ring.proofs.ring.Ring.push_bytes.Goals as goal

pub invariant_of-self-2 : goal.invariant_of-self-2
invariant_of-self-2 g c =
    let k = c.self.inside in
    let before = c.make_places.new.slots.items in
    let items : before ≡ k.slots.items = c.make_places.ensures.items in
    let slots : before ≡ c.args.self.now.slots = items ∙ ap (λ (r : Ring). r.slots) c.self.view_is in
    let room : k.capacity ≡ c.args.self.now.capacity = ap (λ (r : Ring). r.capacity) c.self.view_is in
    let held : Holds (segment_at c.args.store.now) before = subst (Holds (segment_at c.args.store.now)) (sym slots) c.requires.held in
    let done = c.in_ok-push_bytes.ensures.pushed in
    let more : total c.push_bytes.new.slots.items ≡ total before + length c.args.bytes.now =
    total-pushed (segment_at c.args.store.now) (segment_at c.push_bytes.new.store) before c.push_bytes.new.slots.items c.args.bytes.now held.lie done.gains.turns.lie done.gains.read in
    let same = ap total items in
    let was = ap total slots in
    let inv = c.self.invariant in
    let places = done.capacity in
    let enough = c.in_ok-make_places.ensures.enough in
    record {
      held = omega (arith, more, same, inv.held);
      fits = omega (arith, was, same, room, inv.held, c.requires.fits);
      enough = omega (arith, enough, places);
      places = subst (λ p. HasPlaces p c.make_places.new.few) (sym places) c.in_ok-make_places.ensures.places;
      range = inv.range;
      slots = done.slots;
    }
