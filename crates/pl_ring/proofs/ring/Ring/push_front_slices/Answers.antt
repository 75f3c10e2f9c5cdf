use Rattle.std.proofs.Common.{◌≡◌, ◌+◌, ◌++◌, ◌∙◌, ap, sym, subst, length, arith}
use Rattle.pl_segments.specs.Segments.{segment_at}
use Rattle.pl_segments.specs.Slices.{all_read}
use Rattle.pl_segments.specs.Turns.{Holds}
use Rattle.pl_ring.specs.Ring.{Ring, HasPlaces}
use Rattle.pl_segments.specs.Slots.{total}
use Rattle.pl_ring.specs.Merging.{IsFront}
use Rattle.pl_ring.specs.Parts.{fresh}
use Rattle.pl_segments.proofs.SlotLemmas.{total-read}
use Rattle.pl_ring.proofs.Merging.{front-merges}
use Rattle.pl_segments.proofs.Pushing.{total-pushed}
use Rattle.pl_ring.proofs.ring.Ring.push_front_slices.Goals as goal

pub invariant_of-self-2 : goal.invariant_of-self-2
invariant_of-self-2 g c =
    let k = c.self.inside in
    let m = segment_at c.args.store.now in
    let list = c.args.slices.now in
    let before = c.make_places.new.slots.items in
    let items : before ≡ k.slots.items = c.make_places.ensures.items in
    let slots : before ≡ c.args.self.now.slots = items ∙ ap (λ (r : Ring). r.slots) c.self.view_is in
    let room : k.capacity ≡ c.args.self.now.capacity = ap (λ (r : Ring). r.capacity) c.self.view_is in
    let held : Holds m before = subst (Holds m) (sym slots) c.requires.held in
    let is = c.as_slice-2.ensures in
    let done = c.in_ok-push_slices.ensures.pushed in
    let sum = c.requires.fits.bytes in
    let read = done.gains.read ∙ ap (λ zs. all_read m before ++ all_read m zs) is in
    let more : total c.push_slices.new.slots.items ≡ total before + length (all_read m list) =
    total-pushed m (segment_at c.push_slices.new.store) before c.push_slices.new.slots.items (all_read m list) held.lie done.gains.turns.lie read in
    let len : length (all_read m list) ≡ total list = total-read m list c.requires.fits.lie in
    let same = ap total items in
    let was = ap total slots in
    let inv = c.self.invariant in
    let places = done.capacity in
    let enough = c.in_ok-make_places.ensures.enough in
    record {
      held = omega (arith, more, same, inv.held, sum, len);
      fits = omega (arith, was, same, room, inv.held, c.requires.fits.fits, sum);
      enough = omega (arith, was, same, room, enough, inv.held, c.requires.fits.fits, sum, places);
      places = subst (λ p. HasPlaces p c.make_places.new.few) (sym places) c.in_ok-make_places.ensures.places;
      range = inv.range;
      slots = done.slots;
    }

pub returns-clause-makes : goal.returns-clause-makes
returns-clause-makes g c =
    let slots = c.make_places.ensures.items ∙ ap (λ (r : Ring). r.slots) c.self.view_is in
    let is = c.as_slice-2.ensures in
    let xs = c.make_places.new.slots.items in
    let ds = c.as_slice-2.result.now in
    let new = c.push_slices.new.slots.items in
    let most = front-merges xs ds (subst IsFront (sym is) c.requires.fits.front) in
    let makes = c.in_ok-push_slices.ensures.merges.makes in
    let same : fresh (xs ++ ds) new ≡ fresh (c.args.self.now.slots ++ c.args.slices.now) new = (λ i. fresh (slots i ++ is i) new) in
    record {
      slots = omega (arith, most, makes.slots, same);
      segments = omega (arith, most, makes.segments);
    }
