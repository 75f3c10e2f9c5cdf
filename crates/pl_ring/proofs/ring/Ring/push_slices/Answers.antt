use Rattle.std.proofs.Common.{◌≡◌, ◌+◌, ◌*◌, ◌++◌, ◌∙◌, ap, sym, subst, length, arith}
use Rattle.pl_segments.specs.Segments.{segment_at}
use Rattle.pl_segments.specs.Slices.{all_read}
use Rattle.pl_segments.specs.Turns.{Holds}
use Rattle.pl_ring.specs.Ring.{place_size, Ring, IsCapacity, IsBeside}
use Rattle.pl_segments.specs.Slots.{total}
use Rattle.pl_ring.specs.Merging.{IsFront}
use Rattle.pl_ring.specs.Parts.{fresh}
use Rattle.pl_segments.proofs.SlotLemmas.{total-read}
use Rattle.pl_ring.proofs.Merging.{front-merges}
use Rattle.pl_segments.proofs.Pushing.{total-pushed}
use Rattle.pl_ring.proofs.ring.Ring.push_slices.Goals as goal

pub invariant_of-self-2 : goal.invariant_of-self-2
invariant_of-self-2 g c =
    let k = c.self.inside in
    let m = segment_at c.args.store.now in
    let list = c.args.slices.now in
    let slots : k.slots.items ≡ c.args.self.now.slots = ap (λ (r : Ring). r.slots) c.self.view_is in
    let room : place_size * k.slots.capacity ≡ c.args.self.now.capacity = ap (λ (r : Ring). r.capacity) c.self.view_is in
    let held : Holds m k.slots.items = subst (Holds m) (sym slots) c.requires.held in
    let is = c.as_slice.ensures in
    let done = c.in_ok-bytes.ensures in
    let sum = done.bytes ∙ ap total is in
    let read = done.read ∙ ap (λ zs. all_read m k.slots.items ++ all_read m zs) is in
    let more : total c.push_slices.new.slots.items ≡ total k.slots.items + length (all_read m list) =
    total-pushed m (segment_at c.push_slices.new.store) k.slots.items c.push_slices.new.slots.items (all_read m list) held.lie done.turns.lie read in
    let len : length (all_read m list) ≡ total list = total-read m list c.requires.lie in
    let was = ap total slots in
    let inv = c.self.invariant in
    let places = done.capacity in
    record {
      held = omega (arith, more, inv.held, sum, len);
      fits = omega (arith, was, room, inv.held, c.requires.fits, sum, places);
      range = subst (λ p. IsCapacity (place_size * p)) (sym places) inv.range;
      solid = done.solid;
      merged = done.merged;
      beside = subst (λ p. IsBeside (place_size * p) k.first) (sym places) inv.beside;
    }

pub returns-clause-front_in_use : goal.returns-clause-front_in_use
returns-clause-front_in_use g c = λ front.
    let most = front-merges c.self.inside.slots.items c.as_slice.result.now (subst IsFront (sym c.as_slice.ensures) front) in
    let made = c.in_ok-bytes.ensures.in_use in
    omega (arith, most, made)

pub returns-clause-front_parts : goal.returns-clause-front_parts
returns-clause-front_parts g c = λ front.
    let slots = ap (λ (r : Ring). r.slots) c.self.view_is in
    let is = c.as_slice.ensures in
    let most = front-merges c.self.inside.slots.items c.as_slice.result.now (subst IsFront (sym is) front) in
    let made = c.in_ok-bytes.ensures.parts in
    let same : fresh (c.self.inside.slots.items ++ c.as_slice.result.now) c.push_slices.new.slots.items ≡ fresh (c.args.self.now.slots ++ c.args.slices.now) c.push_slices.new.slots.items =
    (λ i. fresh (slots i ++ is i) c.push_slices.new.slots.items) in
    omega (arith, most, made, same)
