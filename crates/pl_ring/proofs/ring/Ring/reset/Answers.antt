use Rattle.std.proofs.Common.{◌≡◌, ◌≤◌, ◌∙◌, [], ap, sym, subst, arith, List, ℕ, Option, Some, None}
use Rattle.circular_buffer.specs.Buffer.{Buffer, buffer}
use Rattle.pl_segments.specs.declared.slice.Slice.{Slice}
use Rattle.pl_segments.specs.Segments.{segment_at}
use Rattle.pl_segments.specs.Turns.{Turns}
use Rattle.pl_ring.specs.Pushed.{AreOfRing}
use Rattle.pl_ring.specs.Ring.{Ring, IsBeside, HasPlaces, few_places}
use Rattle.pl_segments.specs.Slots.{total, drop_bytes}
use Rattle.pl_segments.proofs.Fronting.{drop-all}
use Rattle.pl_ring.proofs.ring.Ring.reset.Goals.{in-Some, in_default}
use Rattle.pl_ring.proofs.ring.Ring.reset.Goals as goal

-- all bytes are gone
gone : (xs ys : List Slice) (held : ℕ) → held ≡ total xs → ys ≡ drop_bytes held xs → ys ≡ []
gone xs ys held e d = d ∙ ap (λ k. drop_bytes k xs) e ∙ drop-all xs

-- the few places are kept beside, or were there
fresh : (places : ℕ) (o : Option (Buffer Slice)) (b : Buffer Slice) → IsBeside places o → o ≡ Some b → b ≡ buffer [] few_places
fresh places o b h e = subst (IsBeside places) e h

there : (places : ℕ) (o : Option (Buffer Slice)) → IsBeside places o → o ≡ None → places ≤ few_places
there places o h e = subst (IsBeside places) e h

pub invariant_of-self : goal.invariant_of-self
invariant_of-self g c =
    let k = c.self.inside in
    let had = c.self.invariant.places in
    let none = gone k.slots.items c.drop_front.new.slots.items k.held c.self.invariant.held c.drop_front.ensures.slots in
    let new = c.match-take.self-inside in
    let few : new.few ≡ None =
    elim c.match-take.branch [
      | in-Some w ↦ (λ i. (w.self-inside-is i).few) ∙ c.take.ensures.after
      | in_default w ↦ (λ i. (w.self-inside-is i).few) ∙ c.take.ensures.after
    ] in
    let items : new.slots.items ≡ [] =
    elim c.match-take.branch [
      | in-Some w ↦ (λ i. (w.self-inside-is i).slots.items) ∙ (λ i. (fresh k.slots.capacity k.few w.in-Some.few had.beside (sym c.take.ensures.value ∙ w.in-Some.is) i).items)
      | in_default w ↦ (λ i. (w.self-inside-is i).slots.items) ∙ none
    ] in
    let places : HasPlaces new.slots.capacity None =
    elim c.match-take.branch [
      | in-Some w ↦
          let e : new.slots.capacity ≡ few_places =
          (λ i. (w.self-inside-is i).slots.capacity) ∙ (λ i. (fresh k.slots.capacity k.few w.in-Some.few had.beside (sym c.take.ensures.value ∙ w.in-Some.is) i).capacity) in
          record { even = omega (arith, e); most = omega (arith, e); beside = omega (arith, e) }
      | in_default w ↦
          let e : new.slots.capacity ≡ k.slots.capacity = (λ i. (w.self-inside-is i).slots.capacity) ∙ c.drop_front.ensures.capacity in
          let few_there = there k.slots.capacity k.few had.beside (sym c.take.ensures.value ∙ w.in_default.is) in
          record { even = omega (arith, e, had.even); most = omega (arith, e, had.most); beside = omega (arith, e, few_there) }
    ] in
    record {
      held = sym (ap total items);
      fits = omega arith;
      enough = omega arith;
      places = subst (HasPlaces new.slots.capacity) (sym few) places;
      range = record { whole = omega arith; least = omega arith; most = omega arith };
      slots = subst AreOfRing (sym items) (record { solid = tt; merged = tt });
    }

pub returns-clause-value : goal.returns-clause-value
returns-clause-value g c =
    let k = c.self.inside in
    let none = gone k.slots.items c.drop_front.new.slots.items k.held c.self.invariant.held c.drop_front.ensures.slots in
    let items : c.match-take.self-inside.slots.items ≡ [] =
    elim c.match-take.branch [
      | in-Some w ↦
          (λ i. (w.self-inside-is i).slots.items)
          ∙ (λ i. (fresh k.slots.capacity k.few w.in-Some.few c.self.invariant.places.beside (sym c.take.ensures.value ∙ w.in-Some.is) i).items)
      | in_default w ↦ (λ i. (w.self-inside-is i).slots.items) ∙ none
    ] in
    (λ i. record { slots = items i; capacity = 65536 })

pub returns-clause-turns : goal.returns-clause-turns
returns-clause-turns g c =
    let k = c.self.inside in
    let none = gone k.slots.items c.drop_front.new.slots.items k.held c.self.invariant.held c.drop_front.ensures.slots in
    let slots = ap (λ (r : Ring). r.slots) c.self.view_is in
    subst (λ zs. Turns (segment_at c.args.store.now) zs (segment_at c.drop_front.new.store) []) slots
    (subst (λ zs. Turns (segment_at c.args.store.now) k.slots.items (segment_at c.drop_front.new.store) zs) none c.drop_front.ensures.turns)
