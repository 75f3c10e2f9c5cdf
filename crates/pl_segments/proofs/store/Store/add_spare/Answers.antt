use Rattle.std.proofs.Common.{◌≡◌, ◌≢◌, ◌≤◌, ◌∙◌, ◌++◌, ◌∷◌, [], ℕ, List, Option, Some, None, ap, sym, subst, length, arith}
use Rattle.slab.specs.Slab.{Slab}
use Rattle.pl_segments.specs.StoreView.{held_of, unless_spare, spare_in, IsSmall, AreSound}
use Rattle.pl_segments.specs.Segments.{segment_size, Segment, Segments, at}
use Rattle.pl_segments.proofs.Storing.{given-sound, unseen-same, spare-unseen, spare-counted}
use Rattle.pl_segments.proofs.store.Store.add_spare.Given.{Over}
use Rattle.pl_segments.proofs.store.Store.add_spare.Goals.{After-insert_reserved-key}
use Rattle.pl_segments.proofs.store.Store.add_spare.Goals as goal

-- a segment that nobody holds comes under a vacant key
module _ (g : Over) (c : After-insert_reserved-key g) where
  abbrev slots : List (Option Segment)
  slots = c.self.inside.segments.slots

  abbrev after : List (Option Segment)
  after = c.insert_reserved-key.new.self.slots

  abbrev key : ℕ
  key = c.insert_reserved-key.result

  room : c.reserve.new.self.slots ≡ slots
  room = ap (λ (s : Slab Segment). s.slots) c.reserve.ensures.rest_kept

  others : (q : ℕ) → q ≢ key → at after q ≡ at slots q
  others q n = c.insert_reserved-key.ensures.updates.others q n ∙ ap (λ ss. at ss q) room

  vacant : at slots key ≡ None
  vacant = ap (λ ss. at ss key) (sym room) ∙ c.insert_reserved-key.ensures.was_vacant

  unheld : c.new-2.result.holders ≡ 0
  unheld = ap (λ (s : Segment). s.holders) c.new-2.ensures

  here : at after key ≡ Some c.new-2.result
  here = c.insert_reserved-key.ensures.updates.changed

  small : length c.new-2.result.filled ≤ segment_size
  small =
      let f : length c.new-2.result.filled ≡ length c.in_ok-block.block = ap (λ (s : Segment). length s.filled) c.new-2.ensures in
      let e : length c.in_ok-block.block ≡ 0 = ap length c.in_ok-block.ensures in
      omega (arith, f, e)

pub invariant_of-self-2 : goal.invariant_of-self-2
invariant_of-self-2 g c =
    let k = (goal.at.invariant_of-self-2 g c).After-insert_reserved-key in
    subst (AreSound (after g k)) (sym (c.push_reserved.ensures.items ∙ ap (λ (ks : List ℕ). ks ++ key g k ∷ []) c.try_reserve.ensures.items))
    (given-sound (slots g k) (after g k) (key g k) (others g k) c.self.inside.spare.items c.self.invariant (ap spare_in (vacant g k))
    (ap spare_in (here g k) ∙ spare-counted c.new-2.result (unheld g k)) (subst IsSmall (sym (here g k)) (small g k)))

pub returns-clause-kept : goal.returns-clause-kept
returns-clause-kept g c =
    let k = (goal.at.returns-clause-kept g c).After-insert_reserved-key in
    let held : held_of (after g k) ≡ c.args.self.now.held =
    unseen-same (slots g k) (after g k) (key g k) (others g k) (ap unless_spare (vacant g k)) (ap unless_spare (here g k) ∙ spare-unseen c.new-2.result (unheld g k))
    ∙ ap (λ (d : Segments). d.held) c.self.view_is in
    (λ i. record { held = held i; room = length c.push_reserved.new.self.items })
