use Rattle.std.proofs.Common.{◌≡◌, ◌∙◌, ap, sym, subst, List, [], ◌∷◌, length, slice_set, Some, Option, arith}
use Rattle.pl_segments.specs.StoreView.{held_of, unless_spare, spare_in, IsSmall, AreSound}
use Rattle.pl_segments.specs.Segments.{Segment, Segments, at, segment_at, live_count}
use Rattle.pl_segments.specs.Slices.{Lies, reads, longer_by}
use Rattle.pl_segments.specs.Turns.{Turns}
use Rattle.pl_segments.proofs.Changing.{room-fits, room-longer, length-reads}
use Rattle.pl_segments.proofs.Storing.{held-is-there, given-sound, unseen-same, spare-unseen, spare-counted}
use Rattle.pl_segments.proofs.Appending.{out-unheld, out-held, out-sound, behind-fits, behind-live, behind-sound, behind-turns, behind-reads, behind-long}
use Rattle.pl_segments.proofs.Turning.{grown-second, grown-turns, grown-reads, grown-filled}
use Rattle.pl_segments.proofs.store.Store.append_slice.Given.{Over}
use Rattle.pl_segments.proofs.store.Store.append_slice.Goals.{After-remove-scratch, After-bytes, After-filled, After-push_reserved}
use Rattle.pl_segments.proofs.store.Store.append_slice.Goals as goal

-- a spare segment is taken out
module _ (g : Over) (c : After-remove-scratch g) where
  abbrev out : List (Option Segment)
  out = c.remove-scratch.new.self.slots

  shows : held_of out ≡ c.args.self.now.held
  shows =
      out-held c.self.inside.segments c.remove-scratch.new.self c.args.self.now.held (ap (λ (d : Segments). d.held) c.self.view_is) c.self.inside.spare.items c.pop.new.self.items c.pop.result
      c.unwrap-key.result c.remove-scratch.result c.self.invariant c.pop.ensures.items c.unwrap-key.ensures c.remove-scratch.ensures.value c.remove-scratch.ensures.updates

  sound : AreSound out c.pop.new.self.items
  sound =
      out-sound c.self.inside.segments c.remove-scratch.new.self c.args.self.now.held (ap (λ (d : Segments). d.held) c.self.view_is) c.self.inside.spare.items c.pop.new.self.items c.pop.result
      c.unwrap-key.result c.remove-scratch.result c.self.invariant c.pop.ensures.items c.unwrap-key.ensures c.remove-scratch.ensures.value c.remove-scratch.ensures.updates

  unheld : c.remove-scratch.result.holders ≡ 0
  unheld =
      out-unheld c.self.inside.segments c.remove-scratch.new.self c.args.self.now.held (ap (λ (d : Segments). d.held) c.self.view_is) c.self.inside.spare.items c.pop.new.self.items c.pop.result
      c.unwrap-key.result c.remove-scratch.result c.self.invariant c.pop.ensures.items c.unwrap-key.ensures c.remove-scratch.ensures.value c.remove-scratch.ensures.updates

-- what the second slice reads is what was copied
seen : (g : Over) (c : After-bytes g) → held_of c.remove-scratch.new.self.slots ≡ c.args.self.now.held → c.bytes.result.now ≡ reads (segment_at c.args.self.now) c.args.second
seen g c shows = c.bytes.ensures ∙ ap (λ (held : List (Option Segment)). reads (at held) c.args.second) shows

copied : (g : Over) (c : After-filled g) → held_of c.remove-scratch.new.self.slots ≡ c.args.self.now.held → c.filled.result.now ≡ reads (segment_at c.args.self.now) c.args.second
copied g c shows =
    c.filled.ensures ∙ ap (λ (s : Segment). s.filled) c.refill.ensures ∙ c.bytes.ensures ∙ ap (λ (held : List (Option Segment)). reads (at held) c.args.second) shows

-- the spare segment is put back, behind the change of the first slice's
module _ (g : Over) (c : After-push_reserved g) (k : After-remove-scratch g) where
  abbrev put : List (Option Segment)
  put = slice_set c.remove-scratch.new.self.slots c.args.first.segment (Some c.append.new.self)

  abbrev after : List (Option Segment)
  after = c.insert_reserved-key.new.self.slots

  unheld-again : c.remove-scratch.result.holders ≡ 0 → c.refill.new.self.holders ≡ 0
  unheld-again none = ap (λ (s : Segment). s.holders) c.refill.ensures ∙ none

  shown : c.remove-scratch.result.holders ≡ 0 → held_of after ≡ held_of put
  shown none =
      unseen-same put after c.insert_reserved-key.result c.insert_reserved-key.ensures.updates.others (ap unless_spare c.insert_reserved-key.ensures.was_vacant)
      (ap unless_spare c.insert_reserved-key.ensures.updates.changed ∙ spare-unseen c.refill.new.self (unheld-again none))

pub invariant_of-self : goal.invariant_of-self
invariant_of-self g c = sound g (goal.at.invariant_of-self g c).After-remove-scratch

pub bytes-requires : goal.bytes-requires
bytes-requires g c = subst (λ (held : List (Option Segment)). Lies (at held) c.args.second) (sym (shows g (goal.at.bytes-requires g c).After-remove-scratch)) c.requires.held.lie.1.0

pub refill-requires : goal.refill-requires
refill-requires g c =
    let v = goal.at.refill-requires g c in
    let l : length c.bytes.result.now ≡ c.args.second.len = ap length (seen g v.After-bytes (shows g v.After-remove-scratch)) ∙ length-reads (segment_at c.args.self.now) c.args.second c.requires.held.lie.1.0 in
    let f = (room-fits (segment_at c.args.self.now) c.args.first c.args.second.len c.requires.some c.requires.fits).1 in
    omega (arith, l, f)

pub index_mut-segment-requires : goal.index_mut-segment-requires
index_mut-segment-requires g c =
    let k = (goal.at.index_mut-segment-requires g c).After-remove-scratch in
    held-is-there (out g k) c.args.self.now.held (shows g k) c.args.first.segment c.requires.held.lie.0.here

pub append-requires : goal.append-requires
append-requires g c =
    let v = goal.at.append-requires g c in
    let s = shows g v.After-remove-scratch in
    behind-fits c.remove-scratch.new.self.slots c.args.self.now.held s c.args.first c.args.second c.index_mut-segment.result.now c.index_mut-segment.ensures.value c.filled.result.now (copied g v.After-filled s)
    c.requires.held.lie.0 c.requires.held.lie.1.0 c.requires.some c.requires.fits

pub invariant_of-self-2 : goal.invariant_of-self-2
invariant_of-self-2 g c =
    let v = goal.at.invariant_of-self-2 g c in
    let s = shows g v.After-remove-scratch in
    let none : c.refill.new.self.holders ≡ 0 = ap (λ (s : Segment). s.holders) c.refill.ensures ∙ unheld g v.After-remove-scratch in
    let u = c.insert_reserved-key.ensures.updates in
    let f : length c.refill.new.self.filled ≡ length c.bytes.result.now = ap (λ (s : Segment). length s.filled) c.refill.ensures in
    let l : length c.bytes.result.now ≡ c.args.second.len = ap length (seen g v.After-bytes s) ∙ length-reads (segment_at c.args.self.now) c.args.second c.requires.held.lie.1.0 in
    let most = (room-fits (segment_at c.args.self.now) c.args.first c.args.second.len c.requires.some c.requires.fits).1 in
    subst (AreSound c.insert_reserved-key.new.self.slots) (sym c.push_reserved.ensures.items)
    (given-sound (slice_set c.remove-scratch.new.self.slots c.args.first.segment (Some c.append.new.self)) c.insert_reserved-key.new.self.slots c.insert_reserved-key.result u.others c.pop.new.self.items
    (behind-sound c.remove-scratch.new.self.slots c.args.self.now.held s c.args.first c.args.second c.index_mut-segment.result.now c.index_mut-segment.ensures.value c.filled.result.now (copied g v.After-filled s)
    c.requires.held.lie.0 c.requires.held.lie.1.0 c.requires.some c.requires.fits c.append.new.self c.append.ensures c.pop.new.self.items (sound g v.After-remove-scratch))
    (ap spare_in c.insert_reserved-key.ensures.was_vacant) (ap spare_in u.changed ∙ spare-counted c.refill.new.self none) (subst IsSmall (sym u.changed) (omega (arith, f, l, most))))

turned : (g : Over) (c : After-push_reserved g) (s : held_of c.remove-scratch.new.self.slots ≡ c.args.self.now.held) (copy : c.filled.result.now ≡ reads (segment_at c.args.self.now) c.args.second)
    (shown : held_of c.insert_reserved-key.new.self.slots ≡ held_of (slice_set c.remove-scratch.new.self.slots c.args.first.segment (Some c.append.new.self)))
    → Turns (segment_at c.args.self.now) (c.args.first ∷ []) (at (held_of c.insert_reserved-key.new.self.slots)) (longer_by c.args.second.len c.args.first ∷ [])
turned g c s copy shown =
    behind-turns c.remove-scratch.new.self.slots c.args.self.now.held s c.args.first c.args.second c.index_mut-segment.result.now c.index_mut-segment.ensures.value c.filled.result.now copy
    c.requires.held.lie.0 c.requires.held.lie.1.0 c.requires.some c.requires.fits c.append.new.self c.append.ensures c.insert_reserved-key.new.self.slots shown

pub release-requires : goal.release-requires
release-requires g c =
    let v = goal.at.release-requires g c in
    let s = shows g v.After-remove-scratch in
    let t = turned g v.After-push_reserved s (copied g v.After-filled s) (shown g v.After-push_reserved v.After-remove-scratch (unheld g v.After-remove-scratch)) in
    let n = at (held_of c.insert_reserved-key.new.self.slots) in
    grown-second (segment_at c.args.self.now) n n c.args.first c.args.second (longer_by c.args.second.len c.args.first) c.requires.held t

pub returns-clause-in_use : goal.returns-clause-in_use
returns-clause-in_use g c =
    let v = goal.at.returns-clause-in_use g c in
    let s = shows g v.After-remove-scratch in
    let gone = c.release.ensures.in_use in
    let same : live_count (held_of c.insert_reserved-key.new.self.slots) ≡ live_count c.args.self.now.held =
    ap live_count (shown g v.After-push_reserved v.After-remove-scratch (unheld g v.After-remove-scratch))
    ∙ behind-live c.remove-scratch.new.self.slots c.args.self.now.held s c.args.first c.args.second c.index_mut-segment.result.now c.index_mut-segment.ensures.value c.filled.result.now (copied g v.After-filled s)
    c.requires.held.lie.0 c.requires.held.lie.1.0 c.requires.some c.requires.fits c.append.new.self c.append.ensures in
    omega (arith, gone, same)

pub returns-clause-turns : goal.returns-clause-turns
returns-clause-turns g c =
    let v = goal.at.returns-clause-turns g c in
    let s = shows g v.After-remove-scratch in
    let t = turned g v.After-push_reserved s (copied g v.After-filled s) (shown g v.After-push_reserved v.After-remove-scratch (unheld g v.After-remove-scratch)) in
    let n = at (held_of c.insert_reserved-key.new.self.slots) in
    grown-turns (segment_at c.args.self.now) n (segment_at c.release.new.self) c.args.first c.args.second (longer_by c.args.second.len c.args.first) c.requires.held t c.release.ensures.turns

pub returns-clause-reads : goal.returns-clause-reads
returns-clause-reads g c =
    let v = goal.at.returns-clause-reads g c in
    let s = shows g v.After-remove-scratch in
    let copy = copied g v.After-filled s in
    let show = shown g v.After-push_reserved v.After-remove-scratch (unheld g v.After-remove-scratch) in
    let t = turned g v.After-push_reserved s copy show in
    let n = at (held_of c.insert_reserved-key.new.self.slots) in
    grown-reads (segment_at c.args.self.now) n (segment_at c.release.new.self) c.args.first c.args.second (longer_by c.args.second.len c.args.first) c.requires.held t c.release.ensures.turns
    ∙ behind-reads c.remove-scratch.new.self.slots c.args.self.now.held s c.args.first c.args.second c.index_mut-segment.result.now c.index_mut-segment.ensures.value c.filled.result.now copy
    c.requires.held.lie.0 c.requires.held.lie.1.0 c.requires.some c.requires.fits c.append.new.self c.append.ensures c.insert_reserved-key.new.self.slots show

pub returns-clause-after : goal.returns-clause-after
returns-clause-after g c =
    let v = goal.at.returns-clause-after g c in
    let s = shows g v.After-remove-scratch in
    let copy = copied g v.After-filled s in
    let show = shown g v.After-push_reserved v.After-remove-scratch (unheld g v.After-remove-scratch) in
    let t = turned g v.After-push_reserved s copy show in
    let m = segment_at c.args.self.now in
    let n = at (held_of c.insert_reserved-key.new.self.slots) in
    let o = segment_at c.release.new.self in
    let same = grown-filled m n o c.args.first c.args.second (longer_by c.args.second.len c.args.first) c.requires.held t c.release.ensures.turns c.release.ensures.released in
    let long =
    behind-long c.remove-scratch.new.self.slots c.args.self.now.held s c.args.first c.args.second c.index_mut-segment.result.now c.index_mut-segment.ensures.value c.filled.result.now copy
    c.requires.held.lie.0 c.requires.held.lie.1.0 c.requires.some c.requires.fits c.append.new.self c.append.ensures c.insert_reserved-key.new.self.slots show in
    room-longer m o c.args.first c.args.second.len c.requires.some c.requires.fits (ap length same ∙ long)
