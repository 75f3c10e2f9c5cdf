use Rattle.std.proofs.Common.{◌≡◌, ◌+◌, ◌≤◌, ◌∙◌, ap, sym, subst, List, Some, Option, length, arith}
use Rattle.pl_segments.specs.StoreView.{held_of, IsSmall}
use Rattle.pl_segments.specs.Segments.{segment_size, Segment, Segments, at, set_at, segment_at, filled, bytes_in, overwritten}
use Rattle.pl_segments.proofs.Storing.{held-is-there, lent-held, lent-was, lent-set, lent-live, lent-sound}
use Rattle.pl_segments.proofs.Overwriting.{length-splice, turns-over, reads-over}
use Rattle.pl_segments.proofs.store.Store.overwrite.Given.{Over}
use Rattle.pl_segments.proofs.store.Store.overwrite.Goals.{After-index_mut-segment, After-overwrite}
use Rattle.pl_segments.proofs.store.Store.overwrite.Goals as goal

-- the segment, before bytes are written over
module _ (g : Over) (c : After-index_mut-segment g) where
  abbrev x : Segment
  x = c.index_mut-segment.result.now

  abbrev slots : List (Option Segment)
  slots = c.self.inside.segments.slots

  same : held_of slots ≡ c.args.self.now.held
  same = ap (λ (d : Segments). d.held) c.self.view_is

  was : at c.args.self.now.held c.args.slice.segment ≡ Some x
  was = lent-was slots c.args.self.now.held same c.args.slice.segment x c.index_mut-segment.ensures.value c.requires.lies.here

  before : 1 ≤ x.holders
  before = lent-held slots c.args.self.now.held same c.args.slice.segment x c.index_mut-segment.ensures.value c.requires.lies.here

  fits : c.args.slice.from + c.args.place + length c.args.bytes.now ≤ length x.filled
  fits =
      let f : length (filled (segment_at c.args.self.now) c.args.slice.segment) ≡ length x.filled = ap (λ (o : Option Segment). length (bytes_in o)) was in
      omega (arith, f, c.requires.lies.within, c.requires.within)

now : (g : Over) (c : After-overwrite g) → 1 ≤ c.index_mut-segment.result.now.holders → 1 ≤ c.overwrite.new.self.holders
now g c b = let h : c.overwrite.new.self.holders ≡ c.index_mut-segment.result.now.holders = ap (λ (s : Segment). s.holders) c.overwrite.ensures in omega (arith, h, b)

pub index_mut-segment-requires : goal.index_mut-segment-requires
index_mut-segment-requires g c = held-is-there c.self.inside.segments.slots c.args.self.now.held (ap (λ (d : Segments). d.held) c.self.view_is) c.args.slice.segment c.requires.lies.here

pub overwrite-requires : goal.overwrite-requires
overwrite-requires g c = fits g (goal.at.overwrite-requires g c).After-index_mut-segment

pub invariant_of-self : goal.invariant_of-self
invariant_of-self g c =
    let v = goal.at.invariant_of-self g c in
    let k = v.After-index_mut-segment in
    let y = c.overwrite.new.self in
    let f : length y.filled ≡ length (x g k).filled = ap (λ (s : Segment). length s.filled) c.overwrite.ensures ∙ length-splice (x g k).filled c.args.bytes.now (c.args.slice.from + c.args.place) (fits g k) in
    let l : length (x g k).filled ≤ segment_size = subst IsSmall c.index_mut-segment.ensures.value (c.self.invariant.small c.args.slice.segment) in
    lent-sound (slots g k) c.args.self.now.held (same g k) c.args.slice.segment (x g k) c.index_mut-segment.ensures.value c.requires.lies.here y (now g v.After-overwrite (before g k))
    c.self.inside.spare.items c.self.invariant (omega (arith, f, l))

pub returns-clause-overwritten : goal.returns-clause-overwritten
returns-clause-overwritten g c =
    let v = goal.at.returns-clause-overwritten g c in
    let k = v.After-index_mut-segment in
    lent-set (slots g k) c.args.self.now.held (same g k) c.args.slice.segment (x g k) c.index_mut-segment.ensures.value c.requires.lies.here c.overwrite.new.self (now g v.After-overwrite (before g k))
    ∙ ap (λ (s : Segment). set_at (segment_at c.args.self.now) c.args.slice.segment (Some s)) c.overwrite.ensures
    ∙ ap (λ (o : Option Segment). set_at (segment_at c.args.self.now) c.args.slice.segment (overwritten (c.args.slice.from + c.args.place) c.args.bytes.now o)) (sym (was g k))

pub returns-clause-in_use : goal.returns-clause-in_use
returns-clause-in_use g c =
    let v = goal.at.returns-clause-in_use g c in
    let k = v.After-index_mut-segment in
    lent-live (slots g k) c.args.self.now.held (same g k) c.args.slice.segment (x g k) c.index_mut-segment.ensures.value c.requires.lies.here c.overwrite.new.self (now g v.After-overwrite (before g k))

pub returns-clause-turns : goal.returns-clause-turns
returns-clause-turns g c = turns-over (segment_at c.args.self.now) _ c.args.slice c.args.place c.args.bytes.now c.requires.lies c.requires.within (returns-clause-overwritten g c) c.requires.alone

pub returns-clause-reads : goal.returns-clause-reads
returns-clause-reads g c = reads-over (segment_at c.args.self.now) _ c.args.slice c.args.place c.args.bytes.now c.requires.lies c.requires.within (returns-clause-overwritten g c)
