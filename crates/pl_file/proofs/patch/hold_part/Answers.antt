use Rattle.std.proofs.Common.{◌≡◌, ◌≤◌, ◌+◌, ◌++◌, ◌∷◌, [], ◌∙◌, true, ap, sym, subst, arith}
use Rattle.std.proofs.lemmas.List.{append-nil}
use Rattle.pl_segments.specs.Segments.{segment_size, segment_at}
use Rattle.pl_segments.specs.Slices.{Lies, all_read, reads}
use Rattle.pl_segments.specs.Slots.{total, AllSolid, solid_of}
use Rattle.pl_segments.specs.Turns.{Holds, Turns}
use Rattle.pl_segments.proofs.SlotLemmas.{total-append, solid-left}
use Rattle.pl_segments.proofs.Turning.{turns-same}
use Rattle.pl_file.specs.Joined.{goes_on, goes_behind, joined}
use Rattle.pl_file.proofs.Editing.{lie-within}
use Rattle.pl_file.proofs.Patching.{solid-some, solid-none, added-solid}
use Rattle.pl_file.proofs.Patched.{patched-same, slot-pushed}
use Rattle.pl_file.proofs.Joining.{Goes, goes-means, goes-last, behind-one, behind-apart, longer-turns, longer-read}
use Rattle.pl_file.proofs.patch.hold_part.Given.{Over}
use Rattle.pl_file.proofs.patch.hold_part.Goals.{After-in_use-segments, After-pop-last}
use Rattle.pl_file.proofs.patch.hold_part.Goals as goal

-- a slice of no bytes
pub returns-then-part-eq0-clause-slots : goal.returns-then-part-eq0-clause-slots
returns-then-part-eq0-clause-slots g c = ap (joined c.args.patch.now.slots) (sym (solid-none c.args.part c.if-part-eq0.true))

pub returns-then-part-eq0-clause-held : goal.returns-then-part-eq0-clause-held
returns-then-part-eq0-clause-held g c = record { added = []; few = omega arith; turns = turns-same (segment_at c.args.store.now) [] tt }

pub returns-then-part-eq0-clause-patched : goal.returns-then-part-eq0-clause-patched
returns-then-part-eq0-clause-patched g c =
    let m = segment_at c.args.store.now in
    patched-same m c.args.patch.now (all_read m (solid_of (c.args.part ∷ []))) c.requires.held (ap (all_read m) (solid-none c.args.part c.if-part-eq0.true))

-- a slice of some bytes
module _ (g : Over) (c : After-in_use-segments g) where
  some : 1 ≤ c.args.part.len
  some = let z = c.if-part-eq0.false in omega (arith, z)

  lies : Lies (segment_at c.args.store.now) c.args.part
  lies = c.requires.lies some

  one : solid_of (c.args.part ∷ []) ≡ c.args.part ∷ []
  one = solid-some c.args.part c.if-part-eq0.false

  within : c.args.part.from + c.args.part.len ≤ segment_size
  within = (lie-within c.args.store.now.held (c.args.part ∷ []) c.in_use-segments.ensures.good (lies, tt)).0

-- that goes on where the last slot ends
module _ (g : Over) (c : After-pop-last g) where
  goes-on : goes_on c.pop-last.result c.args.part ≡ true
  goes-on =
      sym (goes-last c.pop-last.new.self.slots c.pop-last.result c.args.part)
      ∙ ap (λ ys. goes_behind ys c.args.part) (sym c.pop-last.ensures.slots)
      ∙ sym c.if-goes_behind.ensures

  goes : Goes c.pop-last.result c.args.part
  goes = goes-means c.pop-last.result c.args.part goes-on

pub overflow_add-last : goal.overflow_add-last
overflow_add-last g c =
    let k = goal.at.overflow_add-last g c in
    let w = within g k.After-in_use-segments in
    let f = (goes g k.After-pop-last).from in
    omega (arith, w, f)

pub push-requires-clause-fits : goal.push-requires-clause-fits
push-requires-clause-fits g c =
    let e = c.pop-last.ensures in
    let t = ap total e.slots in
    let a = total-append c.pop-last.new.self.slots (c.pop-last.result ∷ []) in
    omega (arith, t, a, e.base, c.requires.fits)

pub returns-then-goes_behind-clause-slots : goal.returns-then-goes_behind-clause-slots
returns-then-goes_behind-clause-slots g c =
    let k = goal.at.returns-then-goes_behind-clause-slots g c in
    c.push.ensures.slots
    ∙ sym (ap (joined c.args.patch.now.slots) (one g k.After-in_use-segments)
    ∙ ap (λ ys. joined ys (c.args.part ∷ [])) c.pop-last.ensures.slots
    ∙ behind-one c.pop-last.new.self.slots c.pop-last.result c.args.part (goes-on g k.After-pop-last))

pub returns-then-goes_behind-clause-held : goal.returns-then-goes_behind-clause-held
returns-then-goes_behind-clause-held g c = record { added = []; few = omega arith; turns = turns-same (segment_at c.args.store.now) [] tt }

pub returns-then-goes_behind-clause-patched : goal.returns-then-goes_behind-clause-patched
returns-then-goes_behind-clause-patched g c =
    let k = goal.at.returns-then-goes_behind-clause-patched g c in
    let m = segment_at c.args.store.now in
    let shape = c.pop-last.ensures.slots in
    let front = c.pop-last.new.self.slots in
    let last = c.pop-last.result in
    let held = subst (Holds m) shape c.requires.held.held in
    let l = some g k.After-in_use-segments in
    record {
      becomes = record {
        turns = subst (λ ys. Turns m ys m c.push.new.self.slots) (sym shape)
            (subst (Turns m (front ++ last ∷ []) m) (sym c.push.ensures.slots)
            (longer-turns m front last c.args.part (goes g k.After-pop-last) held (lies g k.After-in_use-segments)));
        read = ap (all_read m) c.push.ensures.slots
            ∙ longer-read m front last c.args.part (goes g k.After-pop-last) held (lies g k.After-in_use-segments)
            ∙ (λ i. all_read m (sym shape i) ++ all_read m (sym (one g k.After-in_use-segments) i));
      };
      solid = added-solid front c.push.new.self.slots _ c.push.ensures.slots (solid-left front (last ∷ []) (subst AllSolid shape c.requires.held.solid)) (omega (arith, l));
      base = c.push.ensures.base ∙ c.pop-last.ensures.base;
      capacity = c.push.ensures.capacity ∙ c.pop-last.ensures.capacity;
    }

-- or is a slot of its own
pub returns-clause-slots : goal.returns-clause-slots
returns-clause-slots g c =
    let k = (goal.at.returns-clause-slots g c).After-in_use-segments in
    c.push-2.ensures.slots ∙ sym (ap (joined c.args.patch.now.slots) (one g k) ∙ behind-apart c.args.patch.now.slots c.args.part (sym c.if-goes_behind.ensures))

pub returns-clause-held : goal.returns-clause-held
returns-clause-held g c = record { added = c.args.part ∷ []; few = omega arith; turns = c.hold.ensures.turns }

pub returns-clause-patched : goal.returns-clause-patched
returns-clause-patched g c =
    let k = (goal.at.returns-clause-patched g c).After-in_use-segments in
    let m = segment_at c.args.store.now in
    slot-pushed m (segment_at c.hold.new.self) c.args.patch.now c.args.part c.requires.held c.hold.ensures.turns (all_read m (solid_of (c.args.part ∷ [])))
    (c.hold.ensures.reads ∙ sym (append-nil (reads m c.args.part)) ∙ ap (all_read m) (sym (one g k)))
    c.push-2.new.self (some g k) c.push-2.ensures.slots c.push-2.ensures.base c.push-2.ensures.capacity
