use Rattle.std.proofs.Common.{◌≡◌, ◌∙◌, ◌+◌, ◌++◌, List, length, count_by, refl, sym, ap, subst, arith}
use Rattle.std.proofs.lemmas.List.{length-append}
use Rattle.pl_segments.specs.declared.slice.Slice.{Slice}
use Rattle.pl_segments.specs.Segments.{segment_at, live_count}
use Rattle.pl_segments.specs.Slices.{all_read}
use Rattle.pl_segments.specs.Turns.{Turns}
use Rattle.pl_segments.specs.Slots.{solid_of}
use Rattle.pl_ring.specs.Pushed.{AreOfRing}
use Rattle.pl_segments.proofs.Turning.{turns-same}
use Rattle.pl_segments.proofs.SlotLemmas.{total-append, total-solid}
use Rattle.pl_segments.proofs.Pushing.{solid-solid_of}
use Rattle.pl_ring.proofs.Apart.{whole, apart-tight, apart-solid, apart-places}
use Rattle.pl_ring.proofs.Underway.{underway-as, underway-first, underway-at, underway-past, underway-end, next-held, next-some, next-total, next-room, underway-next, last-turns, last-read, last-in_use, last-count, last-parts}
use Rattle.pl_ring.proofs.push.push_held.Given.{Over}
use Rattle.pl_ring.proofs.push.push_held.Goals.{After-put_all, then-slice-ne0, else-slice-ne0}
use Rattle.pl_ring.proofs.push.push_held.Goals as goal

-- the slices are slots of their own
module _ (g : Over) (c : After-put_all g) where
  abbrev slots : List Slice
  slots = c.args.slots.now.items

  many : c.args.many ≡ length slots + length c.args.slices.now
  many = c.if-many-len.true ∙ ap (λ k. k + length c.args.slices.now) c.len.ensures.len

  all : slots ++ solid_of c.args.slices.now ≡ c.put_all.new.slots.items
  all = ap (λ zs. slots ++ zs) (whole slots c.args.slices.now c.args.many many c.requires.many) ∙ sym (λ i. (c.put_all.ensures i).items)

pub put_all-requires : goal.put_all-requires
put_all-requires g c =
    let n = c.len.ensures.len in
    let ring = c.requires.ring in
    apart-places c.args.slots.now.items c.args.slices.now c.args.many (c.if-many-len.true ∙ ap (λ k. k + length c.args.slices.now) n) c.requires.many
    c.args.slots.now.capacity ring.slots.merged ring.slots.solid ring.even ring.fits

pub returns-then-many-len-clause-took : goal.returns-then-many-len-clause-took
returns-then-many-len-clause-took g c =
    let k = (goal.at.returns-then-many-len-clause-took g c).After-put_all in
    let m = segment_at c.args.store.now in
    let xs = c.args.slots.now.items in
    let ds = solid_of c.args.slices.now in
    let ring = c.requires.ring in
    record {
      turns = subst (Turns m (xs ++ ds) m) (all g k) (turns-same m (xs ++ ds) c.requires.held.lie);
      read = ap (all_read m) (sym (all g k));
      slots = subst AreOfRing (sym (λ i. (c.put_all.ensures i).items)) (
          record {
            solid = apart-solid xs c.args.slices.now c.args.many (many g k) c.requires.many ring.slots.solid;
            merged = apart-tight xs c.args.slices.now c.args.many (many g k) c.requires.many ring.slots.merged;
          }
          );
      capacity = (λ i. (c.put_all.ensures i).capacity);
    }

pub returns-then-many-len-clause-parts : goal.returns-then-many-len-clause-parts
returns-then-many-len-clause-parts g c = λ test.
    let same = ap (count_by test) (all g (goal.at.returns-then-many-len-clause-parts g c).After-put_all) in
    omega (arith, same)

pub returns-then-many-len-clause-count : goal.returns-then-many-len-clause-count
returns-then-many-len-clause-count g c =
    ap length (λ i. (c.put_all.ensures i).items)
    ∙ length-append c.args.slots.now.items c.args.slices.now
    ∙ sym (many g (goal.at.returns-then-many-len-clause-count g c).After-put_all)

pub loop-i-init : goal.loop-i-init
loop-i-init g c = record {
  underway = underway-first (segment_at c.args.store.now) c.args.slots.now.items (solid_of c.args.slices.now) _ _ c.requires.held c.requires.ring.slots (solid-solid_of c.args.slices.now) c.requires.room;
  capacity = refl;
}

pub push_slot-requires-clause-held : goal.push_slot-requires-clause-held
push_slot-requires-clause-held g c = next-held c.requires.held (underway-at c.args.slices.now c.loop-i.i c.loop-i.invariant.underway c.loop-i-test.true c.if-slice-ne0.true)

pub push_slot-requires-clause-room : goal.push_slot-requires-clause-room
push_slot-requires-clause-room g c = next-room c.requires.held (underway-at c.args.slices.now c.loop-i.i c.loop-i.invariant.underway c.loop-i-test.true c.if-slice-ne0.true)

pub push_slot-requires-clause-some : goal.push_slot-requires-clause-some
push_slot-requires-clause-some g c = next-some c.requires.held (underway-at c.args.slices.now c.loop-i.i c.loop-i.invariant.underway c.loop-i-test.true c.if-slice-ne0.true)

pub push_slot-requires-clause-ring : goal.push_slot-requires-clause-ring
push_slot-requires-clause-ring g c =
    let inv = c.loop-i.invariant in
    let places = inv.capacity in
    record {
      slots = inv.underway.slots;
      even = omega (arith, places, c.requires.ring.even);
      fits =
          let t = next-total c.requires.held (underway-at c.args.slices.now c.loop-i.i c.loop-i.invariant.underway c.loop-i-test.true c.if-slice-ne0.true) in
          let a = total-append c.args.slots.now.items (solid_of c.args.slices.now) in
          let s = total-solid c.args.slices.now in
          omega (arith, t, a, s, places, c.requires.ring.fits);
    }

pub loop-i-preserved : goal.loop-i-preserved
loop-i-preserved g c =
    let inv = c.loop-i.invariant in
    elim c.if-slice-ne0.branch [
      | then-slice-ne0 w ↦
          let e = w.push_slot.ensures in
          let u = underway-next c.requires.held (underway-at c.args.slices.now c.loop-i.i inv.underway c.loop-i-test.true w.if-slice-ne0.true)
          c.loop-i.slots.capacity (segment_at w.push_slot.new.store) w.push_slot.new.slots (live_count w.push_slot.new.store.held) w.push_slot.new.store.room
          e.took e.one e.room e.once e.in_use in
          record {
            underway = underway-as c.if-slice-ne0.store w.push_slot.new.store c.if-slice-ne0.slots.items w.push_slot.new.slots.items w.store-is (λ i. (w.slots-is i).items) u;
            capacity = (λ i. (w.slots-is i).capacity) ∙ e.took.capacity ∙ inv.capacity;
          }
      | else-slice-ne0 w ↦
          record {
            underway =
                underway-as c.if-slice-ne0.store c.loop-i.store c.if-slice-ne0.slots.items c.loop-i.slots.items w.store-is (λ i. (w.slots-is i).items)
                (underway-past c.args.slices.now c.loop-i.i inv.underway c.loop-i-test.true w.if-slice-ne0.false);
            capacity = (λ i. (w.slots-is i).capacity) ∙ inv.capacity;
          }
    ]

pub returns-clause-took : goal.returns-clause-took
returns-clause-took g c =
    let inv = c.loop-i.invariant in
    let u = underway-end c.args.slices.now c.loop-i.i inv.underway c.loop-i-test.false in
    record {
      turns = last-turns u;
      read = last-read u;
      slots = u.slots;
      capacity = inv.capacity;
    }

pub returns-clause-in_use : goal.returns-clause-in_use
returns-clause-in_use g c = last-in_use (underway-end c.args.slices.now c.loop-i.i c.loop-i.invariant.underway c.loop-i-test.false)

pub returns-clause-count : goal.returns-clause-count
returns-clause-count g c =
    let n = last-count (underway-end c.args.slices.now c.loop-i.i c.loop-i.invariant.underway c.loop-i-test.false) in
    omega (arith, n, c.requires.many)

pub returns-clause-parts : goal.returns-clause-parts
returns-clause-parts g c = last-parts (underway-end c.args.slices.now c.loop-i.i c.loop-i.invariant.underway c.loop-i-test.false)
