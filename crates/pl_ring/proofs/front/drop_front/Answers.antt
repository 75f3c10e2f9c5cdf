use Rattle.std.proofs.Common.{◌≡◌, ◌∙◌, ◌∷◌, ap, sym, subst, drop, arith}
use Rattle.pl_segments.specs.Segments.{segment_at}
use Rattle.pl_segments.specs.Slices.{AllLie, all_read}
use Rattle.pl_segments.specs.Turns.{Turns, Holds}
use Rattle.pl_segments.proofs.Turning.{turns-then, holds-turned}
use Rattle.pl_segments.specs.Slots.{total, AllSolid, cut_front, drop_bytes}
use Rattle.pl_segments.proofs.Fronting.{gone-turns, gone-read, drop-whole, drop-none, part-read}
use Rattle.pl_ring.proofs.front.drop_front.Goals as goal

pub returns-then-rest-first-clause-read : goal.returns-then-rest-first-clause-read
returns-then-rest-first-clause-read g c =
    let m = segment_at c.loop-rest.store in
    let x = c.take_first-first.result in
    let rest = c.take_first-first.new.slots.items in
    let inv = c.loop-rest.invariant in
    let k = c.loop-rest.rest in
    let items : c.put_first.new.slots.items ≡ cut_front k x ∷ rest = (λ i. (c.put_first.ensures i).items) in
    ap (all_read m) items
    ∙ part-read m x rest k c.if-rest-first.true (subst (AllLie m) c.take_first-first.ensures.items inv.turns.lie)
    ∙ ap (λ zs. drop k (all_read m zs)) (sym c.take_first-first.ensures.items)
    ∙ inv.read

pub loop-rest-preserved : goal.loop-rest-preserved
loop-rest-preserved g c =
    let m0 = segment_at c.args.store.now in
    let m = segment_at c.loop-rest.store in
    let n = segment_at c.release.new.self in
    let xs = c.args.slots.now.items in
    let x = c.take_first-first.result in
    let rest = c.take_first-first.new.slots.items in
    let shape = c.take_first-first.ensures.items in
    let inv = c.loop-rest.invariant in
    let t : Turns m0 xs m (x ∷ rest) = subst (Turns m0 xs m) shape inv.turns in
    let held : Holds m (x ∷ rest) = holds-turned m0 m xs (x ∷ rest) c.requires.held t in
    let whole = c.if-rest-first.false in
    let left = ap total shape in
    record {
      turns = turns-then m0 m n xs (x ∷ rest) rest t (gone-turns m n x rest held c.release.ensures.turns);
      read = gone-read m n x rest held c.release.ensures.turns c.loop-rest.rest whole ∙ ap (λ zs. drop c.loop-rest.rest (all_read m zs)) (sym shape) ∙ inv.read;
      slots = drop-whole c.loop-rest.rest x rest whole ∙ ap (drop_bytes c.loop-rest.rest) (sym shape) ∙ inv.slots;
      solid = (subst AllSolid shape inv.solid).1;
      left = omega (arith, left, inv.left, whole);
      capacity = c.take_first-first.ensures.capacity ∙ inv.capacity;
    }

pub returns-clause-slots : goal.returns-clause-slots
returns-clause-slots g c =
    let inv = c.loop-rest.invariant in
    let none = c.loop-rest-test.false in
    sym (drop-none c.loop-rest.slots.items inv.solid)
    ∙ ap (λ k. drop_bytes k c.loop-rest.slots.items) (let e : 0 ≡ c.loop-rest.rest = omega (arith, none) in e)
    ∙ inv.slots
