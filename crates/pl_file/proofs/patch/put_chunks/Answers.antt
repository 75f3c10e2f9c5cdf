use Rattle.std.proofs.Common.{◌≡◌, ℕ, List, [], ◌∷◌, ◌∙◌, ◌++◌, ◌+◌, refl, sym, ap, length, arith}
use Rattle.std.specs.Prelude.{min}
use Rattle.std.proofs.lemmas.List.{append_assoc, append-nil}
use Rattle.pl_segments.specs.Segments.{segment_size, segment_at}
use Rattle.pl_segments.specs.Slices.{all_read}
use Rattle.pl_segments.specs.Turns.{Holds}
use Rattle.pl_segments.proofs.Turning.{turns-then, holds-turned}
use Rattle.pl_file.proofs.Patching.{added-solid, added-total, added-length, added-turns, added-read, read-len, parts-whole, parts-front, parts-length}
use Rattle.pl_file.proofs.patch.put_chunks.Given.{Over}
use Rattle.pl_file.proofs.patch.put_chunks.Goals.{After-make_reserved-slice}
use Rattle.pl_file.proofs.patch.put_chunks.Goals as goal

nothing-left : (bs : List ℕ) → length bs ≡ 0 → bs ≡ []
nothing-left [] e = refl
nothing-left (b ∷ bs) e = absurd (omega (arith, e))

module _ (g : Over) (c : After-make_reserved-slice g) where
  held : Holds (segment_at c.loop-rest.store) c.loop-rest.patch.slots
  held = holds-turned (segment_at c.args.store.now) (segment_at c.loop-rest.store) c.args.patch.now.slots c.loop-rest.patch.slots c.requires.held.held c.loop-rest.invariant.turns

  lens : (c.make_reserved-slice.result.len ≡ min (length c.loop-rest.rest.now) segment_size) × (length c.split_at.result.1.now + c.make_reserved-slice.result.len ≡ length c.loop-rest.rest.now)
  lens =
      let first = c.split_at.result.0.now in
      let more = c.split_at.result.1.now in
      let len = read-len (segment_at c.make_reserved-slice.new.self) c.make_reserved-slice.result first c.make_reserved-slice.ensures.turns.lie.0 c.make_reserved-slice.ensures.reads in
      let f = parts-front c.min-count.result c.loop-rest.rest.now first more c.split_at.ensures.front c.split_at.ensures.back in
      let b = parts-length c.min-count.result c.loop-rest.rest.now first more c.split_at.ensures.front c.split_at.ensures.back in
      let count = c.min-count.ensures in
      (omega (arith, len, f, count), omega (arith, len, b))

pub push-requires-clause-room : goal.push-requires-clause-room
push-requires-clause-room g c =
    let n = lens g (goal.at.push-requires-clause-room g c).After-make_reserved-slice in
    let inv = c.loop-rest.invariant in
    let some = c.loop-rest-test.true in
    let f = inv.full some in
    omega (arith, f, some, inv.capacity, c.requires.slots)

pub push-requires-clause-fits : goal.push-requires-clause-fits
push-requires-clause-fits g c =
    let n = lens g (goal.at.push-requires-clause-fits g c).After-make_reserved-slice in
    let inv = c.loop-rest.invariant in
    omega (arith, n, inv.base, inv.total, c.requires.fits)

pub loop-rest-preserved : goal.loop-rest-preserved
loop-rest-preserved g c =
    let k = (goal.at.loop-rest-preserved g c).After-make_reserved-slice in
    let m0 = segment_at c.args.store.now in
    let m = segment_at c.loop-rest.store in
    let n = segment_at c.make_reserved-slice.new.self in
    let xs = c.loop-rest.patch.slots in
    let x = c.make_reserved-slice.result in
    let zs = c.push.new.self.slots in
    let first = c.split_at.result.0.now in
    let more = c.split_at.result.1.now in
    let inv = c.loop-rest.invariant in
    let t = c.make_reserved-slice.ensures.turns in
    let shape = c.push.ensures.slots in
    let some = c.loop-rest-test.true in
    let l = lens g k in
    let whole = parts-whole c.min-count.result c.loop-rest.rest.now first more c.split_at.ensures.front c.split_at.ensures.back in
    let read : all_read n zs ≡ all_read m xs ++ first = added-read m n xs zs x first (held g k) t shape c.make_reserved-slice.ensures.reads in
    let longer = added-length xs zs x shape in
    let sum = added-total xs zs x shape in
    let room = c.make_reserved-slice.ensures.room in
    record {
      turns = turns-then m0 m n c.args.patch.now.slots xs zs inv.turns (added-turns m n xs zs x first (held g k) t shape);
      read = ap (λ bs. bs ++ more) read ∙ append_assoc (all_read m xs) first more ∙ ap (λ bs. all_read m xs ++ bs) whole ∙ inv.read;
      solid = added-solid xs zs x shape inv.solid (omega (arith, l, some));
      room = omega (arith, l, some, room, inv.room);
      full = λ left. let f = inv.full some in omega (arith, f, longer, l, left);
      many = let f = inv.full some in omega (arith, f, longer, l, some);
      capacity = c.push.ensures.capacity ∙ inv.capacity;
      base = c.push.ensures.base ∙ inv.base;
      total = let e = inv.total in omega (arith, sum, e, l);
    }

pub returns-clause-patched : goal.returns-clause-patched
returns-clause-patched g c =
    let inv = c.loop-rest.invariant in
    let bytes = all_read (segment_at c.loop-rest.store) c.loop-rest.patch.slots in
    let none = nothing-left c.loop-rest.rest.now (omega arith) in
    record {
      becomes = record { turns = inv.turns; read = sym (append-nil bytes) ∙ ap (λ bs. bytes ++ bs) (sym none) ∙ inv.read };
      solid = inv.solid;
      base = inv.base;
      capacity = inv.capacity;
    }
