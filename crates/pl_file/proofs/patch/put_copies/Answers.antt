use Rattle.std.proofs.Common.{◌≡◌, ℕ, ◌≤◌, ◌∙◌, ◌++◌, ◌-◌, ap, sym, append_assoc, arith}
use Rattle.std.specs.Prelude.{replicate}
use Rattle.std.proofs.lemmas.List.{append-nil}
use Rattle.pl_segments.specs.Segments.{segment_at}
use Rattle.pl_segments.specs.Slices.{all_read}
use Rattle.pl_segments.specs.Turns.{Holds}
use Rattle.pl_segments.specs.Slots.{cut_end}
use Rattle.pl_segments.proofs.Changing.{naming-one}
use Rattle.pl_segments.proofs.Turning.{turns-then, holds-turned}
use Rattle.pl_segments.proofs.Pushing.{lies-still, reads-still}
use Rattle.pl_file.proofs.Patching.{added-solid, added-total, added-length, added-turns, added-read, zeros-lie, zeros-read, zeros-parts}
use Rattle.pl_file.proofs.patch.put_copies.Given.{Over}
use Rattle.pl_file.proofs.patch.put_copies.Goals.{After-min-len}
use Rattle.pl_file.proofs.patch.put_copies.Goals as goal

module _ (g : Over) (c : After-min-len g) where
  fits : c.min-len.result ≤ c.args.zeros.len
  fits = let k = c.min-len.ensures in omega (arith, k, c.requires.zeros.len)

  held : Holds (segment_at c.loop-rest.store) c.loop-rest.patch.slots
  held = holds-turned (segment_at c.args.store.now) (segment_at c.loop-rest.store) c.args.patch.now.slots c.loop-rest.patch.slots c.requires.held.held c.loop-rest.invariant.turns

pub hold-requires-clause-lies : goal.hold-requires-clause-lies
hold-requires-clause-lies g c =
    let k = (goal.at.hold-requires-clause-lies g c).After-min-len in
    zeros-lie (segment_at c.loop-rest.store) c.args.zeros c.loop-rest.invariant.lies c.loop-rest.invariant.zeros c.min-len.result (fits g k)

pub loop-rest-preserved : goal.loop-rest-preserved
loop-rest-preserved g c =
    let k = (goal.at.loop-rest-preserved g c).After-min-len in
    let m0 = segment_at c.args.store.now in
    let m = segment_at c.loop-rest.store in
    let n = segment_at c.hold.new.self in
    let xs = c.loop-rest.patch.slots in
    let zs = c.push.new.self.slots in
    let z = c.args.zeros in
    let len = c.min-len.result in
    let rest = c.loop-rest.rest in
    let x = cut_end len z in
    let inv = c.loop-rest.invariant in
    let t = c.hold.ensures.turns in
    let shape = c.push.ensures.slots in
    let some = c.loop-rest-test.true in
    let min = c.min-len.ensures in
    let parts : ◌++◌ {A = ℕ} (replicate len 0) (replicate (rest - len) 0) ≡ replicate rest 0 = zeros-parts len (rest - len) rest (omega (arith, min)) in
    let read : all_read n zs ≡ all_read m xs ++ replicate len 0 =
    added-read m n xs zs x (replicate len 0) (held g k) t shape (c.hold.ensures.reads ∙ zeros-read m z inv.lies inv.zeros len (fits g k)) in
    let one = naming-one x in
    let count = t.counted z.segment in
    let longer = added-length xs zs x shape in
    let more = added-total xs zs x shape in
    record {
      turns = turns-then m0 m n c.args.patch.now.slots xs zs inv.turns (added-turns m n xs zs x (replicate len 0) (held g k) t shape);
      read = ap (λ bs. bs ++ replicate (rest - len) 0) read ∙ append_assoc (all_read m xs) (replicate len 0) (replicate (rest - len) 0) ∙ ap (λ bs. all_read m xs ++ bs) parts ∙ inv.read;
      solid = added-solid xs zs x shape inv.solid (omega (arith, min, some));
      lies = lies-still m n _ t z inv.lies;
      zeros = reads-still m n _ t z inv.lies ∙ inv.zeros;
      few = omega (arith, one, count, inv.few, min, some);
      room = c.hold.ensures.room ∙ inv.room;
      full = λ left. let f = inv.full some in omega (arith, f, longer, min, left);
      many = let f = inv.full some in omega (arith, f, longer, min, some);
      capacity = c.push.ensures.capacity ∙ inv.capacity;
      base = c.push.ensures.base ∙ inv.base;
      total = let e = inv.total in omega (arith, more, e, min);
    }

pub returns-clause-patched : goal.returns-clause-patched
returns-clause-patched g c =
    let inv = c.loop-rest.invariant in
    let bytes = all_read (segment_at c.loop-rest.store) c.loop-rest.patch.slots in
    let none : c.loop-rest.rest ≡ 0 = omega arith in
    record {
      becomes = record { turns = inv.turns; read = sym (append-nil bytes) ∙ ap (λ n. bytes ++ replicate n 0) (sym none) ∙ inv.read };
      solid = inv.solid;
      base = inv.base;
      capacity = inv.capacity;
    }
