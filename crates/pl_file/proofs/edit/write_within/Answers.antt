use Rattle.std.proofs.Common.{◌∙◌, ap, length, arith}
use Rattle.pl_segments.specs.Segments.{segment_at}
use Rattle.pl_segments.specs.Slices.{all_read}
use Rattle.pl_segments.proofs.Turning.{turns-then}
use Rattle.pl_file.proofs.Compacting.{written-some, turned-some, turned-few}
use Rattle.pl_file.proofs.edit.write_within.Goals as goal

pub compact-requires-clause-some : goal.compact-requires-clause-some
compact-requires-clause-some g c =
    let m = segment_at c.args.store.now in
    let n = segment_at c.write_over.new.store in
    let xs = c.args.chunks.now.slots in
    let ys = c.write_over.new.chunks.slots in
    let e = ap length c.in_ok-write_over.ensures.becomes.read in
    let w = written-some c.args.place c.args.bytes.now (all_read m xs) c.requires.some in
    turned-some m n xs ys c.in_ok-write_over.ensures.becomes.turns (omega (arith, e, w))

pub compact-requires-clause-few : goal.compact-requires-clause-few
compact-requires-clause-few g c =
    let e = c.in_ok-write_over.ensures in
    λ key.
    let f = turned-few (segment_at c.args.store.now) (segment_at c.write_over.new.store) c.args.chunks.now.slots c.write_over.new.chunks.slots e.becomes.turns e.file.solid key in
    let l = c.requires.few key in
    let t = e.file.most in
    omega (arith, f, l, t)

pub returns-clause-becomes : goal.returns-clause-becomes
returns-clause-becomes g c =
    let first = c.in_ok-write_over.ensures.becomes in
    let then = c.compact.ensures.becomes in
    record {
      turns = turns-then (segment_at c.args.store.now) (segment_at c.write_over.new.store) (segment_at c.compact.new.store) c.args.chunks.now.slots c.write_over.new.chunks.slots c.compact.new.chunks.slots first.turns then.turns;
      read = then.read ∙ first.read;
    }
