use Rattle.std.proofs.Common.{◌≡◌, ◌<◌, ◌≤◌, ◌∙◌, ap, length, arith}
use Rattle.pl_segments.specs.Segments.{segment_at}
use Rattle.pl_segments.specs.Slices.{all_read}
use Rattle.pl_file.specs.Rows.{index}
use Rattle.pl_file.specs.File.{written}
use Rattle.pl_file.proofs.Compacting.{between, between-some, between-most, between-written}
use Rattle.pl_file.proofs.compact.compact.Given.{Over}
use Rattle.pl_file.proofs.compact.compact.Goals.{After-as_slice}
use Rattle.pl_file.proofs.compact.compact.Goals as goal

-- what is written is what stands there
module _ (g : Over) (c : After-as_slice g) where
  order : index c.args.chunks.now c.in-Some.first < index c.args.chunks.now c.in-Some.end
  order = c.in-Some.ensures.order

  most : index c.args.chunks.now c.in-Some.end ≤ length c.args.chunks.now.slots
  most = let l = c.in-Some.ensures.within in omega (arith, l)

  bytes : c.as_slice.result.now ≡ between (segment_at c.args.store.now) c.args.chunks.now.slots (index c.args.chunks.now c.in-Some.first) (index c.args.chunks.now c.in-Some.end) order most c.requires.file.held.lie c.requires.file.solid
  bytes = c.as_slice.ensures.value ∙ c.in-Ok.ensures

pub overwrite-requires-clause-fits : goal.overwrite-requires-clause-fits
overwrite-requires-clause-fits g c =
    let k = (goal.at.overwrite-requires-clause-fits g c).After-as_slice in
    let e = ap length (bytes g k) in
    let l = between-most (segment_at c.args.store.now) c.args.chunks.now.slots (index c.args.chunks.now c.in-Some.first) (index c.args.chunks.now c.in-Some.end) (order g k) (most g k) c.requires.file.held.lie c.requires.file.solid in
    omega (arith, e, l, c.start-place.ensures, c.requires.file.most)

pub overwrite-requires-clause-some : goal.overwrite-requires-clause-some
overwrite-requires-clause-some g c =
    let k = (goal.at.overwrite-requires-clause-some g c).After-as_slice in
    let e = ap length (bytes g k) in
    let l = between-some (segment_at c.args.store.now) c.args.chunks.now.slots (index c.args.chunks.now c.in-Some.first) (index c.args.chunks.now c.in-Some.end) (order g k) (most g k) c.requires.file.held.lie c.requires.file.solid in
    omega (arith, e, l)

pub returns-clause-becomes : goal.returns-clause-becomes
returns-clause-becomes g c =
    let k = (goal.at.returns-clause-becomes g c).After-as_slice in
    let old = all_read (segment_at c.args.store.now) c.args.chunks.now.slots in
    let over = c.in-Ok-overwrite.ensures.becomes in
    record {
      turns = over.turns;
      read = over.read
          ∙ (λ i. written (c.start-place.ensures i) (bytes g k i) old)
          ∙ between-written (segment_at c.args.store.now) c.args.chunks.now.slots (index c.args.chunks.now c.in-Some.first) (index c.args.chunks.now c.in-Some.end) (order g k) (most g k) c.requires.file.held.lie c.requires.file.solid;
    }
