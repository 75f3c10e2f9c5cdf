use Rattle.std.proofs.Common.{◌≡◌, ◌≤◌, ◌∙◌, ◌-◌, ◌++◌, ap, sym, arith}
use Rattle.std.specs.Prelude.{replicate}
use Rattle.std.proofs.lemmas.List.{take-replicate}
use Rattle.pl_segments.specs.Segments.{segment_at}
use Rattle.pl_segments.specs.Slices.{reads, all_read}
use Rattle.pl_file.specs.Patches.{Patched}
use Rattle.pl_file.proofs.Patching.{added-total, zeros-parts, zeros-len}
use Rattle.pl_file.proofs.Patched.{patched-held, patched-same, patched-then, slot-held, slot-pushed, slot-joined}
use Rattle.pl_file.proofs.patch.put_zeros.Given.{Over}
use Rattle.pl_file.proofs.patch.put_zeros.Goals.{After-make_reserved-slice, After-make_reserved-zeros, After-push}
use Rattle.pl_file.proofs.patch.put_zeros.Goals as goal

-- zeros that fit a segment
module _ (g : Over) (c : After-make_reserved-slice g) where
  part_read : reads (segment_at c.make_reserved-slice.new.self) c.make_reserved-slice.result ≡ replicate c.args.count 0
  part_read = c.make_reserved-slice.ensures.reads ∙ take-replicate c.args.count 4096 0 c.if-count-le-SEGMENT_SIZE.true

  part_len : c.make_reserved-slice.result.len ≡ c.args.count
  part_len = zeros-len (segment_at c.make_reserved-slice.new.self) c.make_reserved-slice.result c.args.count c.make_reserved-slice.ensures.turns.lie.0 part_read

pub push_joined-requires-clause-held : goal.push_joined-requires-clause-held
push_joined-requires-clause-held g c =
    let n = part_len g (goal.at.push_joined-requires-clause-held g c).After-make_reserved-slice in
    let some = c.if-count-eq0.false in
    slot-held (segment_at c.args.store.now) (segment_at c.make_reserved-slice.new.self) c.args.patch.now c.make_reserved-slice.result c.requires.held c.make_reserved-slice.ensures.turns (omega (arith, n, some))

pub returns-then-count-le-SEGMENT_SIZE-clause-patched : goal.returns-then-count-le-SEGMENT_SIZE-clause-patched
returns-then-count-le-SEGMENT_SIZE-clause-patched g c =
    slot-joined (segment_at c.args.store.now) (segment_at c.make_reserved-slice.new.self) c.args.patch.now c.make_reserved-slice.result c.requires.held c.make_reserved-slice.ensures.turns (replicate c.args.count 0)
    (part_read g (goal.at.returns-then-count-le-SEGMENT_SIZE-clause-patched g c).After-make_reserved-slice)
    (segment_at c.push_joined.new.store) c.push_joined.new.patch c.push_joined.ensures.patched

pub returns-then-count-eq0-clause-patched : goal.returns-then-count-eq0-clause-patched
returns-then-count-eq0-clause-patched g c =
    patched-same (segment_at c.args.store.now) c.args.patch.now (replicate c.args.count 0) c.requires.held (ap (λ n. replicate n 0) c.if-count-eq0.true)

-- a segment of zeros
module _ (g : Over) (c : After-make_reserved-zeros g) where
  whole_len : c.make_reserved-zeros.result.len ≡ 4096
  whole_len = zeros-len (segment_at c.make_reserved-zeros.new.self) c.make_reserved-zeros.result 4096 c.make_reserved-zeros.ensures.turns.lie.0 c.make_reserved-zeros.ensures.reads

  whole_read : reads (segment_at c.make_reserved-zeros.new.self) c.make_reserved-zeros.result ≡ replicate c.make_reserved-zeros.result.len 0
  whole_read = c.make_reserved-zeros.ensures.reads ∙ ap (λ n. replicate n 0) (sym whole_len)

  whole_some : 1 ≤ c.make_reserved-zeros.result.len
  whole_some = let n = whole_len in omega (arith, n)

pushed : (g : Over) (c : After-push g) → 1 ≤ c.make_reserved-zeros.result.len → reads (segment_at c.make_reserved-zeros.new.self) c.make_reserved-zeros.result ≡ replicate c.make_reserved-zeros.result.len 0
    → Patched (segment_at c.args.store.now) c.args.patch.now (segment_at c.make_reserved-zeros.new.self) c.push.new.self (all_read (segment_at c.args.store.now) c.args.patch.now.slots ++ replicate c.make_reserved-zeros.result.len 0)
pushed g c some read =
    slot-pushed (segment_at c.args.store.now) (segment_at c.make_reserved-zeros.new.self) c.args.patch.now c.make_reserved-zeros.result c.requires.held c.make_reserved-zeros.ensures.turns
    (replicate c.make_reserved-zeros.result.len 0) read c.push.new.self some c.push.ensures.slots c.push.ensures.base c.push.ensures.capacity

pub put_copies-requires-clause-zeros : goal.put_copies-requires-clause-zeros
put_copies-requires-clause-zeros g c =
    let k = (goal.at.put_copies-requires-clause-zeros g c).After-make_reserved-zeros in
    record { lies = c.make_reserved-zeros.ensures.turns.lie.0; len = whole_len g k; read = whole_read g k }

pub put_copies-requires-clause-held : goal.put_copies-requires-clause-held
put_copies-requires-clause-held g c =
    let k = goal.at.put_copies-requires-clause-held g c in
    let z = k.After-make_reserved-zeros in
    let m = segment_at c.args.store.now in
    patched-held m (segment_at c.make_reserved-zeros.new.self) c.args.patch.now c.push.new.self (all_read m c.args.patch.now.slots ++ replicate c.make_reserved-zeros.result.len 0) c.requires.held
    (pushed g k.After-push (whole_some g z) (whole_read g z))

pub put_copies-requires-clause-fits : goal.put_copies-requires-clause-fits
put_copies-requires-clause-fits g c =
    let n = whole_len g (goal.at.put_copies-requires-clause-fits g c).After-make_reserved-zeros in
    let t = added-total c.args.patch.now.slots c.push.new.self.slots c.make_reserved-zeros.result c.push.ensures.slots in
    let many = c.if-count-le-SEGMENT_SIZE.false in
    omega (arith, n, t, many, c.push.ensures.base, c.requires.fits)

pub returns-clause-patched : goal.returns-clause-patched
returns-clause-patched g c =
    let k = goal.at.returns-clause-patched g c in
    let z = k.After-make_reserved-zeros in
    let left = c.args.count - 4096 in
    let len = whole_len g z in
    let many = c.if-count-le-SEGMENT_SIZE.false in
    patched-then (segment_at c.args.store.now) (segment_at c.make_reserved-zeros.new.self) (segment_at c.put_copies.new.store) c.args.patch.now c.push.new.self c.put_copies.new.patch
    (replicate c.make_reserved-zeros.result.len 0) (replicate left 0) (replicate c.args.count 0)
    (pushed g k.After-push (whole_some g z) (whole_read g z)) c.put_copies.ensures.patched
    (zeros-parts c.make_reserved-zeros.result.len left c.args.count (omega (arith, len, many)))

pub returns-clause-total : goal.returns-clause-total
returns-clause-total g c =
    let n = whole_len g (goal.at.returns-clause-total g c).After-make_reserved-zeros in
    let t = added-total c.args.patch.now.slots c.push.new.self.slots c.make_reserved-zeros.result c.push.ensures.slots in
    let many = c.if-count-le-SEGMENT_SIZE.false in
    omega (arith, n, t, many, c.put_copies.ensures.total)
