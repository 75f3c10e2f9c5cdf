use Rattle.std.proofs.Common.{◌≡◌, ◌++◌, ◌≤◌, ◌+◌, length, arith}
use Rattle.pl_segments.specs.Segments.{segment_at}
use Rattle.pl_segments.specs.Slices.{all_read}
use Rattle.pl_file.specs.Patches.{Patched}
use Rattle.pl_file.proofs.Patching.{read-len, parts-whole, parts-front, parts-length}
use Rattle.pl_file.proofs.Patched.{patched-held, patched-then, slot-held, slot-joined}
use Rattle.pl_file.proofs.patch.put_bytes.Given.{Over}
use Rattle.pl_file.proofs.patch.put_bytes.Goals.{After-make_reserved-slice, After-push_joined}
use Rattle.pl_file.proofs.patch.put_bytes.Goals as goal

module _ (g : Over) (c : After-make_reserved-slice g) where
  lens : (c.make_reserved-slice.result.len ≡ length c.split_at.result.0.now) × (length c.split_at.result.0.now + length c.split_at.result.1.now ≡ length c.args.bytes.now) × (1 ≤ length c.split_at.result.0.now)
  lens =
      let first = c.split_at.result.0.now in
      let more = c.split_at.result.1.now in
      let len = read-len (segment_at c.make_reserved-slice.new.self) c.make_reserved-slice.result first c.make_reserved-slice.ensures.turns.lie.0 c.make_reserved-slice.ensures.reads in
      let f = parts-front c.min-count.result c.args.bytes.now first more c.split_at.ensures.front c.split_at.ensures.back in
      let b = parts-length c.min-count.result c.args.bytes.now first more c.split_at.ensures.front c.split_at.ensures.back in
      let count = c.min-count.ensures in
      (len, b, omega (arith, f, count, c.requires.some))

-- with the slice that fills the last slot
joined : (g : Over) (c : After-push_joined g) → Patched (segment_at c.args.store.now) c.args.patch.now (segment_at c.push_joined.new.store) c.push_joined.new.patch (all_read (segment_at c.args.store.now) c.args.patch.now.slots ++ c.split_at.result.0.now)
joined g c =
    slot-joined (segment_at c.args.store.now) (segment_at c.make_reserved-slice.new.self) c.args.patch.now c.make_reserved-slice.result c.requires.held c.make_reserved-slice.ensures.turns
    c.split_at.result.0.now c.make_reserved-slice.ensures.reads (segment_at c.push_joined.new.store) c.push_joined.new.patch c.push_joined.ensures.patched

pub push_joined-requires-clause-held : goal.push_joined-requires-clause-held
push_joined-requires-clause-held g c =
    let n = lens g (goal.at.push_joined-requires-clause-held g c).After-make_reserved-slice in
    slot-held (segment_at c.args.store.now) (segment_at c.make_reserved-slice.new.self) c.args.patch.now c.make_reserved-slice.result c.requires.held c.make_reserved-slice.ensures.turns (omega (arith, n))

pub put_chunks-requires-clause-held : goal.put_chunks-requires-clause-held
put_chunks-requires-clause-held g c =
    let m = segment_at c.args.store.now in
    patched-held m (segment_at c.push_joined.new.store) c.args.patch.now c.push_joined.new.patch (all_read m c.args.patch.now.slots ++ c.split_at.result.0.now) c.requires.held
    (joined g (goal.at.put_chunks-requires-clause-held g c).After-push_joined)

pub returns-clause-patched : goal.returns-clause-patched
returns-clause-patched g c =
    let first = c.split_at.result.0.now in
    let more = c.split_at.result.1.now in
    patched-then (segment_at c.args.store.now) (segment_at c.push_joined.new.store) (segment_at c.put_chunks.new.store) c.args.patch.now c.push_joined.new.patch c.put_chunks.new.patch first more c.args.bytes.now
    (joined g (goal.at.returns-clause-patched g c).After-push_joined) c.put_chunks.ensures.patched
    (parts-whole c.min-count.result c.args.bytes.now first more c.split_at.ensures.front c.split_at.ensures.back)
