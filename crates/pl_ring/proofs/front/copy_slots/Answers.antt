use Rattle.std.proofs.Common.{◌≡◌, ◌∙◌, ◌++◌, ◌-◌, ap, sym, subst, take, length, arith}
use Rattle.std.specs.Prelude.{vec_len}
use Rattle.pl_segments.specs.Segments.{segment_at}
use Rattle.pl_segments.specs.Slices.{AllLie, all_read}
use Rattle.pl_segments.proofs.Turning.{lie-left, lie-right, read-append}
use Rattle.pl_segments.proofs.Fronting.{take-both}
use Rattle.pl_ring.proofs.front.copy_slots.Goals as goal

pub add_bytes-requires-clause-lie : goal.add_bytes-requires-clause-lie
add_bytes-requires-clause-lie g c =
    lie-left (segment_at c.args.store.now) c.as_slices.result.0.now c.as_slices.result.1.now (subst (AllLie (segment_at c.args.store.now)) (sym c.as_slices.ensures) c.requires)

pub add_bytes-requires-2-clause-lie : goal.add_bytes-requires-2-clause-lie
add_bytes-requires-2-clause-lie g c =
    lie-right (segment_at c.args.store.now) c.as_slices.result.0.now c.as_slices.result.1.now (subst (AllLie (segment_at c.args.store.now)) (sym c.as_slices.ensures) c.requires)

pub returns : goal.returns
returns g c =
    let m = segment_at c.args.store.now in
    let n = c.args.count in
    let front = c.as_slices.result.0.now in
    let back = c.as_slices.result.1.now in
    let none = c.in_ok-bytes.ensures.items in
    let start : n - vec_len c.in_ok-bytes.bytes ≡ n = (let z = c.in_ok-bytes.ensures.len in omega (arith, z)) in
    let first : c.add_bytes.new.bytes.items ≡ take n (all_read m front) = c.add_bytes.ensures.items ∙ (λ i. none i ++ take (start i) (all_read m front)) in
    let len : vec_len c.add_bytes.new.bytes ≡ length (take n (all_read m front)) = c.add_bytes.new.bytes.ok.0 ∙ ap length first in
    c.add_bytes-2.ensures.items
    ∙ (λ i. first i ++ take (n - len i) (all_read m back))
    ∙ take-both n (all_read m front) (all_read m back)
    ∙ ap (take n) (sym (read-append m front back))
    ∙ ap (λ zs. take n (all_read m zs)) c.as_slices.ensures
