use Rattle.std.proofs.Common.{◌≡◌, ◌∙◌, ◌++◌, ◌∷◌, ◌+◌, ◌-◌, ap, sym, length, drop, take, slice_index_or, arith}
use Rattle.std.specs.Prelude.{vec_len, is_ok, if◌then◌else◌}
use Rattle.std.proofs.lemmas.List.{drop_more, append_assoc}
use Rattle.pl_segments.specs.Segments.{segment_at}
use Rattle.pl_segments.specs.Slices.{all_read, reads, Lies}
use Rattle.pl_segments.proofs.Changing.{length-reads}
use Rattle.pl_segments.specs.Slots.{cut_end}
use Rattle.pl_segments.proofs.SlotLemmas.{no_slice, reads-cut_end, lies-cut_end}
use Rattle.pl_segments.proofs.Pushing.{lie-at}
use Rattle.pl_segments.proofs.Fronting.{take-parts}
use Rattle.pl_ring.proofs.front.add_bytes.Goals as goal

pub bytes-requires : goal.bytes-requires
bytes-requires g c =
    let x = slice_index_or c.args.slots.now c.loop-place.place no_slice in
    let k = c.min-len.ensures in
    lies-cut_end (segment_at c.args.store.now) x c.min-len.result (omega (arith, k)) (lie-at (segment_at c.args.store.now) c.args.slots.now c.loop-place.place no_slice c.loop-place-test.true c.requires.lie)

pub unwrap-requires : goal.unwrap-requires
unwrap-requires g c =
    let m = segment_at c.args.store.now in
    let x = slice_index_or c.args.slots.now c.loop-place.place no_slice in
    let k = c.min-len.ensures in
    let lies : Lies m (cut_end c.min-len.result x) = lies-cut_end m x c.min-len.result (omega (arith, k)) (lie-at m c.args.slots.now c.loop-place.place no_slice c.loop-place-test.true c.requires.lie) in
    let len : length c.bytes.result.now ≡ c.min-len.result = ap length c.bytes.ensures ∙ length-reads m (cut_end c.min-len.result x) lies in
    c.extend_from_slice.ensures.succeeds (omega (arith, len, k, c.len-in-loop-place.ensures, c.loop-place.invariant.capacity, c.loop-place.invariant.len))

pub loop-place-preserved : goal.loop-place-preserved
loop-place-preserved g c =
    let m = segment_at c.args.store.now in
    let xs = c.args.slots.now in
    let i = c.loop-place.place in
    let x = slice_index_or xs i no_slice in
    let rest = drop (i + 1) xs in
    let inv = c.loop-place.invariant in
    let shape : drop i xs ≡ x ∷ rest = drop_more xs i no_slice c.loop-place-test.true in
    let k = c.min-len.ensures in
    let there = lie-at m xs i no_slice c.loop-place-test.true c.requires.lie in
    let n = c.min-len.result in
    let long : length (reads m x) ≡ x.len = length-reads m x there in
    let part : c.bytes.result.now ≡ take n (reads m x) = c.bytes.ensures ∙ reads-cut_end m x n (omega (arith, k)) in
    let lies : Lies m (cut_end n x) = lies-cut_end m x n (omega (arith, k)) there in
    let len : length c.bytes.result.now ≡ n = ap length c.bytes.ensures ∙ length-reads m (cut_end n x) lies in
    let old = c.loop-place.bytes.items in
    let items : c.extend_from_slice.new.self.items ≡ old ++ c.bytes.result.now = c.extend_from_slice.ensures.items ∙ ap (λ r. if is_ok r then old ++ c.bytes.result.now else old) c.unwrap.ensures in
    let more : vec_len c.extend_from_slice.new.self ≡ vec_len c.loop-place.bytes + length c.bytes.result.now = c.extend_from_slice.ensures.len ∙ ap (λ r. if is_ok r then vec_len c.loop-place.bytes + length c.bytes.result.now else vec_len c.loop-place.bytes) c.unwrap.ensures in
    let had = c.len-in-loop-place.ensures in
    let left : c.args.count - vec_len c.extend_from_slice.new.self ≡ (c.args.count - vec_len c.loop-place.bytes) - n = omega (arith, more, len, had) in
    let now = c.args.count - vec_len c.loop-place.bytes in
    record {
      read = (λ j. items j ++ take (left j) (all_read m rest))
          ∙ append_assoc old c.bytes.result.now (take (now - n) (all_read m rest))
          ∙ ap (λ bs. old ++ (bs ++ take (now - n) (all_read m rest))) part
          ∙ ap (λ bs. old ++ bs) (take-parts n now (reads m x) (all_read m rest) (omega (arith, k, long)) (omega (arith, k, had)) (λ h. omega (arith, k, long, had, h)))
          ∙ ap (λ zs. old ++ take now (all_read m zs)) (sym shape)
          ∙ inv.read;
      len = omega (arith, more, len, k, had, inv.len);
      capacity = omega (arith, inv.capacity, c.extend_from_slice.ensures.capacity);
      place = omega (arith, c.loop-place-test.true);
    }
