use Rattle.std.proofs.Common.{◌≡◌, ◌∙◌, ◌++◌, ◌∷◌, ◌+◌, ◌-◌, ap, sym, length, drop, take, slice_index_or, arith}
use Rattle.std.proofs.lemmas.List.{drop_more, append_assoc, length-append, length-take-le}
use Rattle.pl_segments.specs.Segments.{segment_at}
use Rattle.pl_segments.specs.Slices.{all_read, reads}
use Rattle.pl_segments.proofs.SlotLemmas.{no_slice}
use Rattle.pl_segments.proofs.Pushing.{lie-at}
use Rattle.pl_segments.proofs.Fronting.{take-both}
use Rattle.pl_ring.proofs.front.fill.Goals as goal

pub fill-filled-requires-clause-lies : goal.fill-filled-requires-clause-lies
fill-filled-requires-clause-lies g c = lie-at (segment_at c.args.store.now) c.args.slots.now c.loop-place.place no_slice c.loop-place-test.true c.requires.lie

pub loop-place-preserved : goal.loop-place-preserved
loop-place-preserved g c =
    let m = segment_at c.args.store.now in
    let xs = c.args.slots.now in
    let i = c.loop-place.place in
    let x = slice_index_or xs i no_slice in
    let rest = all_read m (drop (i + 1) xs) in
    let inv = c.loop-place.invariant in
    let shape : drop i xs ≡ x ∷ drop (i + 1) xs = drop_more xs i no_slice c.loop-place-test.true in
    let f = c.loop-place.filled in
    let n = length c.args.into.now in
    let old = take f c.loop-place.into in
    let bytes : take c.fill-filled.result c.fill-filled.new.into ≡ old ++ take (n - f) (reads m x) = c.fill-filled.ensures.bytes ∙ ap (λ k. old ++ take (k - f) (reads m x)) inv.len in
    let long = ap length bytes in
    let parts = length-append old (take (n - f) (reads m x)) in
    let before = length-take-le f c.loop-place.into (omega (arith, inv.len, inv.filled)) in
    let after = length-take-le c.fill-filled.result c.fill-filled.new.into c.fill-filled.ensures.most in
    let left : n - c.fill-filled.result ≡ (n - f) - length (take (n - f) (reads m x)) = omega (arith, long, parts, before, after) in
    record {
      read = (λ j. bytes j ++ take (left j) rest)
          ∙ append_assoc old (take (n - f) (reads m x)) (take ((n - f) - length (take (n - f) (reads m x))) rest)
          ∙ ap (λ bs. old ++ bs) (take-both (n - f) (reads m x) rest)
          ∙ ap (λ zs. old ++ take (n - f) (all_read m zs)) (sym shape)
          ∙ inv.read;
      filled = omega (arith, c.fill-filled.ensures.most, c.fill-filled.ensures.len, inv.len);
      len = c.fill-filled.ensures.len ∙ inv.len;
      place = omega (arith, c.loop-place-test.true);
    }
