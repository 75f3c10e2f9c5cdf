-- Bytes that are written over those of a slice that alone holds its segment.
use Rattle.std.proofs.Common.{◌≡◌, ℕ, ◌+◌, ◌-◌, ◌≤◌, List, [], ◌∷◌, ◌++◌, Option, Some, None, refl, sym, ◌∙◌, ap, length, take, drop, arith}
use Rattle.std.specs.List.{splice}
use Rattle.std.proofs.lemmas.List.{length-append, length-take, length-take-le, length-drop, take-take, drop-take, drop-drop, drop-append-le}
use Rattle.pl_segments.specs.declared.slice.Slice.{Slice}
use Rattle.pl_segments.specs.Segments.{Segment, Map, set_at, bytes_in, holders_in, filled, holders, overwritten}
use Rattle.pl_segments.specs.Slices.{Lies, reads}
use Rattle.pl_segments.specs.Turns.{Turns}
use Rattle.pl_segments.proofs.Changing.{set-here, set-there, naming-one, turns-at}
use Rattle.pl_segments.proofs.Fronting.{take-past}

-- a list stays as long as it was
pub length-splice : (xs bytes : List ℕ) (place : ℕ) → place + length bytes ≤ length xs → length (splice xs place (place + length bytes) bytes) ≡ length xs
length-splice xs bytes place within =
    let a = length-append (take place xs) (bytes ++ drop (place + length bytes) xs) in
    let b = length-append bytes (drop (place + length bytes) xs) in
    let c = length-take place xs in
    let d = length-drop (place + length bytes) xs in
    omega (arith, a, b, c, d, within)

-- bytes over those of the front of a list, and of what stands behind it
pub splice-front : (xs bytes : List ℕ) (len place : ℕ) → place + length bytes ≤ len → len ≤ length xs →
    take len (splice xs place (place + length bytes) bytes) ≡ splice (take len xs) place (place + length bytes) bytes
splice-front xs bytes len place within long =
    let end = place + length bytes in
    let front : length (take place xs) ≡ place = length-take-le place xs (omega (arith, within, long)) in
    let left : len - length (take place xs) - length bytes ≡ len - end = omega (arith, front) in
    let whole : end + (len - end) ≡ len = omega (arith, within) in
    let behind : drop end (take len xs) ≡ take (len - end) (drop end xs) = ap (λ n. drop end (take n xs)) (sym whole) ∙ drop-take end (len - end) xs in
    take-past (take place xs) (bytes ++ drop end xs) len (omega (arith, front, within))
    ∙ ap (λ bs. take place xs ++ bs) (take-past bytes (drop end xs) (len - length (take place xs)) (omega (arith, front, within)))
    ∙ (λ i. sym (take-take place len xs (omega (arith, within))) i ++ (bytes ++ (ap (λ n. take n (drop end xs)) left ∙ sym behind) i))

splice-behind : (xs bytes : List ℕ) (from place : ℕ) → from ≤ length xs →
    drop from (splice xs (from + place) (from + place + length bytes) bytes) ≡ splice (drop from xs) place (place + length bytes) bytes
splice-behind xs bytes from place within =
    let here = length-take (from + place) xs in
    let end : from + place + length bytes ≡ from + (place + length bytes) = omega arith in
    drop-append-le from (take (from + place) xs) (bytes ++ drop (from + place + length bytes) xs) (omega (arith, here, within))
    ∙ (λ i. drop-take from place xs i ++ (bytes ++ (ap (λ n. drop n xs) end ∙ sym (drop-drop (place + length bytes) from xs)) i))

over-holders : (place : ℕ) (bytes : List ℕ) (o : Option Segment) → holders_in (overwritten place bytes o) ≡ holders_in o
over-holders place bytes None = refl
over-holders place bytes (Some s) = refl

over-bytes : (place : ℕ) (bytes : List ℕ) (o : Option Segment) → 1 ≤ holders_in o → bytes_in (overwritten place bytes o) ≡ splice (bytes_in o) place (place + length bytes) bytes
over-bytes place bytes None l = absurd (omega (arith, l))
over-bytes place bytes (Some s) l = refl

module _ (m n : Map) (x : Slice) (place : ℕ) (bytes : List ℕ) (lies : Lies m x) (within : place + length bytes ≤ x.len)
    (is : n ≡ set_at m x.segment (overwritten (x.from + place) bytes (m x.segment))) where
  bytes_there : filled n x.segment ≡ splice (filled m x.segment) (x.from + place) (x.from + place + length bytes) bytes
  bytes_there = ap bytes_in (set-here m n x.segment _ is) ∙ over-bytes (x.from + place) bytes (m x.segment) lies.here

  holders_there : holders n x.segment ≡ holders m x.segment
  holders_there = ap holders_in (set-here m n x.segment _ is) ∙ over-holders (x.from + place) bytes (m x.segment)

  pub turns-over : holders m x.segment ≡ 1 → Turns m (x ∷ []) n (x ∷ [])
  turns-over alone =
      let long = length-splice (filled m x.segment) bytes (x.from + place) (omega (arith, lies.within, within)) in
      turns-at m n (x ∷ []) (x ∷ []) x.segment (set-there m n x.segment _ is) (λ q d. refl)
      (omega (arith, holders_there))
      (λ l. absurd (omega (arith, l, alone, naming-one x)))
      (record { here = omega (arith, holders_there, lies.here); within = omega (arith, lies.within, ap length bytes_there, long) }, tt)

  pub reads-over : reads n x ≡ splice (reads m x) place (place + length bytes) bytes
  unfolding reads
  reads-over =
      let all = filled m x.segment in
      ap (λ f. take x.len (drop x.from f)) bytes_there
      ∙ ap (take x.len) (splice-behind all bytes x.from place (omega (arith, lies.within)))
      ∙ splice-front (drop x.from all) bytes x.len place within (omega (arith, length-drop x.from all, lies.within))
