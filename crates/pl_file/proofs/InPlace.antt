-- Bytes written over those of slots that nobody else reads.
use Rattle.std.proofs.Common.{◌≡◌, ℕ, ◌+◌, ◌-◌, ◌<◌, ◌≤◌, List, [], ◌∷◌, ◌++◌, Some, refl, sym, ◌∙◌, ap, subst, inl, inr, length, take, drop, arith}
use Rattle.std.specs.Prelude.{◌⊎◌, replicate, slice_get}
use Rattle.std.specs.List.{splice}
use Rattle.std.proofs.lemmas.Bool.{cases_lt}
use Rattle.std.proofs.lemmas.List.{append-nil, append_assoc, take_all, take-append-le, drop-append-le, length-append, length-take, length-drop, drop-drop}
use Rattle.std.proofs.lemmas.Option.{same_Some}
use Rattle.std.proofs.Math.Seq.{take-append-add, drop-append-add, take-append_seam}
use Rattle.pl_segments.specs.declared.slice.Slice.{Slice}
use Rattle.pl_segments.specs.Segments.{Map, holders}
use Rattle.pl_segments.specs.Slices.{Lies, reads, all_read}
use Rattle.pl_segments.specs.Turns.{Holds, Turns}
use Rattle.pl_segments.specs.Slots.{total}
use Rattle.pl_segments.proofs.Changing.{length-reads}
use Rattle.pl_segments.proofs.Turning.{read-append, lie-left, lie-right, turns-behind, read-behind, turns-before, read-before}
use Rattle.pl_segments.proofs.SlotLemmas.{total-read}
use Rattle.pl_segments.proofs.Together.{holds-right}
use Rattle.pl_file.specs.File.{written}
use Rattle.pl_file.specs.Alone.{AreAlone}
use Rattle.pl_file.proofs.Cutting.{here-total, here-split}
use Rattle.pl_file.proofs.Editing.{written-some, written-none, total-take}

-- Among some slots there is one that alone holds its segment, and so many bytes from a place on lie in it, from a place among its own on.
pub record LieAlone (m : Map) (slots : List Slice) (place count : ℕ) (x : Slice) (at : ℕ) : Type 0 where
  pub before : List Slice
  pub after : List Slice
  pub shape : slots ≡ before ++ x ∷ after
  pub starts : total before + at ≡ place
  pub fits : at + count ≤ x.len
  pub alone : holders m x.segment ≡ 1

-- bytes over those of a part in the middle of a list
splice-middle : (front part rest bytes : List ℕ) (at : ℕ) → at + length bytes ≤ length part →
    splice (front ++ (part ++ rest)) (length front + at) (length front + at + length bytes) bytes ≡ front ++ (splice part at (at + length bytes) bytes ++ rest)
splice-middle front part rest bytes at fits =
    let whole = part ++ rest in
    let end : length front + at + length bytes ≡ length front + (at + length bytes) = omega arith in
    let before : take (length front + at) (front ++ whole) ≡ front ++ take at part =
    take-append-add front whole at ∙ ap (λ bs. front ++ bs) (take-append-le at part rest (omega (arith, fits))) in
    let behind : drop (length front + at + length bytes) (front ++ whole) ≡ drop (at + length bytes) part ++ rest =
    ap (λ n. drop n (front ++ whole)) end ∙ drop-append-add front whole (at + length bytes) ∙ drop-append-le (at + length bytes) part rest fits in
    (λ i. before i ++ (bytes ++ behind i))
    ∙ append_assoc front (take at part) (bytes ++ (drop (at + length bytes) part ++ rest))
    ∙ ap (λ bs. front ++ (take at part ++ bs)) (sym (append_assoc bytes (drop (at + length bytes) part) rest))
    ∙ ap (λ bs. front ++ bs) (sym (append_assoc (take at part) (bytes ++ drop (at + length bytes) part) rest))

-- a write that doesn't reach past the end
written-over : (place : ℕ) (bytes old : List ℕ) → 1 ≤ length bytes → place + length bytes ≤ length old → written place bytes old ≡ splice old place (place + length bytes) bytes
written-over place bytes old some within =
    let none : place - length old ≡ 0 = omega (arith, within) in
    written-some place bytes old some ∙ ap (λ k. take place old ++ (replicate k 0 ++ (bytes ++ drop (place + length bytes) old))) none

module _ (m n : Map) (xs : List Slice) (place : ℕ) (bytes : List ℕ) (x : Slice) (at : ℕ) (held : Holds m xs) (here : LieAlone m xs place (length bytes) x at) where
  split : Holds m (here.before ++ x ∷ here.after)
  split = subst (Holds m) here.shape held

  pub over-lies : Lies m x
  over-lies = (lie-right m here.before (x ∷ here.after) split.lie).0

  module _ (t : Turns m (x ∷ []) n (x ∷ [])) where
    from_here : Holds m (x ∷ here.after)
    from_here = holds-right m here.before (x ∷ here.after) split

    turns_here : Turns m (x ∷ here.after) n (x ∷ here.after)
    turns_here = turns-before m n (x ∷ []) (x ∷ []) here.after from_here t

    pub over-turns : Turns m xs n xs
    over-turns = subst (λ zs. Turns m zs n zs) (sym here.shape) (turns-behind m n here.before (x ∷ here.after) (x ∷ here.after) split turns_here)

    pub over-read : reads n x ≡ splice (reads m x) at (at + length bytes) bytes → 1 ≤ length bytes → all_read n xs ≡ written place bytes (all_read m xs)
    over-read over some =
        let front = all_read m here.before in
        let part = reads m x in
        let rest = all_read m here.after in
        let old : all_read m xs ≡ front ++ (part ++ rest) = ap (all_read m) here.shape ∙ read-append m here.before (x ∷ here.after) in
        let front-long : length front ≡ total here.before = total-read m here.before (lie-left m here.before (x ∷ here.after) split.lie) in
        let part-long : length part ≡ x.len = length-reads m x over-lies in
        let fits : at + length bytes ≤ length part = omega (arith, here.fits, part-long) in
        let starts : length front + at ≡ place = omega (arith, here.starts, front-long) in
        let whole = length-append front (part ++ rest) in
        let two = length-append part rest in
        ap (all_read n) here.shape
        ∙ read-behind m n here.before (x ∷ here.after) (x ∷ here.after) split turns_here
        ∙ ap (λ bs. front ++ bs) (read-before m n (x ∷ []) (x ∷ []) here.after from_here t ∙ ap (λ bs. bs ++ rest) (append-nil (reads n x) ∙ over))
        ∙ sym (splice-middle front part rest bytes at fits)
        ∙ sym (written-over (length front + at) bytes (front ++ (part ++ rest)) some (omega (arith, whole, two, fits)))
        ∙ (λ i. written (starts i) bytes (sym old i))

-- ---- several slots

-- a slot that begins before the end is there
pub before-end : (xs : List Slice) (i : ℕ) → total (take i xs) < total xs → i < length xs
before-end xs i less = by (cases_lt i (length xs))
  where
    by : (i < length xs) ⊎ (length xs ≤ i) → i < length xs
    by (inl h) = h
    by (inr h) = let e = ap total (take_all i xs h) in absurd (omega (arith, e, less))

-- a place before the end lies in the slot that is found for it
pub found-inside : (xs : List Slice) (i place : ℕ) → (i + 1 < length xs → place < total (take (i + 1) xs)) → place < total xs → place < total (take (i + 1) xs)
found-inside xs i place after less = by (cases_lt (i + 1) (length xs))
  where
    by : (i + 1 < length xs) ⊎ (length xs ≤ i + 1) → place < total (take (i + 1) xs)
    by (inl h) = after h
    by (inr h) = let e = ap total (take_all (i + 1) xs h) in omega (arith, e, less)

module _ (m : Map) (xs : List Slice) (first i : ℕ) (x : Slice) (got : slice_get xs i ≡ Some x) (one : holders m x.segment ≡ 1)
    (before : (k : ℕ) (y : Slice) → first ≤ k → k < i → slice_get xs k ≡ Some y → holders m y.segment ≡ 1) where
  -- the slots before a place alone hold their segments, and so does this one
  pub alone-next : (k : ℕ) (y : Slice) → first ≤ k → k < i + 1 → slice_get xs k ≡ Some y → holders m y.segment ≡ 1
  alone-next k y least less at = by (cases_lt k i)
    where
      by : (k < i) ⊎ (i ≤ k) → holders m y.segment ≡ 1
      by (inl h) = before k y least h at
      by (inr h) =
          let e : i ≡ k = omega (arith, h, less) in
          subst (λ z. holders m z.segment ≡ 1) (same_Some x y (sym got ∙ ap (slice_get xs) e ∙ at)) one

  -- and they are all in which the bytes lie
  pub alone-all : (place count left : ℕ) → total (take first xs) ≤ place → place < total (take (first + 1) xs) → place + count ≤ total xs → total (take i xs) + left ≡ place + count → left ≤ x.len → AreAlone m xs first place count
  alone-all place count left begins inside ends here fits = record {
    begins = begins;
    inside = inside;
    ends = ends;
    alone = λ k y least less at.
        let earlier : k < i + 1 = by k less (cases_lt k (i + 1)) in
        alone-next k y least earlier at;
  }
    where
      by : (k : ℕ) → total (take k xs) < place + count → (k < i + 1) ⊎ (i + 1 ≤ k) → k < i + 1
      by k less (inl h) = h
      by k less (inr h) =
          let behind = total-take xs (i + 1) k h in
          let t = here-total xs i x got in
          absurd (omega (arith, behind, t, less, here, fits))

-- bytes over those that are there, and more behind them, are all of these
pub written-then : (place p : ℕ) (front more old : List ℕ) → place + length front ≡ p → 1 ≤ length more → p + length more ≤ length old →
    written p more (written place front old) ≡ written place (front ++ more) old
written-then place p [] more old e some within =
    (λ i. written ((let z : p ≡ place = omega (arith, e) in z) i) more (written-none place [] old refl i))
written-then place p (b ∷ bs) more old e some within =
    let front = b ∷ bs in
    let rest = drop (place + length front) old in
    let long = length-take place old in
    let l = length-append front more in
    let over : written place front old ≡ take place old ++ (front ++ rest) = written-over place front old (omega arith) (omega (arith, e, within)) in
    let len = length-append (take place old) (front ++ rest) in
    let len2 = length-append front rest in
    let len3 = length-drop (place + length front) old in
    let at : p ≡ length (take place old) + length front = omega (arith, e, long, within) in
    let before : take p (take place old ++ (front ++ rest)) ≡ take place old ++ front =
    ap (λ n. take n (take place old ++ (front ++ rest))) at ∙ take-append-add (take place old) (front ++ rest) (length front) ∙ ap (λ bs. take place old ++ bs) (take-append_seam front rest) in
    let end : p + length more ≡ length (take place old) + (length front + length more) = omega (arith, at) in
    let behind : drop (p + length more) (take place old ++ (front ++ rest)) ≡ drop (place + length (front ++ more)) old =
    ap (λ n. drop n (take place old ++ (front ++ rest))) end
    ∙ drop-append-add (take place old) (front ++ rest) (length front + length more)
    ∙ drop-append-add front rest (length more)
    ∙ drop-drop (length more) (place + length front) old
    ∙ ap (λ n. drop n old) (let n : place + length front + length more ≡ place + length (front ++ more) = omega (arith, l) in n) in
    ap (written p more) over
    ∙ written-over p more (take place old ++ (front ++ rest)) some (omega (arith, len, len2, len3, long, e, within))
    ∙ (λ i. before i ++ (more ++ behind i))
    ∙ append_assoc (take place old) front (more ++ drop (place + length (front ++ more)) old)
    ∙ ap (λ bs. take place old ++ bs) (sym (append_assoc front more (drop (place + length (front ++ more)) old)))
    ∙ sym (written-over place (front ++ more) old (omega (arith, l, some)) (omega (arith, l, e, within)))

-- bytes from a place in a slot on, which alone holds its segment
pub lies-here : (m : Map) (xs : List Slice) (i : ℕ) (x : Slice) → slice_get xs i ≡ Some x → holders m x.segment ≡ 1 → (at count : ℕ) → at + count ≤ x.len → LieAlone m xs (total (take i xs) + at) count x at
lies-here m xs i x got one at count fits = record {
  before = take i xs;
  after = drop (i + 1) xs;
  shape = here-split xs i x got;
  starts = refl;
  fits = fits;
  alone = one;
}
