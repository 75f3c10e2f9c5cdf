-- The bytes of some slots written where they stand.
use Rattle.std.proofs.Common.{◌≡◌, ℕ, zero, suc, ◌+◌, ◌-◌, ◌<◌, ◌≤◌, List, [], ◌∷◌, ◌++◌, refl, sym, ◌∙◌, ap, subst, length, take, drop, arith}
use Rattle.std.specs.Prelude.{replicate}
use Rattle.std.proofs.lemmas.List.{append_assoc, take-append-drop, take-take, take_at, length-append}
use Rattle.std.proofs.Math.Seq.{drop-append_seam}
use Rattle.pl_segments.specs.declared.slice.Slice.{Slice}
use Rattle.pl_segments.specs.Segments.{Map, holders}
use Rattle.pl_segments.specs.Slices.{AllLie, all_read}
use Rattle.pl_segments.specs.Slots.{total, AllSolid}
use Rattle.pl_segments.specs.Turns.{Turns}
use Rattle.pl_segments.proofs.SlotLemmas.{total-append, total-read}
use Rattle.pl_segments.proofs.Turning.{read-append, lie-left, lie-right}
use Rattle.pl_file.specs.File.{written}
use Rattle.pl_file.proofs.Editing.{total-some, solid-length, naming-length}

-- bytes that stand at a place, written there
pub written-same : (fs bs rs : List ℕ) → 1 ≤ length bs → written (length fs) bs (fs ++ (bs ++ rs)) ≡ fs ++ (bs ++ rs)
written-same fs [] rs some = absurd (omega (arith, some))
written-same fs (b ∷ bs) rs some =
    let ms = b ∷ bs in
    let old = fs ++ (ms ++ rs) in
    let l = length-append fs (ms ++ rs) in
    let n = length-append fs ms in
    let none : length fs - length old ≡ 0 = omega (arith, l) in
    let front : take (length fs) old ≡ fs = take_at fs (ms ++ rs) (length fs) refl in
    let behind : drop (length fs + length ms) old ≡ rs =
    (λ i. drop (sym n i) (sym (append_assoc fs ms rs) i)) ∙ drop-append_seam (fs ++ ms) rs in
    (λ i. front i ++ (replicate (none i) 0 ++ (ms ++ behind i)))

-- more slots have more bytes
pub total-less : (xs : List Slice) (i j : ℕ) → AllSolid xs → i < j → j ≤ length xs → total (take i xs) < total (take j xs)
total-less [] i j solid l most = absurd (omega (arith, l, most))
total-less (x ∷ xs) i zero solid l most = absurd (omega (arith, l))
total-less (x ∷ xs) zero (suc j) solid l most = let s = solid.0 in omega (arith, s)
total-less (x ∷ xs) (suc i) (suc j) solid l most = let r = total-less xs i j solid.1 (omega (arith, l)) (omega (arith, most)) in omega (arith, r)

module _ (m : Map) (xs : List Slice) (i j : ℕ) (order : i < j) (most : j ≤ length xs) (lie : AllLie m xs) (solid : AllSolid xs) where
  abbrev pub between : List ℕ
  between = all_read m (drop i (take j xs))

  parts : take i xs ++ (drop i (take j xs) ++ drop j xs) ≡ xs
  parts =
      sym (append_assoc (take i xs) (drop i (take j xs)) (drop j xs))
      ∙ ap (λ ys. (ys ++ drop i (take j xs)) ++ drop j xs) (sym (take-take i j xs (omega (arith, order))))
      ∙ ap (λ ys. ys ++ drop j xs) (take-append-drop i (take j xs))
      ∙ take-append-drop j xs

  lie-parts : AllLie m (take i xs ++ (drop i (take j xs) ++ drop j xs))
  lie-parts = subst (AllLie m) (sym parts) lie

  front-length : length (all_read m (take i xs)) ≡ total (take i xs)
  front-length = let t = total-read m (take i xs) (lie-left m (take i xs) (drop i (take j xs) ++ drop j xs) lie-parts) in omega (arith, t)

  pub between-length : total (take i xs) + length between ≡ total (take j xs)
  between-length =
      let t = total-read m (drop i (take j xs)) (lie-left m (drop i (take j xs)) (drop j xs) (lie-right m (take i xs) (drop i (take j xs) ++ drop j xs) lie-parts)) in
      let a = total-append (take i (take j xs)) (drop i (take j xs)) in
      let w = ap total (take-append-drop i (take j xs)) in
      let e = ap total (take-take i j xs (omega (arith, order))) in
      omega (arith, t, a, w, e)

  pub between-some : 1 ≤ length between
  between-some = let b = between-length in let l = total-less xs i j solid order most in omega (arith, b, l)

  pub between-most : total (take i xs) + length between ≤ total xs
  between-most =
      let b = between-length in
      let a = total-append (take j xs) (drop j xs) in
      let w = ap total (take-append-drop j xs) in
      omega (arith, b, a, w)

  pub between-written : written (total (take i xs)) between (all_read m xs) ≡ all_read m xs
  between-written =
      let shape : all_read m xs ≡ all_read m (take i xs) ++ (between ++ all_read m (drop j xs)) =
      ap (all_read m) (sym parts)
      ∙ read-append m (take i xs) (drop i (take j xs) ++ drop j xs)
      ∙ ap (λ ys. all_read m (take i xs) ++ ys) (read-append m (drop i (take j xs)) (drop j xs)) in
      (λ k. written (sym front-length k) between (shape k))
      ∙ written-same (all_read m (take i xs)) between (all_read m (drop j xs)) between-some
      ∙ sym shape

-- there are slots after a write, and no segment has many more holders than before
pub written-some : (place : ℕ) (bs old : List ℕ) → 1 ≤ length bs → 1 ≤ length (written place bs old)
written-some place [] old some = absurd (omega (arith, some))
written-some place (b ∷ bs) old some =
    let zeros = replicate (place - length old) 0 in
    let behind = drop (place + length (b ∷ bs)) old in
    let f = length-append (take place old) (zeros ++ ((b ∷ bs) ++ behind)) in
    let z = length-append zeros ((b ∷ bs) ++ behind) in
    let n = length-append (b ∷ bs) behind in
    omega (arith, f, z, n, some)

module _ (m n : Map) (xs ys : List Slice) (turns : Turns m xs n ys) where
  pub turned-some : 1 ≤ length (all_read n ys) → 1 ≤ length ys
  turned-some some = let t = total-read n ys turns.lie in total-some ys (omega (arith, t, some))

  pub turned-few : AllSolid ys → (key : ℕ) → holders n key ≤ holders m key + total ys
  turned-few solid key =
      let c = turns.counted key in
      let l = naming-length ys key in
      let s = solid-length ys solid in
      omega (arith, c, l, s)
