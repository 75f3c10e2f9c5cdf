-- A slot that is pushed into fixed places: alone, or as one with the last.
use Rattle.std.proofs.Common.{◌≡◌, ℕ, suc, ◌+◌, ◌-◌, ◌*◌, ◌/◌, ◌%◌, ◌≤◌, Bool, true, false, List, [], ◌∷◌, ◌++◌, None, refl, sym, ◌∙◌, ap, subst, length, arith, inl, inr}
use Rattle.std.proofs.lemmas.List.{length_push}
use Rattle.pl_segments.specs.declared.slice.Slice.{Slice}
use Rattle.pl_segments.specs.Segments.{segment_size, Map}
use Rattle.pl_segments.specs.Slices.{one_if}
use Rattle.std.proofs.lemmas.Bool.Decides.{leb_tells}
use Rattle.pl_segments.specs.Slots.{total, AllSolid, drop_bytes, last_len}
use Rattle.pl_ring.specs.Ring.{place_size}
use Rattle.pl_ring.specs.Merging.{lens, AreTight, AreMerged, joins, joining, merges, merges_onto}
use Rattle.pl_segments.proofs.Fronting.{drop-whole, drop-part}
use Rattle.pl_segments.proofs.Together.{all-together, is-last}
use Rattle.pl_segments.proofs.SlotLemmas.{last-len, last-some}
use Rattle.pl_ring.proofs.Merging.{sum_of, AreSome, merged, merged-stays, merged-yes, merged-no, merges-yes, merges-no, joins-long, slots-bound, merged-drop, merged-gone}

-- the lengths of slots
pub lens-append : (xs ys : List Slice) → lens (xs ++ ys) ≡ lens xs ++ lens ys
lens-append [] ys = refl
lens-append (x ∷ xs) ys = ap (λ ns. x.len ∷ ns) (lens-append xs ys)

pub length-lens : (xs : List Slice) → length (lens xs) ≡ length xs
length-lens [] = refl
length-lens (x ∷ xs) = ap suc (length-lens xs)

sum-lens : (xs : List Slice) → sum_of (lens xs) ≡ total xs
sum-lens [] = refl
sum-lens (x ∷ xs) = ap (λ n. x.len + n) (sum-lens xs)

some-lens : (xs : List Slice) → AllSolid xs → AreSome (lens xs)
some-lens [] s = tt
some-lens (x ∷ xs) s = (s.0, some-lens xs s.1)

-- the bound of slots, on slots
pub places-enough : (xs : List Slice) (places : ℕ) → AreMerged (lens xs) → AllSolid xs → places % 2 ≡ 0 → total xs ≤ place_size * places → length xs ≤ places
places-enough xs places m s even l =
    let b = slots-bound (lens xs) (places / 2) m (some-lens xs s) (let e = sum-lens xs in omega (arith, e, even, l)) in
    let n = length-lens xs in
    omega (arith, b, n, even)

-- a slot becomes one with one other at most
pub joining-most : (xs : List Slice) (s : Slice) → joining xs s ≤ 1
joining-most xs s = by (joins (length xs) (last_len xs) s.len)
  where
    by : (b : Bool) → one_if b ≤ 1
    by true = omega arith
    by false = omega arith

-- a slot of a whole segment stands alone
pub full-alone : (xs : List Slice) (s : Slice) → AllSolid xs → segment_size ≤ s.len → joining xs s ≡ 0
full-alone [] s a l = refl
full-alone (x ∷ xs) s a l =
    let some = last-some x xs a in
    ap one_if (joins-long (length (x ∷ xs)) (last_len (x ∷ xs)) s.len (omega (arith, some, l)))

-- a slot that stands alone
module _ (xs : List Slice) (s : Slice) (apart : joins (length xs) (last_len xs) s.len ≡ false) where
  pub alone-none : joining xs s ≡ 0
  alone-none = ap one_if apart

  pub alone-plan : (rest : List ℕ) → merges_onto (xs ++ s ∷ []) rest + joining xs s ≡ merges_onto xs (s.len ∷ rest)
  alone-plan rest =
      let e : merges_onto (xs ++ s ∷ []) rest ≡ merges (length xs + 1) s.len rest = (λ i. merges (length_push xs s i) (last-len xs s i) rest) in
      let f : merges_onto xs (s.len ∷ rest) ≡ merges (length xs + 1) s.len rest = merges-no (length xs) (last_len xs) s.len rest apart in
      let z = alone-none in
      omega (arith, e, f, z)

module _ (m n : Map) (xs front : List Slice) (x y s : Slice) (shape : xs ≡ front ++ x ∷ []) where
  together : xs ++ s ∷ [] ≡ front ++ (x ∷ s ∷ [])
  together = all-together m n xs front x y s shape

  last-is : last_len xs ≡ x.len
  last-is = is-last m n xs front x y s shape

  count : length (lens front) + 1 ≡ length xs
  count = (let a = length-lens front in let b = length_push front x in let c = ap length shape in omega (arith, a, b, c))

  merged-lens : AreMerged (lens xs) → AreMerged (lens front ++ merged (length xs) x.len (s.len ∷ []))
  merged-lens h =
      subst (λ k. AreMerged (lens front ++ merged k x.len (s.len ∷ []))) count
      (merged-stays (lens front) x.len (s.len ∷ []) (subst AreMerged (ap lens shape ∙ lens-append front (x ∷ [])) h))

  -- it stands alone
  pub alone-merged : AreMerged (lens xs) → joins (length xs) (last_len xs) s.len ≡ false → AreMerged (lens (xs ++ s ∷ []))
  alone-merged h apart =
      subst AreMerged
      (ap (λ ns. lens front ++ ns) (merged-no (length xs) x.len s.len [] (ap (λ k. joins (length xs) k s.len) (sym last-is) ∙ apart)) ∙ sym (lens-append front (x ∷ s ∷ [])) ∙ ap lens (sym together))
      (merged-lens h)

  -- it becomes one with the last
  module _ (fit : joins (length xs) (last_len xs) s.len ≡ true) (len : y.len ≡ x.len + s.len) where
    pub one-merged : AreMerged (lens xs) → AreMerged (lens (front ++ y ∷ []))
    one-merged h =
        subst AreMerged
        (ap (λ ns. lens front ++ ns) (merged-yes (length xs) x.len s.len [] (ap (λ k. joins (length xs) k s.len) (sym last-is) ∙ fit)) ∙ ap (λ k. lens front ++ k ∷ []) (sym len) ∙ sym (lens-append front (y ∷ [])))
        (merged-lens h)

    pub one-plan : (rest : List ℕ) → merges_onto (front ++ y ∷ []) rest + joining xs s ≡ merges_onto xs (s.len ∷ rest)
    one-plan rest =
        let k : length (front ++ y ∷ []) ≡ length xs = length_push front y ∙ sym (length_push front x) ∙ ap length (sym shape) in
        let l : last_len (front ++ y ∷ []) ≡ last_len xs + s.len = last-len front y ∙ len ∙ ap (λ j. j + s.len) (sym last-is) in
        let e : merges_onto (front ++ y ∷ []) rest ≡ merges (length xs) (last_len xs + s.len) rest = (λ i. merges (k i) (l i) rest) in
        let f : merges_onto xs (s.len ∷ rest) ≡ 1 + merges (length xs) (last_len xs + s.len) rest = merges-yes (length xs) (last_len xs) s.len rest fit in
        let o : joining xs s ≡ 1 = ap one_if fit in
        omega (arith, e, f, o)

-- a slot that is pushed alone leaves the slots merged
pub push-merged : (xs : List Slice) (s : Slice) → AreMerged (lens xs) → joins (length xs) (last_len xs) s.len ≡ false → AreMerged (lens (xs ++ s ∷ []))
push-merged [] s h apart = tt
push-merged (x ∷ r) s h apart =
    let xs = x ∷ r in
    let l = last-one x r in
    alone-merged (λ _. None) (λ _. None) xs l.0 l.1 l.1 s l.2 h apart
  where
    last-one : (x : Slice) (r : List Slice) → (front : List Slice) × (y : Slice) × (x ∷ r ≡ front ++ y ∷ [])
    last-one x [] = ([], x, refl)
    last-one x (y ∷ r) = let i = last-one y r in (x ∷ i.0, i.1, ap (λ zs. x ∷ zs) i.2)

-- a longer last slot
tight-longer : (ns : List ℕ) (a b : ℕ) → a ≤ b → AreTight (ns ++ a ∷ []) → AreTight (ns ++ b ∷ [])
tight-longer [] a b l t = tt
tight-longer (n ∷ []) a b l t = let w = t.0 in (omega (arith, w, l), tt)
tight-longer (n ∷ k ∷ ns) a b l t = (t.0, tight-longer (k ∷ ns) a b l t.1)

pub longer-merged : (front : List Slice) (x y : Slice) → x.len ≤ y.len → AreMerged (lens (front ++ x ∷ [])) → AreMerged (lens (front ++ y ∷ []))
longer-merged [] x y l m = tt
longer-merged (z ∷ front) x y l m =
    subst AreTight (sym (lens-append front (y ∷ []))) (tight-longer (lens front) x.len y.len l (subst AreTight (lens-append front (x ∷ [])) m))

-- slots stay merged where bytes leave at the front
pub merged-dropped : (xs : List Slice) (k : ℕ) → AreMerged (lens xs) → AreMerged (lens (drop_bytes k xs))
merged-dropped [] k m = tt
merged-dropped (x ∷ xs) k m =
    let r = merged-dropped xs (k - x.len) (merged-gone x.len (lens xs) m) in
    elim (leb_tells x.len k) as (λ _. AreMerged (lens (drop_bytes k (x ∷ xs)))) [
      | inl e ↦ subst (λ ys. AreMerged (lens ys)) (drop-whole k x xs e.1) r
      | inr e ↦ subst (λ ys. AreMerged (lens ys)) (sym (drop-part k x xs e.1)) (merged-drop x.len (x.len - k) (lens xs) m)
    ]
