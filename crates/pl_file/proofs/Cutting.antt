-- Slots cut at a place among their bytes.
use Rattle.std.proofs.Common.{◌≡◌, ℕ, ◌+◌, ◌-◌, ◌<◌, ◌≤◌, List, [], ◌∷◌, ◌++◌, Some, refl, sym, ◌∙◌, ap, subst, inl, inr, length, take, drop, min, arith}
use Rattle.std.specs.Prelude.{◌⊎◌, slice_get, if◌then◌else◌}
use Rattle.std.proofs.lemmas.Bool.{cases_lt, eq-eqb, ne_eqb}
use Rattle.std.proofs.lemmas.List.{take-append-drop, take_more, drop_all, drop_more}
use Rattle.std.proofs.lemmas.Option.{slice_get_within, get_or_from_slice_get}
use Rattle.pl_segments.specs.declared.slice.Slice.{Slice}
use Rattle.pl_segments.specs.Segments.{segment_size, Map}
use Rattle.pl_segments.specs.Slices.{Lies, AllLie}
use Rattle.pl_segments.specs.Slots.{total, AllSolid, solid_of, cut_front, cut_end, drop_bytes, front_of}
use Rattle.pl_segments.proofs.Turning.{lie-right}
use Rattle.pl_segments.proofs.SlotLemmas.{total-append, solid-left, solid-right}
use Rattle.pl_segments.proofs.Fronting.{front-append, front-whole, front-part, drop-whole, drop-part}
use Rattle.pl_file.specs.Rows.{AllWithin}

pub within-right : (xs ys : List Slice) → AllWithin (xs ++ ys) → AllWithin ys
within-right [] ys p = p
within-right (x ∷ xs) ys p = within-right xs ys p.1

none-left : (xs : List Slice) → AllSolid xs → total xs ≡ 0 → xs ≡ []
none-left [] s e = refl
none-left (x ∷ xs) s e = let l = s.0 in absurd (omega (arith, l, e))

-- the first bytes are all bytes
pub front-all : (k : ℕ) (xs : List Slice) → AllSolid xs → total xs ≤ k → front_of k xs ≡ xs
front-all k [] s l = refl
front-all k (x ∷ xs) s l = by (cases_lt x.len k) (front-all (k - x.len) xs s.1)
  where
    by : (x.len < k) ⊎ (k ≤ x.len) → (total xs ≤ k - x.len → front_of (k - x.len) xs ≡ xs) → front_of k (x ∷ xs) ≡ x ∷ xs
    by (inl h) r = front-whole k x xs h ∙ ap (λ zs. x ∷ zs) (r (omega (arith, l, h)))
    by (inr h) r =
        let some = s.0 in
        let e : k ≡ x.len = omega (arith, l, h) in
        front-part k x xs h (λ z. omega (arith, z, some, h)) ∙ ap (λ n. cut_end n x ∷ []) e ∙ ap (λ zs. x ∷ zs) (sym (none-left xs s.1 (omega (arith, l, h))))

-- the first slots go whole
pub drop-append : (k : ℕ) (xs ys : List Slice) → total xs ≤ k → drop_bytes k (xs ++ ys) ≡ drop_bytes (k - total xs) ys
drop-append k [] ys l = ap (λ n. drop_bytes n ys) (let e : k ≡ k - 0 = omega arith in e)
drop-append k (x ∷ xs) ys l =
    sym (drop-whole k x (xs ++ ys) (omega (arith, l)))
    ∙ drop-append (k - x.len) xs ys (omega (arith, l))
    ∙ ap (λ n. drop_bytes n ys) (let e : k - x.len - total xs ≡ k - (x.len + total xs) = omega arith in e)

solid-one : (x : Slice) → 1 ≤ x.len → solid_of (x ∷ []) ≡ x ∷ []
solid-one x l = ap (λ b. if b then [] else x ∷ []) (ne_eqb x.len 0 (λ e. omega (arith, e, l)))

solid-none : (x : Slice) → x.len ≡ 0 → solid_of (x ∷ []) ≡ []
solid-none x e = ap (λ b. if b then [] else x ∷ []) (eq-eqb x.len 0 e)

-- one of some slots
module _ (xs : List Slice) (i : ℕ) (x : Slice) (got : slice_get xs i ≡ Some x) where
  pub here-within : i < length xs
  here-within = slice_get_within xs i x got

  pub here-split : xs ≡ take i xs ++ x ∷ drop (i + 1) xs
  here-split =
      sym (take-append-drop i xs)
      ∙ ap (λ zs. take i xs ++ zs) (drop_more xs i x here-within ∙ ap (λ y. y ∷ drop (i + 1) xs) (get_or_from_slice_get xs i x x got))

  pub here-total : total (take (i + 1) xs) ≡ total (take i xs) + x.len
  here-total =
      let t : total (take i xs ++ x ∷ []) ≡ total (take i xs) + (x.len + 0) = total-append (take i xs) (x ∷ []) in
      let e : total (take (i + 1) xs) ≡ total (take i xs ++ x ∷ []) = ap total (take_more xs i x here-within) ∙ ap (λ y. total (take i xs ++ y ∷ [])) (get_or_from_slice_get xs i x x got) in
      omega (arith, t, e)

  pub here-solid : AllSolid xs → 1 ≤ x.len
  here-solid s = (solid-right (take i xs) (x ∷ drop (i + 1) xs) (subst AllSolid here-split s)).0

  pub here-lies : (m : Map) → AllLie m xs → Lies m x
  here-lies m lie = (lie-right m (take i xs) (x ∷ drop (i + 1) xs) (subst (AllLie m) here-split lie)).0

  pub here-fits : AllWithin xs → x.from + x.len ≤ segment_size
  here-fits w = (within-right (take i xs) (x ∷ drop (i + 1) xs) (subst AllWithin here-split w)).0

  front-solid_here : AllSolid xs → AllSolid (take i xs)
  front-solid_here s = solid-left (take i xs) (x ∷ drop (i + 1) xs) (subst AllSolid here-split s)

  none-behind : length xs ≤ i + 1 → drop (i + 1) xs ≡ []
  none-behind l = drop_all (i + 1) xs l

  -- the first bytes, of which the last lies in the slot, or behind all
  pub front-here : (k len : ℕ) → AllSolid xs → total (take i xs) < k → (i + 1 < length xs → k ≤ total (take (i + 1) xs)) → len ≡ min (k - total (take i xs)) x.len →
      front_of k xs ≡ take i xs ++ solid_of (cut_end len x ∷ [])
  front-here k len s before after is =
      let some = here-solid s in
      let n = k - total (take i xs) in
      ap (front_of k) here-split
      ∙ front-append k (take i xs) (x ∷ drop (i + 1) xs)
      ∙ ap (λ zs. zs ++ front_of n (x ∷ drop (i + 1) xs)) (front-all k (take i xs) (front-solid_here s) (omega (arith, before)))
      ∙ ap (λ zs. take i xs ++ zs) (by (cases_lt x.len (k - total (take i xs))) ∙ sym (solid-one (cut_end len x) (omega (arith, is, some, before))))
    where
      by : (x.len < k - total (take i xs)) ⊎ (k - total (take i xs) ≤ x.len) → front_of (k - total (take i xs)) (x ∷ drop (i + 1) xs) ≡ cut_end len x ∷ []
      by (inl h) =
          let t = here-total in
          let e : x.len ≡ len = omega (arith, is, h) in
          let last : length xs ≤ i + 1 = elim (cases_lt (i + 1) (length xs)) as (λ _. length xs ≤ i + 1) [
            | inl l ↦ let a = after l in absurd (omega (arith, a, h, t))
            | inr e ↦ e
          ] in
          front-whole (k - total (take i xs)) x (drop (i + 1) xs) h
          ∙ ap (λ zs. x ∷ front_of (k - total (take i xs) - x.len) zs) (none-behind last)
          ∙ ap (λ j. cut_end j x ∷ []) e
      by (inr h) =
          let e : k - total (take i xs) ≡ len = omega (arith, is, h) in
          front-part (k - total (take i xs)) x (drop (i + 1) xs) h (λ z. omega (arith, z, before)) ∙ ap (λ j. cut_end j x ∷ []) e

  -- the bytes behind the first, which begin in the slot, or none where all slots go
  pub rest-here : (k skipped : ℕ) → total (take i xs) ≤ k → (i + 1 < length xs → k < total (take (i + 1) xs)) → skipped ≡ min (k - total (take i xs)) x.len →
      drop_bytes k xs ≡ solid_of (cut_front skipped x ∷ []) ++ drop (i + 1) xs
  rest-here k skipped before after is =
      ap (drop_bytes k) here-split
      ∙ drop-append k (take i xs) (x ∷ drop (i + 1) xs) before
      ∙ by (cases_lt (k - total (take i xs)) x.len)
    where
      by : (k - total (take i xs) < x.len) ⊎ (x.len ≤ k - total (take i xs)) → drop_bytes (k - total (take i xs)) (x ∷ drop (i + 1) xs) ≡ solid_of (cut_front skipped x ∷ []) ++ drop (i + 1) xs
      by (inl h) =
          let e : k - total (take i xs) ≡ skipped = omega (arith, is, h) in
          drop-part (k - total (take i xs)) x (drop (i + 1) xs) h
          ∙ ap (λ j. cut_front j x ∷ drop (i + 1) xs) e
          ∙ ap (λ zs. zs ++ drop (i + 1) xs) (sym (solid-one (cut_front skipped x) (omega (arith, is, h))))
      by (inr h) =
          let t = here-total in
          let last : length xs ≤ i + 1 = elim (cases_lt (i + 1) (length xs)) as (λ _. length xs ≤ i + 1) [
            | inl l ↦ let a = after l in absurd (omega (arith, a, h, t))
            | inr e ↦ e
          ] in
          sym (drop-whole (k - total (take i xs)) x (drop (i + 1) xs) h)
          ∙ ap (drop_bytes (k - total (take i xs) - x.len)) (none-behind last)
          ∙ sym (none-behind last)
          ∙ ap (λ zs. zs ++ drop (i + 1) xs) (sym (solid-none (cut_front skipped x) (omega (arith, is, h))))
