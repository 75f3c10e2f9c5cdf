-- Slots as bytes: what they read, whole and in parts.
use Rattle.std.proofs.Common.{◌≡◌, ℕ, ◌+◌, ◌-◌, ◌≤◌, List, [], ◌∷◌, ◌++◌, refl, sym, ◌∙◌, ap, inl, inr, length, take, drop, arith}
use Rattle.std.specs.Prelude.{if◌then◌else◌}
use Rattle.std.proofs.lemmas.Bool.Decides.{eqb_tells}
use Rattle.std.proofs.lemmas.List.{length-append, take-take, drop-take, drop-drop}
use Rattle.pl_segments.specs.declared.slice.Slice.{Slice}
use Rattle.pl_segments.specs.Segments.{Map, filled}
use Rattle.pl_segments.specs.Slices.{Lies, reads, all_read, AllLie, room_after}
use Rattle.pl_segments.proofs.Changing.{length-reads}
use Rattle.pl_segments.specs.Slots.{total, AllSolid, solid_of, cut_front, cut_end, last_from, last_len, room_last, tail_room}

pub total-read : (m : Map) (xs : List Slice) → AllLie m xs → length (all_read m xs) ≡ total xs
total-read m [] lie = refl
total-read m (x ∷ xs) lie = length-append (reads m x) (all_read m xs) ∙ (λ i. length-reads m x lie.0 i + total-read m xs lie.1 i)

pub total-append : (xs ys : List Slice) → total (xs ++ ys) ≡ total xs + total ys
total-append [] ys = let e : total ys ≡ 0 + total ys = omega arith in e
total-append (x ∷ xs) ys = let r = total-append xs ys in (let e : x.len + total (xs ++ ys) ≡ x.len + total xs + total ys = omega (arith, r) in e)

pub solid-append : (xs ys : List Slice) → AllSolid xs → AllSolid ys → AllSolid (xs ++ ys)
solid-append [] ys p q = q
solid-append (x ∷ xs) ys p q = (p.0, solid-append xs ys p.1 q)

pub solid-left : (xs ys : List Slice) → AllSolid (xs ++ ys) → AllSolid xs
solid-left [] ys p = tt
solid-left (x ∷ xs) ys p = (p.0, solid-left xs ys p.1)

pub solid-right : (xs ys : List Slice) → AllSolid (xs ++ ys) → AllSolid ys
solid-right [] ys p = p
solid-right (x ∷ xs) ys p = solid-right xs ys p.1

-- a part of a slice
pub reads-cut_front : (m : Map) (x : Slice) (n : ℕ) → n ≤ x.len → reads m (cut_front n x) ≡ drop n (reads m x)
unfolding reads
reads-cut_front m x n l =
    let e : n + (x.len - n) ≡ x.len = omega arith in
    ap (take (x.len - n)) (sym (drop-drop n x.from (filled m x.segment)))
    ∙ sym (drop-take n (x.len - n) (drop x.from (filled m x.segment)))
    ∙ ap (λ k. drop n (take k (drop x.from (filled m x.segment)))) e

pub reads-cut_end : (m : Map) (x : Slice) (n : ℕ) → n ≤ x.len → reads m (cut_end n x) ≡ take n (reads m x)
unfolding reads
reads-cut_end m x n l = sym (take-take n x.len (drop x.from (filled m x.segment)) l)

pub lies-cut_front : (m : Map) (x : Slice) (n : ℕ) → n ≤ x.len → Lies m x → Lies m (cut_front n x)
lies-cut_front m x n l p = record { here = p.here; within = (let w = p.within in omega arith) }

pub lies-cut_end : (m : Map) (x : Slice) (n : ℕ) → n ≤ x.len → Lies m x → Lies m (cut_end n x)
lies-cut_end m x n l p = record { here = p.here; within = (let w = p.within in omega arith) }

-- the last of some slots
pub room-last : (m : Map) (front : List Slice) (x : Slice) → tail_room m (front ++ x ∷ []) ≡ room_after m x
room-last m [] x = refl
room-last m (y ∷ front) x = by front y
  where
    by : (front : List Slice) (y : Slice) → room_last m y (front ++ x ∷ []) ≡ room_after m x
    by [] y = refl
    by (z ∷ front) y = by front z

pub last-len : (front : List Slice) (x : Slice) → last_len (front ++ x ∷ []) ≡ x.len
last-len [] x = refl
last-len (y ∷ front) x = by front y
  where
    by : (front : List Slice) (y : Slice) → last_from y (front ++ x ∷ []) ≡ x.len
    by [] y = refl
    by (z ∷ front) y = by front z

pub last-total : (xs : List Slice) → last_len xs ≤ total xs
last-total [] = omega arith
last-total (x ∷ xs) = by xs x
  where
    by : (xs : List Slice) (x : Slice) → last_from x xs ≤ x.len + total xs
    by [] x = omega arith
    by (y ∷ ys) x = let r = by ys y in omega (arith, r)

pub last-some : (x : Slice) (xs : List Slice) → AllSolid (x ∷ xs) → 1 ≤ last_len (x ∷ xs)
last-some x [] s = s.0
last-some x (y ∷ ys) s = last-some y ys s.1

-- slices that aren't empty have all bytes
pub total-solid : (xs : List Slice) → total (solid_of xs) ≡ total xs
total-solid [] = refl
total-solid (x ∷ xs) =
    let r = total-solid xs in
    elim (eqb_tells x.len 0) as (λ _. total (solid_of (x ∷ xs)) ≡ x.len + total xs) [
      | inl e ↦ let a : total (solid_of (x ∷ xs)) ≡ total (solid_of xs) = ap (λ b. total (if b then solid_of xs else x ∷ solid_of xs)) e.0 in omega (arith, a, r, e.1)
      | inr e ↦ ap (λ b. total (if b then solid_of xs else x ∷ solid_of xs)) e.0 ∙ ap (λ n. x.len + n) r
    ]

-- what a list has past its end
abbrev pub no_slice : Slice
no_slice = record { segment = 0; from = 0; len = 0 }
