-- The first slot, the first bytes where they stand in it, and the front that is all.
use Rattle.std.proofs.Common.{◌≡◌, ◌≢◌, ◌∙◌, ◌+◌, ◌-◌, ◌≤◌, ◌∷◌, refl, ℕ, List, [], Some, ap, sym, subst, take, length, arith}
use Rattle.std.specs.Prelude.{slice_get}
use Rattle.std.proofs.lemmas.List.{take-append-le}
use Rattle.std.proofs.lemmas.Option.{get_or_from_slice_get}
use Rattle.pl_segments.specs.declared.slice.Slice.{Slice}
use Rattle.pl_segments.specs.Segments.{Map}
use Rattle.pl_segments.specs.Slices.{Lies, AllLie, reads, all_read}
use Rattle.pl_segments.specs.Slots.{total, AllSolid, cut_end, front_of}
use Rattle.pl_segments.proofs.Changing.{length-reads}
use Rattle.pl_segments.proofs.Fronting.{front-whole, front-part}

pub first-lies : (m : Map) (xs : List Slice) (x : Slice) → slice_get xs 0 ≡ Some x → AllLie m xs → Lies m x
first-lies m [] x e lie = absurd (cc)
first-lies m (y ∷ r) x e lie = subst (Lies m) (get_or_from_slice_get (y ∷ r) 0 x x e) lie.0

pub first-read : (m : Map) (xs : List Slice) (x : Slice) (n : ℕ) → slice_get xs 0 ≡ Some x → AllLie m xs → n ≤ x.len → take n (reads m x) ≡ take n (all_read m xs)
first-read m [] x n e lie l = absurd (cc)
first-read m (y ∷ r) x n e lie l =
    let same : y ≡ x = get_or_from_slice_get (y ∷ r) 0 x x e in
    let fits : n ≤ y.len = subst (λ z. n ≤ z.len) (sym same) l in
    let long : length (reads m y) ≡ y.len = length-reads m y lie.0 in
    ap (λ z. take n (reads m z)) (sym same) ∙ sym (take-append-le n (reads m y) (all_read m r) (omega (arith, long, fits)))

pub front-one : (xs : List Slice) (x : Slice) (k : ℕ) → slice_get xs 0 ≡ Some x → k ≤ x.len → k ≢ 0 → front_of k xs ≡ cut_end k x ∷ []
front-one [] x k e l n = absurd (cc)
front-one (y ∷ r) x k e l n =
    let same : y ≡ x = get_or_from_slice_get (y ∷ r) 0 x x e in
    front-part k y r (subst (λ z. k ≤ z.len) (sym same) l) n ∙ ap (λ z. cut_end k z ∷ []) same

pub front-all : (xs : List Slice) → AllSolid xs → front_of (total xs) xs ≡ xs
front-all [] s = refl
front-all (x ∷ []) s =
    let some = s.0 in
    let all : x.len + 0 ≡ x.len = omega arith in
    front-part (x.len + 0) x [] (omega arith) (λ e. omega (arith, e, some)) ∙ ap (λ n. cut_end n x ∷ []) all
front-all (x ∷ y ∷ r) s =
    let some = s.1.0 in
    let rest : total (x ∷ y ∷ r) - x.len ≡ total (y ∷ r) = omega arith in
    front-whole (total (x ∷ y ∷ r)) x (y ∷ r) (omega (arith, some)) ∙ ap (λ zs. x ∷ zs) (ap (λ n. front_of n (y ∷ r)) rest ∙ front-all (y ∷ r) s.1)
