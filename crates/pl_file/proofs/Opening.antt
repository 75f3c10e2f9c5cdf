-- A change begins: what stays of the slot before the place, and the zeros of a gap.
use Rattle.std.proofs.Common.{◌≡◌, ℕ, ◌+◌, ◌-◌, ◌≤◌, List, [], ◌∷◌, ◌++◌, sym, ◌∙◌, ap, subst, inl, inr, take, arith}
use Rattle.std.specs.Prelude.{replicate}
use Rattle.std.proofs.lemmas.Bool.{cases_lt}
use Rattle.std.proofs.lemmas.List.{append_assoc}
use Rattle.pl_segments.specs.declared.slice.Slice.{Slice}
use Rattle.pl_segments.specs.Segments.{Map}
use Rattle.pl_segments.specs.Slices.{Lies, all_read, AllLie}
use Rattle.pl_segments.specs.Slots.{total, AllSolid, solid_of, front_of}
use Rattle.pl_segments.proofs.Turning.{read-append, lie-right}
use Rattle.pl_segments.proofs.SlotLemmas.{total-append, total-solid}
use Rattle.pl_segments.proofs.Fronting.{front-lie, front-read, front-total}
use Rattle.pl_file.proofs.Cutting.{front-all}
use Rattle.pl_file.proofs.Editing.{one-lies}

-- the first bytes and a gap reach up to the place
pub front-place : (xs : List Slice) (place : ℕ) → AllSolid xs → total (front_of place xs) + (place - total xs) ≡ place
front-place xs place s = elim (cases_lt (total xs) place) as (λ _. total (front_of place xs) + (place - total xs) ≡ place) [
  | inl l ↦ let e : total (front_of place xs) ≡ total xs = ap total (front-all place xs s (omega (arith, l))) in omega (arith, l, e)
  | inr l ↦ let e = front-total xs place l in omega (arith, l, e)
]

module _ (xs : List Slice) (f place : ℕ) (part : Slice) (solid : AllSolid xs) (front : front_of place xs ≡ take f xs ++ solid_of (part ∷ [])) where
  pub front-sum : total (take f xs) + part.len + (place - total xs) ≡ place
  front-sum =
      let p = front-place xs place solid in
      let a : total (front_of place xs) ≡ total (take f xs) + total (solid_of (part ∷ [])) = ap total front ∙ total-append (take f xs) (solid_of (part ∷ [])) in
      let b = total-solid (part ∷ []) in
      omega (arith, p, a, b)

  pub front-part-lies : (m : Map) → AllLie m xs → 1 ≤ part.len → Lies m part
  front-part-lies m lie some = one-lies m part (lie-right m (take f xs) (solid_of (part ∷ [])) (subst (AllLie m) front (front-lie m xs place lie))) some

  -- the patch with its zeros reads the bytes from the first slot that goes up to the place
  pub open-read : (m n : Map) (zs : List Slice) → AllLie m xs → all_read n zs ≡ all_read m (solid_of (part ∷ [])) ++ replicate (place - total xs) 0 →
      all_read m (take f xs) ++ all_read n zs ≡ take place (all_read m xs) ++ replicate (place - total xs) 0
  open-read m n zs lie r =
      ap (λ bs. all_read m (take f xs) ++ bs) r
      ∙ sym (append_assoc (all_read m (take f xs)) (all_read m (solid_of (part ∷ []))) (replicate (place - total xs) 0))
      ∙ ap (λ bs. bs ++ replicate (place - total xs) 0) (sym (read-append m (take f xs) (solid_of (part ∷ []))) ∙ ap (all_read m) (sym front) ∙ front-read m xs place lie)
