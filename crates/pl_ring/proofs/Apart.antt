-- Slices of which each becomes a slot of its own.
use Rattle.std.proofs.Common.{◌≡◌, ℕ, ◌+◌, ◌*◌, ◌%◌, ◌≤◌, Bool, true, false, List, [], ◌∷◌, ◌++◌, refl, sym, ◌∙◌, ap, subst, inl, inr, length, arith}
use Rattle.std.specs.Prelude.{if◌then◌else◌}
use Rattle.std.proofs.lemmas.Bool.Decides.{eqb_tells}
use Rattle.std.proofs.lemmas.List.{append-nil, append_assoc, length-append}
use Rattle.pl_segments.specs.declared.slice.Slice.{Slice}
use Rattle.pl_segments.specs.Slots.{total, AllSolid, solid_of, last_len}
use Rattle.pl_segments.proofs.SlotLemmas.{solid-append, total-append}
use Rattle.pl_segments.proofs.Pushing.{solid-solid_of}
use Rattle.pl_ring.specs.Ring.{place_size}
use Rattle.pl_ring.specs.Merging.{lens, AreMerged, joins, merges, merges_onto}
use Rattle.pl_ring.proofs.Placing.{places-enough, alone-none, alone-plan, push-merged}

-- slices of which none is left out
few-solid : (xs : List Slice) → length (solid_of xs) ≤ length xs
few-solid [] = omega arith
few-solid (x ∷ xs) =
    let r = few-solid xs in
    elim (eqb_tells x.len 0) as (λ _. length (solid_of (x ∷ xs)) ≤ length (x ∷ xs)) [
      | inl e ↦ let a : length (solid_of (x ∷ xs)) ≡ length (solid_of xs) = ap (λ b. length (if b then solid_of xs else x ∷ solid_of xs)) e.0 in omega (arith, a, r)
      | inr e ↦ let a : length (solid_of (x ∷ xs)) ≡ length (x ∷ solid_of xs) = ap (λ b. length (if b then solid_of xs else x ∷ solid_of xs)) e.0 in omega (arith, a, r)
    ]

all-solid : (xs : List Slice) → length xs ≤ length (solid_of xs) → solid_of xs ≡ xs
all-solid [] l = refl
all-solid (x ∷ xs) l =
    elim (eqb_tells x.len 0) as (λ _. solid_of (x ∷ xs) ≡ x ∷ xs) [
      | inl e ↦
          let a : length (solid_of (x ∷ xs)) ≡ length (solid_of xs) = ap (λ b. length (if b then solid_of xs else x ∷ solid_of xs)) e.0 in
          let f = few-solid xs in
          absurd (omega (arith, a, f, l))
      | inr e ↦
          let a : solid_of (x ∷ xs) ≡ x ∷ solid_of xs = ap (λ b. if b then solid_of xs else x ∷ solid_of xs) e.0 in
          let n = ap length a in
          a ∙ ap (λ zs. x ∷ zs) (all-solid xs (omega (arith, n, l)))
    ]

-- the first of slices of which none becomes one with what stands before it
first-alone : (xs : List Slice) (s : Slice) (rest : List ℕ) → merges_onto xs (s.len ∷ rest) ≡ 0 → joins (length xs) (last_len xs) s.len ≡ false
first-alone xs s rest none = by (joins (length xs) (last_len xs) s.len) none
  where
    by : (b : Bool) → (if b then 1 + merges (length xs) (last_len xs + s.len) rest else merges (length xs + 1) s.len rest) ≡ 0 → b ≡ false
    by true e = absurd (omega (arith, e))
    by false e = refl

apart-merged : (xs slices : List Slice) → AreMerged (lens xs) → merges_onto xs (lens slices) ≡ 0 → AreMerged (lens (xs ++ slices))
apart-merged xs [] m none = subst (λ zs. AreMerged (lens zs)) (sym (append-nil xs)) m
apart-merged xs (s ∷ slices) m none =
    let alone = first-alone xs s (lens slices) none in
    let one = alone-none xs s alone in
    let plan = alone-plan xs s alone (lens slices) in
    subst (λ zs. AreMerged (lens zs)) (append_assoc xs (s ∷ []) slices)
    (apart-merged (xs ++ s ∷ []) slices (push-merged xs s m alone) (omega (arith, one, plan, none)))

-- as many slots more as there are slices
module _ (xs slices : List Slice) (many : ℕ) (is : many ≡ length xs + length slices)
    (plan : many + merges_onto xs (lens (solid_of slices)) ≡ length xs + length (solid_of slices)) where
  pub whole : solid_of slices ≡ slices
  whole = all-solid slices (omega (arith, is, plan))

  pub apart-tight : AreMerged (lens xs) → AreMerged (lens (xs ++ slices))
  apart-tight m =
      let few = few-solid slices in
      let none : merges_onto xs (lens (solid_of slices)) ≡ 0 = omega (arith, few, is, plan) in
      apart-merged xs slices m (ap (λ zs. merges_onto xs (lens zs)) (sym whole) ∙ none)

  pub apart-solid : AllSolid xs → AllSolid (xs ++ slices)
  apart-solid s = solid-append xs slices s (subst AllSolid whole (solid-solid_of slices))

  pub apart-places : (places : ℕ) → AreMerged (lens xs) → AllSolid xs → places % 2 ≡ 0 → total xs + total slices ≤ place_size * places → length xs + length slices ≤ places
  apart-places places m s even fits =
      let t = total-append xs slices in
      let n = length-append xs slices in
      let enough = places-enough (xs ++ slices) places (apart-tight m) (apart-solid s) even (omega (arith, t, fits)) in
      omega (arith, n, enough)
