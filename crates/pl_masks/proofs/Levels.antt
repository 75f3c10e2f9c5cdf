-- A row of masks above another.
use Rattle.std.proofs.Common.{◌≡◌, ◌≢◌, ℕ, zero, suc, ◌+◌, ◌*◌, ◌/◌, ◌%◌, ◌<◌, ◌≤◌, Bool, true, false, not, refl, sym, ◌∙◌, ap, inl, inr, List, [], ◌∷◌, length, arith, ⊎_elim}
use Rattle.std.specs.Prelude.{nat_eq, IfSome, IfNone, Option, Some, None}
use Rattle.std.proofs.lemmas.List.{get_or_past}
use Rattle.std.proofs.lemmas.Bool.{cases_lt, eqb-true, cond-true, cond-false, eq-eqb, ne_eqb}
use Rattle.std.proofs.lemmas.Bool.Decides.{eqb_tells}
use Rattle.pl_masks.specs.Levels.{mask_at, is_set, IsPut, IsFirst, IsAbove, AreMasked}
use Rattle.pl_masks.proofs.Bits.{unset, same-bit}

-- a change at one mask, and at its bit above
above-changed : (lower below upper over : List ℕ) (place : ℕ) → IsAbove lower upper
    → ((p : ℕ) → p ≢ place → mask_at below p ≡ mask_at lower p) → ((p : ℕ) → p ≢ place → is_set over p ≡ is_set upper p)
    → is_set over place ≡ not (nat_eq (mask_at below place) 0) → IsAbove below over
above-changed lower below upper over place was same kept here p = elim (eqb_tells p place) as (λ _. is_set over p ≡ not (nat_eq (mask_at below p) 0)) [
  | inl e ↦ ap (is_set over) e.1 ∙ here ∙ ap (λ i. not (nat_eq (mask_at below i) 0)) (sym e.1)
  | inr e ↦ kept p e.1 ∙ was p ∙ ap (λ m. not (nat_eq m 0)) (sym (same p e.1))
]

module _ (lower below : List ℕ) (number : ℕ) (bit : Bool) (put : IsPut lower below number bit) (upper : List ℕ) (was : IsAbove lower upper) where
  -- the bit above stays, where the mask has one before and after, or none
  above-kept : nat_eq (mask_at below (number / 64)) 0 ≡ nat_eq (mask_at lower (number / 64)) 0 → IsAbove below upper
  above-kept same = above-changed lower below upper upper (number / 64) was put.others (λ p n. refl) (was (number / 64) ∙ ap not (sym same))

  -- and else it is put
  above-put : (over : List ℕ) → IsPut upper over (number / 64) bit → bit ≡ not (nat_eq (mask_at below (number / 64)) 0) → IsAbove below over
  above-put over above here =
      above-changed lower below upper over (number / 64) was put.others
      (λ p n. above.value p ∙ cond-false (nat_eq p (number / 64)) bit (is_set upper p) (ne_eqb p (number / 64) n))
      (above.value (number / 64) ∙ cond-true (nat_eq (number / 64) (number / 64)) bit (is_set upper (number / 64)) (eq-eqb (number / 64) (number / 64) refl) ∙ here)

-- a number's bit is put in the lowest row and in the next, and maybe in the last
module _ (numbers masks top : List ℕ) (kept : AreMasked numbers masks top) (number : ℕ) (bit : Bool) (numbers' : List ℕ) (put : IsPut numbers numbers' number bit) where
  module _ (masks' : List ℕ) (put-2 : IsPut masks masks' (number / 64) bit) (here : bit ≡ not (nat_eq (mask_at numbers' (number / 64)) 0)) where
    put-both : (top' : List ℕ) → IsAbove masks' top' → AreMasked numbers' masks' top'
    put-both top' last = record {
      fits = let l = kept.fits in omega (arith, l, put.len, put-2.len);
      few = let l = kept.few in omega (arith, l, put-2.len);
      middle = above-put numbers numbers' number bit put masks kept.middle masks' put-2 here;
      last = last;
    }

    pub put-two : nat_eq (mask_at masks' (number / 64 / 64)) 0 ≡ nat_eq (mask_at masks (number / 64 / 64)) 0 → AreMasked numbers' masks' top
    put-two same = put-both top (above-kept masks masks' (number / 64) bit put-2 top kept.last same)

    pub put-three : (top' : List ℕ) → IsPut top top' (number / 64 / 64) bit → bit ≡ not (nat_eq (mask_at masks' (number / 64 / 64)) 0) → AreMasked numbers' masks' top'
    put-three top' put-3 here-2 = put-both top' (above-put masks masks' (number / 64) bit put-2 top kept.last top' put-3 here-2)

module _ (lower upper : List ℕ) (above : IsAbove lower upper) where
  -- a mask has a bit where one above it tells so
  empty : (place : ℕ) → is_set upper place ≡ false → mask_at lower place ≡ 0
  empty place off = eqb-true (mask_at lower place) 0 (grind (arith, above place, off))

  some : (place : ℕ) → is_set upper place ≡ true → mask_at lower place ≡ 0 → ⊥
  some place on e = let off = above place ∙ ap (λ m. not (nat_eq m 0)) e in let no : true ≡ false = sym on ∙ off in absurd (cc)

  -- the least number of the lower row, by the least mask of it that has a bit
  module _ (from : ℕ) (none : (n : ℕ) → from ≤ n → n / 64 ≡ from / 64 → is_set lower n ≡ false) where
    none_before : (w : ℕ) → ((p : ℕ) → from / 64 + 1 ≤ p → p < w → is_set upper p ≡ false) → (n : ℕ) → from ≤ n → n / 64 < w → is_set lower n ≡ false
    none_before w off n high l = elim (eqb_tells (n / 64) (from / 64)) as (λ _. is_set lower n ≡ false) [
      | inl e ↦ none n high e.1
      | inr e ↦ let apart : n / 64 ≢ from / 64 = e.1 in unset lower n (empty (n / 64) (off (n / 64) (omega (arith, apart, high)) l))
    ]

    pub none_above : ((p : ℕ) → from / 64 + 1 ≤ p → is_set upper p ≡ false) → (n : ℕ) → from ≤ n → is_set lower n ≡ false
    none_above off n high = none_before (n / 64 + 1) (λ p l m. off p l) n high (omega arith)

    -- a number found in a mask, and one that isn't
    module _ (w : ℕ) (mask : IsFirst upper (from / 64 + 1) w) where
      pub first_above : (n : ℕ) → IsFirst lower (w * 64) n → n / 64 ≡ w → IsFirst lower from n
      first_above n first in_mask =
          let l = mask.high in
          let m = first.high in
          record {
            high = omega (arith, l, m);
            here = first.here;
            none = λ k high before. ⊎_elim (λ h. none_before w mask.none k high h) (λ h. first.none k (omega (arith, h)) before) (cases_lt (k / 64) w);
          }

      pub some_found : (found : Option ℕ) → IfSome found (IsFirst lower (w * 64)) → IfSome found (λ n. n / 64 ≡ w * 64 / 64) → IfSome found (IsFirst lower from)
      some_found None first in_mask = tt
      some_found (Some n) first in_mask = first_above n first (omega (arith, in_mask))

      pub none_found : (found : Option ℕ) → IfNone found (w * 64 % 64 ≡ 0 → mask_at lower (w * 64 / 64) ≡ 0) → IfNone found ((n : ℕ) → from ≤ n → is_set lower n ≡ false)
      none_found None empty = absurd (some w mask.here (let e : w * 64 / 64 ≡ w = omega arith in ap (mask_at lower) (sym e) ∙ empty (omega arith)))
      none_found (Some n) empty = tt

-- a fact, where there is none
pub if_none : {X : Type 0} (found : Option X) (P : Type 0) → P → IfNone found P
if_none None P h = h
if_none (Some x) P h = tt

-- the uppermost row is one mask: where its bits are told in that mask, they are told everywhere
pub none_over : (masks top : List ℕ) (from : ℕ) → length masks ≤ 64 → IsAbove masks top → ((n : ℕ) → from ≤ n → n / 64 ≡ from / 64 → is_set top n ≡ false) → (n : ℕ) → from ≤ n → is_set top n ≡ false
none_over masks top from few above none n high = ⊎_elim (λ l. none n high (omega (arith, l, high))) (λ past. above n ∙ ap (λ m. not (nat_eq m 0)) (get_or_past masks n 0 (omega (arith, past, few)))) (cases_lt n 64)

-- other rows with the same masks, and with as many of them as are wanted
pub masked-same : (numbers masks top numbers' masks' : List ℕ) → AreMasked numbers masks top
    → ((place : ℕ) → mask_at numbers' place ≡ mask_at numbers place) → ((place : ℕ) → mask_at masks' place ≡ mask_at masks place)
    → length numbers' ≤ 64 * length masks' → length masks' ≤ 64 → AreMasked numbers' masks' top
masked-same numbers masks top numbers' masks' kept same same-2 fits few = record {
  fits = fits;
  few = few;
  middle = λ place. same-bit masks' masks place (same-2 (place / 64)) ∙ kept.middle place ∙ ap (λ m. not (nat_eq m 0)) (sym (same place));
  last = λ place. kept.last place ∙ ap (λ m. not (nat_eq m 0)) (sym (same-2 place));
}

-- no masks but an empty uppermost one
pub masked-none : AreMasked [] [] (0 ∷ [])
masked-none = record {
  fits = omega arith;
  few = omega arith;
  middle = λ place. unset [] place refl;
  last = λ place. unset (0 ∷ []) place (zero-at (place / 64));
}
  where
    zero-at : (place : ℕ) → mask_at (0 ∷ []) place ≡ 0
    zero-at zero = refl
    zero-at (suc place) = refl
