-- The bits of a row of masks.
use Rattle.std.proofs.Common.{◌≡◌, ◌≢◌, ℕ, zero, suc, ◌+◌, ◌-◌, ◌*◌, ◌/◌, ◌%◌, ◌^◌, ◌<◌, ◌≤◌, ◌⊎◌, Bool, true, false, refl, sym, ◌∙◌, ap, inl, inr, List, [], ◌∷◌, ◌++◌, take, replicate, length, arith, ⊎_elim}
use Rattle.std.specs.Prelude.{if◌then◌else◌, nat_eq, slice_set}
use Rattle.std.specs.Int.{bit_at, trailing_zeros, w64}
use Rattle.std.proofs.lemmas.List.{get_or-set_same, get_or-set_other, get_or_past, get_or-take, length-take, take_all, get_or-replicate, length-replicate}
use Rattle.std.proofs.lemmas.Bool.{cases_lt, cond-true, cond-false, ne_eqb, true≢false}
use Rattle.std.proofs.lemmas.Bool.Decides.{eqb_tells}
use Rattle.std.proofs.lemmas.Nat.Bits.{bit_at-zero, bit_at-trailing_zeros, bit_at_above}
use Rattle.std.proofs.lemmas.Nat.{pow-add}
use Rattle.std.proofs.Math.Nat.{div-div-eq-div-mul, div-le_self}
use Rattle.pl_masks.specs.Levels.{mask_at, is_set, IsFirst}

-- one bit of a mask changes
pub bit-changed : (masks : List ℕ) (number mask : ℕ) (bit : Bool) → number < 64 * length masks → nat_eq (bit_at mask (number % 64)) 1 ≡ bit
    → ((i : ℕ) → i < 64 → i ≢ number % 64 → bit_at mask i ≡ bit_at (mask_at masks (number / 64)) i)
    → (n : ℕ) → is_set (slice_set masks (number / 64) mask) n ≡ (if nat_eq n number then bit else is_set masks n)
unfolding is_set
bit-changed masks number mask bit place here others n = elim (eqb_tells n number) as (λ _. is_set (slice_set masks (number / 64) mask) n ≡ (if nat_eq n number then bit else is_set masks n)) [
  | inl e ↦ ap (is_set (slice_set masks (number / 64) mask)) e.1 ∙ ap (λ m. nat_eq (bit_at m (number % 64)) 1) written ∙ here ∙ sym (cond-true (nat_eq n number) bit (is_set masks n) e.0)
  | inr e ↦ other e.1 ∙ sym (cond-false (nat_eq n number) bit (is_set masks n) e.0)
]
  where
    written : mask_at (slice_set masks (number / 64) mask) (number / 64) ≡ mask
    written = get_or-set_same masks (number / 64) mask 0 (omega arith)

    other : n ≢ number → is_set (slice_set masks (number / 64) mask) n ≡ is_set masks n
    other apart = elim (eqb_tells (n / 64) (number / 64)) as (λ _. is_set (slice_set masks (number / 64) mask) n ≡ is_set masks n) [
      | inl e ↦
          let same : n / 64 ≡ number / 64 = e.1 in
          ap (λ m. nat_eq (bit_at m (n % 64)) 1) (ap (mask_at (slice_set masks (number / 64) mask)) same ∙ written)
          ∙ ap (λ b. nat_eq b 1) (others (n % 64) (omega arith) (λ h. apart (omega (arith, h, same))) ∙ ap (λ w. bit_at (mask_at masks w) (n % 64)) (sym same))
      | inr e ↦ ap (λ m. nat_eq (bit_at m (n % 64)) 1) (get_or-set_other masks (number / 64) (n / 64) mask 0 e.1)
    ]

-- a mask with no bit is 0
pub unset : (masks : List ℕ) (n : ℕ) → mask_at masks (n / 64) ≡ 0 → is_set masks n ≡ false
unfolding is_set
unset masks n e = ap (λ m. nat_eq (bit_at m (n % 64)) 1) e ∙ ap (λ b. nat_eq b 1) (bit_at-zero (n % 64))

pub has_one : (masks : List ℕ) (n : ℕ) → is_set masks n ≡ true → nat_eq (mask_at masks (n / 64)) 0 ≡ false
has_one masks n on = ne_eqb (mask_at masks (n / 64)) 0 (λ e. true≢false (sym on ∙ unset masks n e))

pub placed : (masks : List ℕ) (n : ℕ) → is_set masks n ≡ true → n < 64 * length masks
placed masks n on = ⊎_elim (λ l. l) (λ past. absurd (true≢false (sym on ∙ unset masks n (get_or_past masks (n / 64) 0 (omega (arith, past)))))) (cases_lt n (64 * length masks))

pub nothing : (masks : List ℕ) (place : ℕ) → mask_at masks place < 2 ^ 64 → ((n : ℕ) → n / 64 ≡ place → is_set masks n ≡ false) → mask_at masks place ≡ 0
unfolding is_set
nothing masks place fits none = ⊎_elim (λ some. absurd (by some (bit_at-trailing_zeros w64 (mask_at masks place) some fits))) (λ l. omega (arith, l)) (cases_lt 0 (mask_at masks place))
  where
    by : 0 < mask_at masks place → (trailing_zeros w64 (mask_at masks place) < 64) × (bit_at (mask_at masks place) (trailing_zeros w64 (mask_at masks place)) ≡ 1) × ((i : ℕ) → i < trailing_zeros w64 (mask_at masks place) → bit_at (mask_at masks place) i ≡ 0) → ⊥
    by some found =
        let t = trailing_zeros w64 (mask_at masks place) in
        let in_place : (64 * place + t) / 64 ≡ place = omega (arith, found.0) in
        let at : (64 * place + t) % 64 ≡ t = omega (arith, found.0) in
        let off = none (64 * place + t) in_place in
        let on : is_set masks (64 * place + t) ≡ true = ap (λ w. nat_eq (bit_at (mask_at masks w) ((64 * place + t) % 64)) 1) in_place ∙ ap (λ i. nat_eq (bit_at (mask_at masks place) i) 1) at ∙ ap (λ b. nat_eq b 1) found.1 in
        let no : true ≡ false = sym on ∙ off in
        absurd (cc)

-- the masks that are left when those without bits are taken off, and when masks of 0 are added
pub mask-taken : (masks : List ℕ) (places place : ℕ) → (place < length masks → mask_at masks place < 2 ^ 64) → ((n : ℕ) → places ≤ n / 64 → is_set masks n ≡ false) → mask_at (take places masks) place ≡ mask_at masks place
mask-taken masks places place fits none = ⊎_elim (λ l. get_or-take places masks place 0 l)
    (λ past. get_or_past (take places masks) place 0 (omega (arith, length-take places masks, past)) ∙ sym (by past (cases_lt place (length masks))))
    (cases_lt place places)
  where
    by : places ≤ place → (place < length masks) ⊎ (length masks ≤ place) → mask_at masks place ≡ 0
    by past (inl l) = nothing masks place (fits l) (λ n e. none n (omega (arith, e, past)))
    by past (inr l) = get_or_past masks place 0 l

filled : (masks : List ℕ) (more place : ℕ) → mask_at (masks ++ replicate more 0) place ≡ mask_at masks place
filled [] more place = ⊎_elim (λ l. get_or-replicate more place 0 0 l) (λ past. get_or_past (replicate more 0) place 0 (omega (arith, length-replicate {A = ℕ} more 0, past))) (cases_lt place more)
filled (m ∷ masks) more zero = refl
filled (m ∷ masks) more (suc place) = filled masks more place

pub mask-resized : (masks : List ℕ) (places more place : ℕ) (made : Bool) → length masks ≤ places → mask_at (if made then take places masks ++ replicate more 0 else masks) place ≡ mask_at masks place
mask-resized masks places more place true l = ap (λ xs. mask_at (xs ++ replicate more 0) place) (take_all places masks l) ∙ filled masks more place
mask-resized masks places more place false l = refl

pub same-bit : (new old : List ℕ) (n : ℕ) → mask_at new (n / 64) ≡ mask_at old (n / 64) → is_set new n ≡ is_set old n
unfolding is_set
same-bit new old n e = ap (λ m. nat_eq (bit_at m (n % 64)) 1) e

-- the mask of a number, from the number's bit on
abbrev pub rest : ℕ → ℕ → ℕ
rest mask from = mask / 2 ^ (from % 64)

module _ (masks : List ℕ) (from mask : ℕ) (is : mask ≡ mask_at masks (from / 64)) where
  shifted : (i : ℕ) → bit_at (rest mask from) i ≡ bit_at mask (from % 64 + i)
  shifted i = ap (λ m. m % 2) (div-div-eq-div-mul mask (2 ^ (from % 64)) (2 ^ i) ∙ ap (λ p. mask / p) (sym (pow-add 2 (from % 64) i)))

  -- its bits are those of the numbers from this one on
  bit_from : (n : ℕ) → from ≤ n → n / 64 ≡ from / 64 → is_set masks n ≡ nat_eq (bit_at (rest mask from) (n - from)) 1
  unfolding is_set
  bit_from n high same =
      ap (λ m. nat_eq (bit_at m (n % 64)) 1) (ap (mask_at masks) same ∙ sym is)
      ∙ ap (λ b. nat_eq b 1) (ap (bit_at mask) (omega (arith, same, high)) ∙ sym (shifted (n - from)))

  unset_at : (n : ℕ) → from ≤ n → n / 64 ≡ from / 64 → bit_at (rest mask from) (n - from) ≡ 0 → is_set masks n ≡ false
  unset_at n high same off = bit_from n high same ∙ ap (λ b. nat_eq b 1) off

  pub none_in : rest mask from ≡ 0 → (n : ℕ) → from ≤ n → n / 64 ≡ from / 64 → is_set masks n ≡ false
  none_in e n high same = unset_at n high same (ap (λ m. bit_at m (n - from)) e ∙ bit_at-zero (n - from))

  pub empty : rest mask from ≡ 0 → from % 64 ≡ 0 → mask_at masks (from / 64) ≡ 0
  empty none first = let all : mask / 2 ^ 0 ≡ 0 = ap (λ k. mask / 2 ^ k) (sym first) ∙ none in omega (arith, all, is)

  -- where there is a bit, the lowest is that of the first number
  module _ (fits : mask < 2 ^ 64) (some : rest mask from ≡ 0 → ⊥) where
    abbrev low : ℕ
    low = trailing_zeros w64 (rest mask from)

    lowest : (low < 64) × (bit_at (rest mask from) low ≡ 1) × ((i : ℕ) → i < low → bit_at (rest mask from) i ≡ 0)
    lowest = bit_at-trailing_zeros w64 (rest mask from) (omega (arith, some)) (let l : rest mask from ≤ mask = div-le_self _ _ in omega arith)

    pub within : from % 64 + low < 64
    within = ⊎_elim (λ l. l)
        (λ h. absurd (
        let off : bit_at (rest mask from) low ≡ 0 = shifted low ∙ bit_at_above mask 64 (from % 64 + low) fits h in
        let on = lowest.1 in
        omega arith))
        (cases_lt (from % 64 + low) 64)

    pub first_in : IsFirst masks from (from + low)
    first_in =
        let l = within in
        record {
          high = omega arith;
          here = bit_from (from + low) (omega arith) (omega arith) ∙ ap (λ i. nat_eq (bit_at (rest mask from) i) 1) (omega arith) ∙ ap (λ b. nat_eq b 1) lowest.1;
          none = λ k high before. unset_at k high (omega arith) (lowest.2 (k - from) (omega arith));
        }
