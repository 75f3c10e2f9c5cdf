-- Where an element stands first, as `position` tells it.
use Rattle.std.proofs.Common.{◌≡◌, ℕ, ◌+◌, ◌-◌, ◌<◌, ◌≤◌, Bool, true, false, cond, List, length, take, drop, get_or, inl, inr, refl, arith}
use Rattle.std.specs.Prelude.{nat_lt, position, Some, None, ◌⊎◌}
use Rattle.std.specs.List.{position_or_len}
use Rattle.std.proofs.lemmas.Bool.{ltb-true, ltb-false, lt-ltb, le-ltb}
use Rattle.std.proofs.lemmas.List.{length-take-le, length-drop, get_or-take, get_or-drop}
use Rattle.std.proofs.lemmas.List.Sums.{fails_before_first, passes_at_first, position_or_len_is}
use Rattle.memchr.specs.Find.{IsFirstByte}

place_by : (n k i : ℕ) (b : Bool) → nat_lt n k ≡ b → cond b (Some n) None ≡ Some i → (n ≡ i) × (n < k)
place_by n k i true e found = (cc, ltb-true n k e)
place_by n k i false e found = absurd cc

pub place_of : (p : ℕ → Bool) (xs : List ℕ) (i : ℕ) → position p xs ≡ Some i → (position_or_len p xs ≡ i) × (position_or_len p xs < length xs)
place_of p xs i found = place_by (position_or_len p xs) (length xs) i (nat_lt (position_or_len p xs) (length xs)) refl found

nowhere_by : (n k : ℕ) (b : Bool) → nat_lt n k ≡ b → cond b (Some n) None ≡ None → k ≤ n
nowhere_by n k true e none = absurd cc
nowhere_by n k false e none = ltb-false n k e

pub nowhere : (p : ℕ → Bool) (xs : List ℕ) → position p xs ≡ None → length xs ≤ position_or_len p xs
nowhere p xs none = nowhere_by (position_or_len p xs) (length xs) (nat_lt (position_or_len p xs) (length xs)) refl none

-- ---- a front, and what stands behind it

near_by : (k n : ℕ) (b : Bool) → nat_lt k n ≡ b → (k < n) ⊎ (n ≤ k)
near_by k n true e = inl (ltb-true k n e)
near_by k n false e = inr (ltb-false k n e)

near_or_far : (k n : ℕ) → (k < n) ⊎ (n ≤ k)
near_or_far k n = near_by k n (nat_lt k n) refl

not_true : (b : Bool) → (b ≡ true → ⊥) → b ≡ false
not_true true h = absurd (h refl)
not_true false h = refl

first_is : (p : ℕ → Bool) (xs : List ℕ) (i : ℕ) → i < length xs → ((k : ℕ) → k < i → p (get_or xs k 0) ≡ false) → p (get_or xs i 0) ≡ true → position p xs ≡ Some i
first_is p xs i lt before here =
    let is = position_or_len_is p xs i 0 (omega arith) before (λ within. here) in
    rw (is, lt-ltb i (length xs) lt) refl

none_is : (p : ℕ → Bool) (xs : List ℕ) → ((k : ℕ) → k < length xs → p (get_or xs k 0) ≡ false) → position p xs ≡ None
none_is p xs each =
    let is = position_or_len_is p xs (length xs) 0 (omega arith) each (λ (within : length xs < length xs). absurd (omega arith)) in
    rw (is, le-ltb (length xs) (length xs) (omega arith)) refl

module _ (p : ℕ → Bool) (xs : List ℕ) (n : ℕ) (le : n ≤ length xs) where
  -- none in the front
  pub none_near : position p (take n xs) ≡ None → (k : ℕ) → k < n → p (get_or xs k 0) ≡ false
  none_near none k lt =
      let within : k < position_or_len p (take n xs) = omega (arith, nowhere p (take n xs) none, length-take-le n xs le) in
      rw (← get_or-take n xs k 0 lt) (fails_before_first p (take n xs) k 0 within)

  pub first_near : (i : ℕ) → position p (take n xs) ≡ Some i → position p xs ≡ Some i
  first_near i found =
      let at = place_of p (take n xs) i found in
      let lt : i < n = omega (arith, at.0, at.1, length-take-le n xs le) in
      let before = λ (k : ℕ) (below : k < i). rw (get_or-take n xs k 0 (omega arith)) at (fails_before_first p (take n xs) k 0 (omega (arith, at.0))) in
      let here = rw (at.0, get_or-take n xs i 0 lt) at (passes_at_first p (take n xs) 0 at.1) in
      first_is p xs i (omega arith) before here

  -- up to a place behind the front there is none
  none_to : (m : ℕ) → position p (take n xs) ≡ None → ((k : ℕ) → 0 ≤ k → k < m → p (get_or (drop n xs) k 0) ≡ true → ⊥) → (k : ℕ) → k < n + m → p (get_or xs k 0) ≡ false
  none_to m none far k lt =
      elim (near_or_far k n) [
        | inl near ↦ none_near none k near
        | inr past ↦
            let at : n + (k - n) ≡ k = omega arith in
            let fails = not_true (p (get_or (drop n xs) (k - n) 0)) (far (k - n) (omega arith) (omega arith)) in
            rw (get_or-drop n xs (k - n) 0, at) at fails
      ]

  pub first_far : (k : ℕ) → position p (take n xs) ≡ None → IsFirstByte p (drop n xs) (Some k) → (position p xs ≡ Some (n + k)) × (n + k < length xs)
  first_far k none first =
      let lt : n + k < length xs = omega (arith, first.0.high, length-drop n xs) in
      let here = rw (get_or-drop n xs k 0) at first.1 in
      (first_is p xs (n + k) lt (none_to k none first.0.before) here, lt)

  pub none_far : position p (take n xs) ≡ None → IsFirstByte p (drop n xs) None → position p xs ≡ None
  none_far none far = none_is p xs (λ k lt. none_to (length (drop n xs)) none far k (omega (arith, length-drop n xs)))

  -- nothing stands behind the front
  pub none_past : position p (take n xs) ≡ None → length (drop n xs) ≡ 0 → position p xs ≡ None
  none_past none empty = none_is p xs (λ k lt. none_near none k (omega (arith, empty, length-drop n xs)))
