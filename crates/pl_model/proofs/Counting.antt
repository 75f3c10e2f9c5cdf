-- How many of a list pass a test.
use Rattle.std.proofs.Common.{◌≡◌, ℕ, ◌+◌, ◌<◌, Bool, true, false, cond, List, [], ◌∷◌, refl, ◌∙◌, ap, nat_lt, arith}
use Rattle.std.specs.Prelude.{◌||◌, count_by}
use Rattle.std.specs.List.{list_any}
use Rattle.std.proofs.lemmas.Bool.Decides.{nat_tests}
use Rattle.std.proofs.lemmas.List.Sums.{sum_by-cons}

pub positive : (n : ℕ) → nat_lt 0 n ≡ true → 0 < n
positive n h = grind (arith, nat_tests)

pub above : (n : ℕ) → 0 < n → nat_lt 0 n ≡ true
above n h = grind (arith, nat_tests)

pub is_zero : (n : ℕ) → nat_lt 0 n ≡ false → n ≡ 0
is_zero n h = grind (arith, nat_tests)

pub some_sum : (a b : ℕ) → nat_lt 0 (a + b) ≡ (nat_lt 0 a || nat_lt 0 b)
some_sum a b = by (nat_lt 0 a) refl
  where
    by : (x : Bool) → nat_lt 0 a ≡ x → nat_lt 0 (a + b) ≡ (x || nat_lt 0 b)
    by true e = above (a + b) (let p = positive a e in omega (arith, p))
    by false e = ap (nat_lt 0) (let z = is_zero a e in let same : a + b ≡ b = omega (arith, z) in same)

-- the 1 that is counted
pub counts_one : (b : Bool) → nat_lt 0 (cond b 1 0) ≡ b
counts_one true = refl
counts_one false = refl

-- a test passes exactly where it is counted
pub some_counted : {X : Type 0} (p : X → Bool) (xs : List X) → nat_lt 0 (count_by p xs) ≡ list_any p xs
some_counted p [] = refl
some_counted p (x ∷ xs) = ap (nat_lt 0) (sum_by-cons (λ y. cond (p y) 1 0) x xs) ∙ some_sum (cond (p x) 1 0) (count_by p xs) ∙ (λ i. counts_one (p x) i || some_counted p xs i)
