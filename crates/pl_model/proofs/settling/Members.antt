-- Members of lists, and which of them pass a test.
use Rattle.std.proofs.Common.{◌≡◌, ◌≢◌, ℕ, zero, suc, ◌+◌, ◌<◌, ◌≤◌, Bool, true, false, cond, List, [], ◌∷◌, Option, Some, None, refl, sym, ◌∙◌, ap, inl, inr, nat_eq, nat_lt, length, arith}
use Rattle.std.specs.Prelude.{◌||◌, ◌&&◌}
use Rattle.std.specs.List.{list_any, filter, flat_map, filter_map, cons_option}
use Rattle.std.specs.Set.{distinct_count, unique_keys, is_member}
use Rattle.std.proofs.lemmas.List.Folds.{list_any-append}
use Rattle.std.proofs.lemmas.Bool.{eq-eqb}
use Rattle.std.proofs.lemmas.Bool.Decides.{eqb_tells}
use Rattle.pl_model.specs.Numbers.{numbers_from}

-- two tests are one where each makes the other true
pub both_ways : (a b : Bool) → (a ≡ true → b ≡ true) → (b ≡ true → a ≡ true) → a ≡ b
both_ways true b f g = sym (f refl)
both_ways false true f g = g refl
both_ways false false f g = refl

pub and_left : (a b : Bool) → (a && b) ≡ true → a ≡ true
and_left true b h = refl
and_left false b h = h

pub and_right : (a b : Bool) → (a && b) ≡ true → b ≡ true
and_right true b h = h
and_right false b h = absurd (cc)

pub or_left : (a b : Bool) → a ≡ true → (a || b) ≡ true
or_left true b h = refl
or_left false b h = absurd (cc)

pub or_right : (a b : Bool) → b ≡ true → (a || b) ≡ true
or_right true b h = refl
or_right false b h = h

pub or_elim : {C : Type 0} (a b : Bool) → (a ≡ true → C) → (b ≡ true → C) → (a || b) ≡ true → C
or_elim true b f g h = f refl
or_elim false b f g h = g h

-- a member that passes the test
pub member_found : (t : ℕ → Bool) (xs : List ℕ) → list_any t xs ≡ true → (d : ℕ) × (is_member nat_eq xs d ≡ true) × (t d ≡ true)
member_found t [] h = absurd (cc)
member_found t (x ∷ xs) h = by (member_found t xs) (t x) refl h
  where
    by : (list_any t xs ≡ true → (d : ℕ) × (is_member nat_eq xs d ≡ true) × (t d ≡ true)) → (b : Bool) → t x ≡ b → (b || list_any t xs) ≡ true → (d : ℕ) × (is_member nat_eq (x ∷ xs) d ≡ true) × (t d ≡ true)
    by rest true e h = (x, or_left (nat_eq x x) _ (eq-eqb x x refl), e)
    by rest false e h = let r = rest h in (r.0, or_right (nat_eq r.0 x) _ r.1, r.2)

pub member_passes : (t : ℕ → Bool) (xs : List ℕ) (d : ℕ) → is_member nat_eq xs d ≡ true → t d ≡ true → list_any t xs ≡ true
member_passes t [] d m h = absurd (cc)
member_passes t (x ∷ xs) d m h = by (member_passes t xs d)
  where
    by : (is_member nat_eq xs d ≡ true → t d ≡ true → list_any t xs ≡ true) → (t x || list_any t xs) ≡ true
    by rest = elim (eqb_tells d x) as (λ _. (t x || list_any t xs) ≡ true) [
      | inl e ↦ or_left (t x) _ (ap t (sym e.1) ∙ h)
      | inr e ↦ or_right (t x) _ (rest (ap (λ b. b || is_member nat_eq xs d) (sym e.0) ∙ m) h)
    ]

-- a list that is not empty has an element that counts
positive : (x : ℕ) (xs : List ℕ) → 0 < distinct_count nat_eq (x ∷ xs)
positive x [] = omega arith
positive x (y ∷ ys) = by (positive y ys) (is_member nat_eq (y ∷ ys) x)
  where
    by : 0 < distinct_count nat_eq (y ∷ ys) → (b : Bool) → 0 < length (cond b (unique_keys nat_eq (y ∷ ys)) (x ∷ unique_keys nat_eq (y ∷ ys)))
    by h true = h
    by h false = omega arith

above : (n : ℕ) → 0 < n → nat_lt 0 n ≡ true
above n h = grind arith

-- some member passes the test exactly where those that do are counted above 0
pub some_count : (t : ℕ → Bool) (xs : List ℕ) → nat_lt 0 (distinct_count nat_eq (filter t xs)) ≡ list_any t xs
some_count t [] = refl
some_count t (x ∷ xs) = by (some_count t xs) (t x)
  where
    by : nat_lt 0 (distinct_count nat_eq (filter t xs)) ≡ list_any t xs → (b : Bool) → nat_lt 0 (distinct_count nat_eq (cond b (x ∷ filter t xs) (filter t xs))) ≡ (b || list_any t xs)
    by h true = above _ (positive x (filter t xs))
    by h false = h

-- the same key
abbrev pub is_here : ℕ → Option ℕ → Bool
is_here d None = false
is_here d (Some y) = nat_eq d y

pub member_filter_map : (d : ℕ) (f : ℕ → Option ℕ) (ks : List ℕ) → is_member nat_eq (filter_map f ks) d ≡ list_any (λ k. is_here d (f k)) ks
member_filter_map d f [] = refl
member_filter_map d f (k ∷ ks) = by (f k) (member_filter_map d f ks)
  where
    by : (o : Option ℕ) → is_member nat_eq (filter_map f ks) d ≡ list_any (λ k. is_here d (f k)) ks → is_member nat_eq (cons_option o (filter_map f ks)) d ≡ (is_here d o || list_any (λ k. is_here d (f k)) ks)
    by None e = e
    by (Some y) e = ap (λ b. nat_eq d y || b) e

pub member_flat : {X : Type 0} (d : ℕ) (f : X → List ℕ) (ks : List X) → is_member nat_eq (flat_map f ks) d ≡ list_any (λ k. is_member nat_eq (f k) d) ks
member_flat d f [] = refl
member_flat d f (k ∷ ks) = list_any-append (nat_eq d) (f k) (flat_map f ks) ∙ ap (λ b. is_member nat_eq (f k) d || b) (member_flat d f ks)

pub any_filter : {X : Type 0} (t p : X → Bool) (xs : List X) → list_any t (filter p xs) ≡ list_any (λ x. p x && t x) xs
any_filter t p [] = refl
any_filter t p (x ∷ xs) = by (p x) (any_filter t p xs)
  where
    by : (b : Bool) → list_any t (filter p xs) ≡ list_any (λ x. p x && t x) xs → list_any t (cond b (x ∷ filter p xs) (filter p xs)) ≡ ((b && t x) || list_any (λ x. p x && t x) xs)
    by true e = ap (λ b. t x || b) e
    by false e = e

-- which of the n numbers from k on pass a test
pub any_number : (t : ℕ → Bool) (n k : ℕ) → list_any t (numbers_from n k) ≡ true → (x : ℕ) × (k ≤ x) × (x < k + n) × (t x ≡ true)
unfolding numbers_from
any_number t zero k h = absurd (cc)
any_number t (suc n) k h = by (any_number t n (k + 1)) (t k) refl h
  where
    by : (list_any t (numbers_from n (k + 1)) ≡ true → (x : ℕ) × (k + 1 ≤ x) × (x < (k + 1) + n) × (t x ≡ true)) → (b : Bool) → t k ≡ b → (b || list_any t (numbers_from n (k + 1))) ≡ true → (x : ℕ) × (k ≤ x) × (x < k + suc n) × (t x ≡ true)
    by rest true e h = (k, omega arith, omega arith, e)
    by rest false e h = let r = rest h in (r.0, omega (arith, r.1), omega (arith, r.2), r.3)

pub number_passes : (t : ℕ → Bool) (n k x : ℕ) → k ≤ x → x < k + n → t x ≡ true → list_any t (numbers_from n k) ≡ true
unfolding numbers_from
number_passes t zero k x low high h = absurd (omega arith)
number_passes t (suc n) k x low high h = by (number_passes t n (k + 1) x)
  where
    by : (k + 1 ≤ x → x < (k + 1) + n → t x ≡ true → list_any t (numbers_from n (k + 1)) ≡ true) → (t k || list_any t (numbers_from n (k + 1))) ≡ true
    by rest = elim (eqb_tells k x) as (λ _. (t k || list_any t (numbers_from n (k + 1))) ≡ true) [
      | inl e ↦ or_left (t k) _ (ap t e.1 ∙ h)
      | inr e ↦ or_right (t k) _ (let apart : k ≢ x = e.1 in rest (omega (arith, apart)) (omega arith) h)
    ]
