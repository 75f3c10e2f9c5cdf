-- To what a size is rounded.
use Rattle.std.proofs.Common.{◌≡◌, ℕ, zero, suc, ◌+◌, ◌-◌, ◌*◌, ◌^◌, ◌/◌, ◌%◌, ◌<◌, ◌≤◌, ap, ◌∙◌, max, Bool, true, false, cond, List, [], ◌∷◌, find, nat_le, unwrap_or, Some, refl, sym, subst, inl, inr, arith, pow_mono, zero-add, le_antisymm}
use Rattle.std.specs.Int.{IsPowerOfTwo}
use Rattle.std.proofs.lemmas.Nat.{pow-add}
use Rattle.std.proofs.lemmas.Bool.Decides.{leb_tells}
use Rattle.pl_model.specs.Numbers.{first_capacity, least_capacity, most_capacity}
use Rattle.pl_model.specs.Capacity.{rounded_capacity, IsPipeCapacity}
use Rattle.pl_model.specs.Capacities.{IsLeastPowerOfTwo, RoundsUp}

-- a power of two, of which the half is less
pub least_above : (n j : ℕ) → 2 ^ j < n → n ≤ 2 ^ suc j → IsLeastPowerOfTwo n (2 ^ suc j)
least_above n j half enough = record { power = (suc j, refl); enough = enough; least = λ q power le. least q power le }
  where
    least : (q : ℕ) → IsPowerOfTwo q → n ≤ q → 2 ^ suc j ≤ q
    least q power le = elim (leb_tells (suc j) power.0) as (λ _. 2 ^ suc j ≤ q) [
      | inl t ↦ omega (arith, power.1, pow_mono t.1)
      | inr t ↦ (let more : 2 ^ power.0 ≤ 2 ^ j = pow_mono (omega (arith, t.1)) in absurd (omega (arith, power.1)))
    ]

-- the next m powers of two from the j-th on
abbrev powers : ℕ → ℕ → List ℕ
powers zero j = []
powers (suc m) j = 2 ^ j ∷ powers m (suc j)

-- the first of them that is enough
first_enough : (m j size d : ℕ) → 2 ^ j < size → size ≤ 2 ^ (m + j) → IsLeastPowerOfTwo size (unwrap_or (find (nat_le size) (powers m (suc j))) d)
first_enough zero j size d half enough = (let same : size ≤ 2 ^ j = subst (λ k. size ≤ 2 ^ k) (zero-add j) enough in absurd (omega (arith, half)))
first_enough (suc m) j size d half enough = elim (leb_tells size (2 ^ suc j)) as (λ _. IsLeastPowerOfTwo size (unwrap_or (find (nat_le size) (powers (suc m) (suc j))) d)) [
  | inl t ↦ subst (λ b. IsLeastPowerOfTwo size (unwrap_or (cond b (Some (2 ^ suc j)) (find (nat_le size) (powers m (suc (suc j))))) d)) (sym t.0) (least_above size j half t.1)
  | inr t ↦ subst (λ b. IsLeastPowerOfTwo size (unwrap_or (cond b (Some (2 ^ suc j)) (find (nat_le size) (powers m (suc (suc j))))) d)) (sym t.0) (first_enough m (suc j) size d t.1 (subst (λ k. size ≤ 2 ^ k) (omega arith) enough))
]

pub rounds_up : RoundsUp
unfolding rounded_capacity
rounds_up size within = elim (leb_tells size 4096) as (λ _. IsLeastPowerOfTwo (max least_capacity size) (rounded_capacity size)) [
  | inl t ↦ subst (λ b. IsLeastPowerOfTwo (max 4096 size) (unwrap_or (cond b (Some 4096) (find (nat_le size) (powers 8 13))) most_capacity)) (sym t.0)
      (subst (λ n. IsLeastPowerOfTwo n 4096) (omega (arith, t.1)) (least_above 4096 11 (omega arith) (omega arith)))
  | inr t ↦ subst (λ b. IsLeastPowerOfTwo (max 4096 size) (unwrap_or (cond b (Some 4096) (find (nat_le size) (powers 8 13))) most_capacity)) (sym t.0)
      (subst (λ n. IsLeastPowerOfTwo n (unwrap_or (find (nat_le size) (powers 8 13)) most_capacity)) (omega (arith, t.1)) (first_enough 8 12 size most_capacity t.1 within))
]

-- what holds of each of them, and of what stands for none, holds of the first that passes a test
found_power : (P : ℕ → Type 0) (test : ℕ → Bool) (m j d : ℕ) → ((k : ℕ) → j ≤ k → k < m + j → P (2 ^ k)) → P d → P (unwrap_or (find test (powers m j)) d)
found_power P test zero j d each default = default
found_power P test (suc m) j d each default = at (test (2 ^ j)) (found_power P test m (suc j) d (λ k from to. each k (omega arith) (omega arith)) default) where
  at : (b : Bool) → P (unwrap_or (find test (powers m (suc j))) d) → P (unwrap_or (cond b (Some (2 ^ j)) (find test (powers m (suc j)))) d)
  at true rest = each j (omega arith) (omega arith)
  at false rest = rest

power-capacity : (k : ℕ) → 12 ≤ k → k < 21 → IsPipeCapacity (2 ^ k)
power-capacity k from to = record { power = (k, refl); least = pow_mono from; most = pow_mono {j = 20} (omega arith) }

pub rounded-capacity : (size : ℕ) → IsPipeCapacity (rounded_capacity size)
unfolding rounded_capacity
rounded-capacity size = found_power IsPipeCapacity (nat_le size) 9 12 most_capacity power-capacity (power-capacity 20 (omega arith) (omega arith))

-- each is a number of pages
pub capacity-pages : (n : ℕ) → IsPipeCapacity n → n % 4096 ≡ 0
capacity-pages n c = elim (leb_tells 12 c.power.0) as (λ _. n % 4096 ≡ 0) [
  | inl t ↦
      let split : 2 ^ c.power.0 ≡ 2 ^ (c.power.0 - 12) * 4096 = ap (λ k. 2 ^ k) (let sum : c.power.0 ≡ c.power.0 - 12 + 12 = omega (arith, t.1) in sum) ∙ pow-add 2 (c.power.0 - 12) 12 in
      omega (arith, c.power.1, split)
  | inr t ↦ (let few : 2 ^ c.power.0 ≤ 2048 = pow_mono {j = 11} (omega (arith, t.1)) in absurd (omega (arith, c.power.1, c.least)))
]

pub first-capacity : IsPipeCapacity first_capacity
first-capacity = power-capacity 16 (omega arith) (omega arith)

-- to a power of two that is enough, and of which the half isn't
pub rounded-is : (size p : ℕ) → size ≤ most_capacity → IsPowerOfTwo p → max least_capacity size ≤ p → p / 2 < max least_capacity size → rounded_capacity size ≡ p
rounded-is size p within power enough half = at power.0 power.1
  where
    to : IsLeastPowerOfTwo (max least_capacity size) (rounded_capacity size)
    to = rounds_up size within

    at : (k : ℕ) → p ≡ 2 ^ k → rounded_capacity size ≡ p
    at zero e = absurd (omega (arith, enough, e))
    at (suc j) e =
        let own : IsLeastPowerOfTwo (max least_capacity size) (2 ^ suc j) = least_above (max least_capacity size) j (omega (arith, half, e)) (omega (arith, enough, e)) in
        le_antisymm (to.least p power enough) (omega (arith, own.least (rounded_capacity size) to.power to.enough, e))
