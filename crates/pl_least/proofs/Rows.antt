-- Rows of numbers of which each of the first half is the lesser of two others.
use Rattle.std.proofs.Common.{◌≡◌, ℕ, zero, suc, ◌+◌, ◌*◌, ◌/◌, ◌≤◌, ◌<◌, List, ◌⊎◌, inl, inr, sym, subst, arith}
use Rattle.std.proofs.Math.Nat.{eq-or-lt_of_le}
use Rattle.pl_least.specs.Tournament.{entry, IsLesser, IsTournament}

module _ (entries : List ℕ) (places : ℕ) (t : IsTournament entries places) where
  -- a number is twice its half, or one more
  parts : (j : ℕ) → (j ≡ 2 * (j / 2)) ⊎ (j ≡ 2 * (j / 2) + 1)
  parts j = grind arith

  -- an entry is at least the one above it
  above : (j : ℕ) → 2 ≤ j → j < 2 * places → entry entries (j / 2) ≤ entry entries j
  above j l w = by (t.lesser (j / 2) (omega arith) (omega arith)) (parts j)
    where
      by : IsLesser entries (j / 2) → (j ≡ 2 * (j / 2)) ⊎ (j ≡ 2 * (j / 2) + 1) → entry entries (j / 2) ≤ entry entries j
      by lesser (inl e) = subst (λ i. entry entries (j / 2) ≤ entry entries i) (sym e) (omega (arith, lesser))
      by lesser (inr e) = subst (λ i. entry entries (j / 2) ≤ entry entries i) (sym e) (omega (arith, lesser))

  least-within : (most j : ℕ) → j ≤ most → 1 ≤ j → j < 2 * places → entry entries 1 ≤ entry entries j
  least-within zero j h l w = absurd (omega arith)
  least-within (suc most) j h l w = by (least-within most (j / 2)) (eq-or-lt_of_le l)
    where
      by : (j / 2 ≤ most → 1 ≤ j / 2 → j / 2 < 2 * places → entry entries 1 ≤ entry entries (j / 2)) → (1 ≡ j) ⊎ (1 < j) → entry entries 1 ≤ entry entries j
      by first (inl e) = subst (λ i. entry entries 1 ≤ entry entries i) e (omega arith)
      by first (inr m) =
          let above_it = above j (omega arith) w in
          let below = first (omega arith) (omega arith) (omega arith) in
          omega (arith, above_it, below)

  -- the second entry is the least of all that follow the first one
  pub least : (j : ℕ) → 1 ≤ j → j < 2 * places → entry entries 1 ≤ entry entries j
  least j l w = least-within j j (omega arith) l w
