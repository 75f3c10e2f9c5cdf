-- The first of some numbers that passes a test.
use Rattle.std.proofs.Common.{◌≡◌, ◌≢◌, ℕ, zero, suc, ◌+◌, ◌<◌, ◌≤◌, Bool, true, false, Option, Some, None, refl, sym, ◌∙◌, ap, inl, inr, arith}
use Rattle.std.proofs.lemmas.Bool.Decides.{eqb_tells}
use Rattle.pl_model.specs.Numbers.{first_from}

module _ (test : ℕ → Bool) where
  pub first_is : (n k x : ℕ) → k ≤ x → x < k + n → test x ≡ true → ((y : ℕ) → k ≤ y → y < x → test y ≡ false) → first_from test n k ≡ Some x
  unfolding first_from
  first_is zero k x low high h before = absurd (omega arith)
  first_is (suc n) k x low high h before = by (first_is n (k + 1) x)
    where
      by : (k + 1 ≤ x → x < (k + 1) + n → test x ≡ true → ((y : ℕ) → k + 1 ≤ y → y < x → test y ≡ false) → first_from test n (k + 1) ≡ Some x) → (elim (test k) as (λ _. Option ℕ) [ true ↦ Some k | false ↦ first_from test n (k + 1) ]) ≡ Some x
      by rest = elim (eqb_tells k x) as (λ _. (elim (test k) as (λ _. Option ℕ) [ true ↦ Some k | false ↦ first_from test n (k + 1) ]) ≡ Some x) [
        | inl e ↦ ap (λ b. elim b as (λ _. Option ℕ) [ true ↦ Some k | false ↦ first_from test n (k + 1) ]) (ap test e.1 ∙ h) ∙ ap (λ z. Some z) e.1
        | inr e ↦
            let apart : k ≢ x = e.1 in
            ap (λ b. elim b as (λ _. Option ℕ) [ true ↦ Some k | false ↦ first_from test n (k + 1) ]) (before k (omega arith) (omega (arith, apart)))
            ∙ rest (omega (arith, apart)) (omega arith) h (λ y l m. before y (omega arith) m)
      ]

  pub first_none : (n k : ℕ) → ((y : ℕ) → k ≤ y → y < k + n → test y ≡ false) → first_from test n k ≡ None
  unfolding first_from
  first_none zero k all = refl
  first_none (suc n) k all =
      ap (λ b. elim b as (λ _. Option ℕ) [ true ↦ Some k | false ↦ first_from test n (k + 1) ]) (all k (omega arith) (omega arith))
      ∙ first_none n (k + 1) (λ y l m. all y (omega arith) (omega arith))

  pub first_found : (n k x : ℕ) → first_from test n k ≡ Some x → (test x ≡ true) × (k ≤ x) × (x < k + n) × ((y : ℕ) → k ≤ y → y < x → test y ≡ false)
  unfolding first_from
  first_found zero k x e = absurd (cc)
  first_found (suc n) k x e = by (first_found n (k + 1) x) (test k) refl e
    where
      by : (first_from test n (k + 1) ≡ Some x → (test x ≡ true) × (k + 1 ≤ x) × (x < (k + 1) + n) × ((y : ℕ) → k + 1 ≤ y → y < x → test y ≡ false)) → (b : Bool) → test k ≡ b → (elim b as (λ _. Option ℕ) [ true ↦ Some k | false ↦ first_from test n (k + 1) ]) ≡ Some x
          → (test x ≡ true) × (k ≤ x) × (x < k + suc n) × ((y : ℕ) → k ≤ y → y < x → test y ≡ false)
      by rest true t e = (let s : k ≡ x = cc in (ap test (sym s) ∙ t, omega (arith, s), omega (arith, s), λ y l m. absurd (omega (arith, s))))
      by rest false t e = (
          let r = rest e in (
            r.0,
            omega (arith, r.1),
            omega (arith, r.2),
            λ y l m. elim (eqb_tells k y) as (λ _. test y ≡ false) [
              | inl s ↦ ap test (sym s.1) ∙ t
              | inr s ↦ (let apart : k ≢ y = s.1 in r.3 y (omega (arith, apart)) m)
            ],
          ))

  -- where there is none, each fails
  pub first_fails : (n k : ℕ) → first_from test n k ≡ None → (y : ℕ) → k ≤ y → y < k + n → test y ≡ false
  unfolding first_from
  first_fails zero k e y low high = absurd (omega arith)
  first_fails (suc n) k e y low high = by (first_fails n (k + 1)) (test k) refl e
    where
      by : (first_from test n (k + 1) ≡ None → (x : ℕ) → k + 1 ≤ x → x < (k + 1) + n → test x ≡ false) → (b : Bool) → test k ≡ b → (elim b as (λ _. Option ℕ) [ true ↦ Some k | false ↦ first_from test n (k + 1) ]) ≡ None → test y ≡ false
      by rest true t e = absurd (cc)
      by rest false t e = elim (eqb_tells k y) as (λ _. test y ≡ false) [
        | inl s ↦ ap test (sym s.1) ∙ t
        | inr s ↦ (let apart : k ≢ y = s.1 in rest e y (omega (arith, apart)) (omega arith))
      ]

  -- of fewer numbers the first is the same, if it is one of them,
  pub first_kept : (n m k x : ℕ) → first_from test n k ≡ Some x → x < k + m → first_from test m k ≡ Some x
  first_kept n m k x e within = let f = first_found n k x e in first_is m k x f.1 within f.0 f.3

  -- and else there is none
  pub first_cut : (n m k x : ℕ) → first_from test n k ≡ Some x → k + m ≤ x → first_from test m k ≡ None
  first_cut n m k x e beyond = let f = first_found n k x e in first_none m k (λ y l h. f.3 y l (omega arith))

  pub none_kept : (n m k : ℕ) → m ≤ n → first_from test n k ≡ None → first_from test m k ≡ None
  none_kept n m k fewer e = first_none m k (λ y l h. first_fails n k e y l (omega arith))

-- tests that agree on these numbers have the same first of them
pub first_agree : (p q : ℕ → Bool) (n k : ℕ) → ((y : ℕ) → k ≤ y → y < k + n → p y ≡ q y) → first_from p n k ≡ first_from q n k
unfolding first_from
first_agree p q zero k h = refl
first_agree p q (suc n) k h =
    (λ i. elim (h k (omega arith) (omega arith) i) as (λ _. Option ℕ) [ true ↦ Some k | false ↦ first_from p n (k + 1) ])
    ∙ ap (λ o. elim (q k) as (λ _. Option ℕ) [ true ↦ Some k | false ↦ o ]) (first_agree p q n (k + 1) (λ y l m. h y (omega arith) (omega arith)))
