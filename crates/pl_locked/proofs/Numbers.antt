-- Callers and their numbers.
use Rattle.std.proofs.Common.{◌≡◌, ◌≢◌, ℕ, zero, suc, ◌+◌, ◌<◌, ◌≤◌, Bool, true, false, cond, List, [], ◌∷◌, length, refl, sym, ap, ◌∙◌, subst, arith, inl, inr, ⊎_elim, ne_eqb}
use Rattle.std.specs.Prelude.{nat_eq, ◌||◌, ◌⊎◌}
use Rattle.std.specs.List.{list_any, sum_by}
use Rattle.std.proofs.lemmas.List.Sums.{sum_by-cons}
use Rattle.std.proofs.lemmas.Bool.{eqb-true}
use Rattle.pl_locked.specs.Views.{CallerView, HasCaller}

-- the sum of f below n
abbrev pub below : (ℕ → ℕ) → ℕ → ℕ
below f zero = 0
below f (suc n) = below f n + f n

either_way : (b : Bool) → (b ≡ true) ⊎ (b ≡ false)
either_way true = inl refl
either_way false = inr refl

module _ {A : Type 0} where
  abbrev is_of : ℕ → CallerView A → Bool
  is_of k c = nat_eq c.number k

  -- the callers but for the first of number k
  abbrev without : ℕ → List (CallerView A) → List (CallerView A)
  without k [] = []
  without k (c ∷ cs) = cond (is_of k c) cs (c ∷ without k cs)

  module _ (k : ℕ) where
    without_length : (cs : List (CallerView A)) → HasCaller cs k → length cs ≡ length (without k cs) + 1
    without_length [] h = absurd (cc)
    without_length (c ∷ cs) h = ⊎_elim
        (λ (t : is_of k c ≡ true).
        let e : length (cond (is_of k c) cs (c ∷ without k cs)) ≡ length cs = ap (λ b. length (cond b cs (c ∷ without k cs))) t in omega arith)
        (λ (f : is_of k c ≡ false).
        let h' : HasCaller cs k = sym (ap (λ b. b || list_any (is_of k) cs) f) ∙ h in
        let r = without_length cs h' in
        let e : length (cond (is_of k c) cs (c ∷ without k cs)) ≡ length (without k cs) + 1 = ap (λ b. length (cond b cs (c ∷ without k cs))) f ∙ omega arith in omega arith)
        (either_way (is_of k c))

    without_sum : (f : ℕ → ℕ) (cs : List (CallerView A)) → HasCaller cs k → sum_by (λ c. f c.number) cs ≡ f k + sum_by (λ c. f c.number) (without k cs)
    without_sum f [] h = absurd (cc)
    without_sum f (c ∷ cs) h =
        let g : CallerView A → ℕ = λ (d : CallerView A). f d.number in ⊎_elim
        (λ (t : is_of k c ≡ true).
        let same : c.number ≡ k = eqb-true c.number k t in
        sum_by-cons g c cs ∙ (ap (λ n. f n + sum_by g cs) same ∙ ap (λ b. f k + sum_by g (cond b cs (c ∷ without k cs))) (sym t)))
        (λ (n : is_of k c ≡ false).
        let h' : HasCaller cs k = sym (ap (λ b. b || list_any (is_of k) cs) n) ∙ h in
        let r : sum_by g cs ≡ f k + sum_by g (without k cs) = without_sum f cs h' in
        let e : sum_by g (cond (is_of k c) cs (c ∷ without k cs)) ≡ f c.number + sum_by g (without k cs) = ap (λ b. sum_by g (cond b cs (c ∷ without k cs))) n ∙ sum_by-cons g c (without k cs) in
        let a : sum_by g (c ∷ cs) ≡ f c.number + sum_by g cs = sum_by-cons g c cs in omega arith)
        (either_way (is_of k c))

    without_has : (j : ℕ) → j ≢ k → (cs : List (CallerView A)) → HasCaller cs j → HasCaller (without k cs) j
    without_has j apart [] h = absurd (cc)
    without_has j apart (c ∷ cs) h = ⊎_elim
        (λ (t : is_of k c ≡ true).
        let same : c.number ≡ k = eqb-true c.number k t in
        let not : is_of j c ≡ false = ne_eqb c.number j (λ e. apart (sym e ∙ same)) in
        subst (λ b. HasCaller (cond b cs (c ∷ without k cs)) j) (sym t) (sym (ap (λ b. b || list_any (is_of j) cs) not) ∙ h))
        (λ (n : is_of k c ≡ false). subst (λ b. HasCaller (cond b cs (c ∷ without k cs)) j) (sym n) (⊎_elim
        (λ (t : is_of j c ≡ true). ap (λ b. b || list_any (is_of j) (without k cs)) t)
        (λ (f : is_of j c ≡ false). ap (λ b. b || list_any (is_of j) (without k cs)) f ∙ without_has j apart cs (sym (ap (λ b. b || list_any (is_of j) cs) f) ∙ h))
        (either_way (is_of j c))))
        (either_way (is_of k c))

  -- where each number below n is a caller's, the callers are at least n
  pub at_least : (n : ℕ) (cs : List (CallerView A)) → ((k : ℕ) → k < n → HasCaller cs k) → n ≤ length cs
  at_least zero cs h = omega arith
  at_least (suc n) cs h =
      let r = at_least n (without n cs) (λ k lt. without_has n k (λ e. absurd (omega arith)) cs (h k (omega arith))) in
      let l = without_length n cs (h n (omega arith)) in omega arith

  -- where they are just n, each number below n is there once
  pub once_each : (f : ℕ → ℕ) (n : ℕ) (cs : List (CallerView A)) → ((k : ℕ) → k < n → HasCaller cs k) → length cs ≤ n → sum_by (λ c. f c.number) cs ≡ below f n
  once_each f zero [] h le = refl
  once_each f zero (c ∷ cs) h le = absurd (omega arith)
  once_each f (suc n) cs h le =
      let l = without_length n cs (h n (omega arith)) in
      let r : sum_by (λ (c : CallerView A). f c.number) (without n cs) ≡ below f n = once_each f n (without n cs) (λ k lt. without_has n k (λ e. absurd (omega arith)) cs (h k (omega arith))) (omega arith) in
      let s : sum_by (λ (c : CallerView A). f c.number) cs ≡ f n + sum_by (λ (c : CallerView A). f c.number) (without n cs) = without_sum n f cs (h n (omega arith)) in
      omega arith
