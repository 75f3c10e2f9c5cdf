-- What a test says of each number below a limit, computed.
use Rattle.std.proofs.Common.{◌≡◌, ℕ, zero, suc, ◌+◌, ◌<◌, ◌≤◌, Bool, true, false, ◌&&◌, refl, sym, ap, arith, subst, inl, inr}
use Rattle.std.specs.Prelude.{Option, Some, None, ◌==◌}
use Rattle.std.specs.List.{list_all}
use Rattle.std.proofs.lemmas.Bool.{eqb-true, cases_eq}
use Rattle.pl_model.specs.Numbers.{numbers_from}

pub both : (a b : Bool) → (a && b) ≡ true → (a ≡ true) × (b ≡ true)
both true b h = (refl, h)
both false b h = absurd cc

-- each of n numbers from k on passes the test
passes_from : (test : ℕ → Bool) (n k : ℕ) → list_all test (numbers_from n k) ≡ true → (i : ℕ) → k ≤ i → i < k + n → test i ≡ true
unfolding numbers_from
passes_from test zero k all i low high = absurd (omega arith)
passes_from test (suc n) k all i low high =
    let parts = both (test k) (list_all test (numbers_from n (k + 1))) all in
    elim (cases_eq i k) [
      | inl e ↦ subst (λ j. test j ≡ true) (sym e) parts.0
      | inr ne ↦ passes_from test n (k + 1) parts.1 i (omega arith) (omega arith)
    ]

pub passes_below : (test : ℕ → Bool) (n : ℕ) → list_all test (numbers_from n 0) ≡ true → (i : ℕ) → i < n → test i ≡ true
passes_below test n all i lt = passes_from test n 0 all i (omega arith) (omega arith)

-- whether this number was said
abbrev pub says : Option ℕ → ℕ → Bool
says None n = false
says (Some m) n = m == n

pub said : (o : Option ℕ) (n : ℕ) → says o n ≡ true → o ≡ Some n
said None n h = absurd cc
said (Some m) n h = ap (λ x. Some x) (eqb-true m n h)
