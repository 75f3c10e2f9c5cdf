-- A binary search by number.
use Rattle.std.proofs.Common.{◌≡◌, ◌≢◌, ℕ, zero, suc, ◌+◌, ◌<◌, ◌≤◌, [], ◌∷◌, Some, None, IfSome, IfNone, Result, Ok, Err, ◌∙◌, ap, subst, inl, inr, ◌⊎◌, ⊎_elim, nat_eq, length, slice_index_or, arith}
use Rattle.std.specs.Result.{result_ok}
use Rattle.std.specs.Ordering.{nat_cmp, ordering_index, MatchOrdering}
use Rattle.std.specs.Cmp.{ranks}
use Rattle.std.specs.List.Sorted.{IsBinarySearchResult, IsSearchInRange}
use Rattle.std.specs.declared.cmp.Ordering.TheVariants.{Equal}
use Rattle.std.proofs.lemmas.Bool.{cases_order}
use Rattle.std.proofs.lemmas.Bool.Decides.{nat_tests}
use Rattle.pl_model.specs.Map.{Map, get}
use Rattle.pl_numbered.specs.Rising.{Rise, number_at}
use Rattle.pl_numbered.proofs.Rising.{number_here, get-absent, Rise-lower}

pub order : (a b : ℕ) → (a < b) ⊎ (b ≤ a)
order a b = ⊎_elim (λ e. inr (omega arith)) (λ o. ⊎_elim (λ l. inl l) (λ l. inr (omega arith)) o) (cases_order a b)

pub higher : (x a b : ℕ) → a ≤ b → ordering_index (nat_cmp a x) ≤ ordering_index (nat_cmp b x)
higher x a b le = grind (arith, nat_tests)

module _ {X : Type 0} where
  pub all_high : (low next j : ℕ) (es : Map ℕ X) (d : ℕ × X) → Rise low next es → j < length es → low ≤ (slice_index_or es j d).0
  all_high low next j [] d r l = absurd (omega arith)
  all_high low next zero (e ∷ es) d r l = r.0
  all_high low next (suc j) (e ∷ es) d r l = all_high low next j es d (Rise-lower low (e.0 + 1) next es (let a = r.0 in omega arith) r.1) (omega arith)

  pub rising : (low next i j : ℕ) (es : Map ℕ X) (d : ℕ × X) → Rise low next es → i ≤ j → j < length es → (slice_index_or es i d).0 ≤ (slice_index_or es j d).0
  rising low next i j [] d r le l = absurd (omega arith)
  rising low next zero j (e ∷ es) d r le l = all_high e.0 next j (e ∷ es) d (let a : e.0 ≤ e.0 = omega arith in (a, r.1)) l
  rising low next (suc i) zero (e ∷ es) d r le l = absurd (omega arith)
  rising low next (suc i) (suc j) (e ∷ es) d r le l = rising (e.0 + 1) next i j es d r.1 (omega arith) (omega arith)

  -- a binary search by number finds the entry of the number, if there is one
  module _ (n next : ℕ) (es : Map ℕ X) (r : Rise 0 next es) where
    searched_here : (o : Result ℕ ℕ) → IsSearchInRange o (length es) → IsBinarySearchResult (λ (e : ℕ × X). nat_cmp e.0 n) es o → IfSome (result_ok o) (λ k. number_at es k ≡ Some n)
    searched_here (Err i) b h = tt
    searched_here (Ok i) b h = by es b h
      where
        by : (es : Map ℕ X) → i < length es → ((d : ℕ × X) → nat_cmp (slice_index_or es i d).0 n ≡ Equal) → number_at es i ≡ Some n
        by [] l f = absurd (omega arith)
        by (e ∷ es) l f =
            let at = subst (λ o. MatchOrdering o ((slice_index_or (e ∷ es) i e).0 < n) ((slice_index_or (e ∷ es) i e).0 ≡ n) (n < (slice_index_or (e ∷ es) i e).0)) (f e) (ranks (slice_index_or (e ∷ es) i e).0 n) in
            number_here (e ∷ es) i e l ∙ ap (λ m. Some m) at

    searched_none : (o : Result ℕ ℕ) → IsBinarySearchResult (λ (e : ℕ × X). nat_cmp e.0 n) es o → IfNone (result_ok o) (get nat_eq es n ≡ None)
    searched_none (Ok i) h = tt
    searched_none (Err i) h = get-absent n es apart
      where
        apart : (k : ℕ) (d : ℕ × X) → k < length es → (slice_index_or es k d).0 ≢ n
        apart k d l e =
            let parted = h (λ a b d le lt. higher n (slice_index_or es a d).0 (slice_index_or es b d).0 (rising 0 next a b es d r le lt)) in
            let at = slice_index_or es k d in
            ⊎_elim
            (λ b. let c = subst (λ o. MatchOrdering o (at.0 < n) (at.0 ≡ n) (n < at.0)) (parted.0 k d (omega arith) b) (ranks at.0 n) in omega arith)
            (λ a. let c = subst (λ o. MatchOrdering o (at.0 < n) (at.0 ≡ n) (n < at.0)) (parted.1 k d a l) (ranks at.0 n) in omega arith)
            (order k i)

    pub searched : (o : Result ℕ ℕ) → IsSearchInRange o (length es) → IsBinarySearchResult (λ (e : ℕ × X). nat_cmp e.0 n) es o → IfSome (result_ok o) (λ k. number_at es k ≡ Some n) × IfNone (result_ok o) (get nat_eq es n ≡ None)
    searched o b h = (searched_here o b h, searched_none o h)
