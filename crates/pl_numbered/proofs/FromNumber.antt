-- The entries from a number on, and the values that they have.
use Rattle.std.proofs.Common.{◌≡◌, ℕ, zero, suc, ◌+◌, ◌-◌, ◌<◌, ◌≤◌, true, false, [], ◌∷◌, Option, Some, None, List, IsSome, refl, sym, ◌∙◌, ap, subst, inl, inr, ⊎_elim, nat_eq, length, slice_index_or, arith}
use Rattle.std.specs.Prelude.{is_some}
use Rattle.std.specs.Ordering.{nat_cmp, MatchOrdering}
use Rattle.std.specs.Cmp.{ranks}
use Rattle.std.specs.List.Sorted.{IsBinarySearchResult}
use Rattle.std.specs.declared.result.Result.TheVariants.{Ok, Err}
use Rattle.std.proofs.lemmas.Bool.Decides.{eqb_tells}
use Rattle.pl_model.specs.Map.{Map, get}
use Rattle.pl_numbered.specs.Rising.{Rise}
use Rattle.pl_numbered.specs.Entries.{values_in, AllBelow, NoneBelow}
use Rattle.pl_numbered.proofs.EntryLemmas.{joined-get, other-get, values-rise, value-at}
use Rattle.pl_numbered.proofs.Rising.{number_here}
use Rattle.pl_numbered.proofs.Searched.{all_high, rising, higher, order}

module _ {X : Type 0} where
  -- an entry has a lower number than those after it
  rises : (low next i j : ℕ) (es : Map ℕ X) (d : ℕ × X) → Rise low next es → i < j → j < length es → (slice_index_or es i d).0 < (slice_index_or es j d).0
  rises low next i j [] d r before l = absurd (omega arith)
  rises low next i zero (e ∷ es) d r before l = absurd (omega arith)
  rises low next zero (suc j) (e ∷ es) d r before l = let up = all_high (e.0 + 1) next j es d r.1 (omega arith) in omega (arith, up)
  rises low next (suc i) (suc j) (e ∷ es) d r before l = rises (e.0 + 1) next i j es d r.1 (omega arith) (omega arith)

  module _ (n next : ℕ) (es : Map ℕ X) (r : Rise 0 next es) (i : ℕ) where
    at_number : IsBinarySearchResult (λ (e : ℕ × X). nat_cmp e.0 n) es (Ok i) → (d : ℕ × X) → (slice_index_or es i d).0 ≡ n
    at_number h d = subst (λ o. MatchOrdering o ((slice_index_or es i d).0 < n) ((slice_index_or es i d).0 ≡ n) (n < (slice_index_or es i d).0)) (h d) (ranks (slice_index_or es i d).0 n)

    -- where an entry of the number is found, those before it are below the number
    pub found_below : i < length es → IsBinarySearchResult (λ (e : ℕ × X). nat_cmp e.0 n) es (Ok i) → AllBelow n i es
    found_below l h = λ j d before. let here = at_number h d in let up = rises 0 next j i es d r before l in omega (arith, here, up)

    pub found_above : IsBinarySearchResult (λ (e : ℕ × X). nat_cmp e.0 n) es (Ok i) → NoneBelow n i es
    found_above h = λ j d from l. let here = at_number h d in let up = rising 0 next i j es d r from l in omega (arith, here, up)

    -- where none is found, the place where it would stand is between them
    module _ (within : i ≤ length es) (h : IsBinarySearchResult (λ (e : ℕ × X). nat_cmp e.0 n) es (Err i)) where
      pub missed_below : AllBelow n i es
      missed_below = λ j d before.
          let parted = h (λ a b d le lt. higher n (slice_index_or es a d).0 (slice_index_or es b d).0 (rising 0 next a b es d r le lt)) in
          subst (λ o. MatchOrdering o ((slice_index_or es j d).0 < n) ((slice_index_or es j d).0 ≡ n) (n < (slice_index_or es j d).0)) (parted.0 j d (omega (arith, within, before)) before) (ranks (slice_index_or es j d).0 n)

      pub missed_above : NoneBelow n i es
      missed_above = λ j d from l.
          let parted = h (λ a b d le lt. higher n (slice_index_or es a d).0 (slice_index_or es b d).0 (rising 0 next a b es d r le lt)) in
          let up = subst (λ o. MatchOrdering o ((slice_index_or es j d).0 < n) ((slice_index_or es j d).0 ≡ n) (n < (slice_index_or es j d).0)) (parted.1 j d from l) (ranks (slice_index_or es j d).0 n) in
          omega (arith, up)

  -- a value stands in an entry
  pub entry_of : (low next n : ℕ) (es : Map ℕ (Option X)) (x : X) → Rise low next es → get nat_eq (values_in es) n ≡ Some x → (k : ℕ) × (k < length es) × ((d : ℕ × Option X) → slice_index_or es k d ≡ (n, Some x))
  entry_of low next n [] x r h = absurd (cc)
  entry_of low next n (e ∷ es) x r h = elim (eqb_tells e.0 n) as (λ _. (k : ℕ) × (k < length (e ∷ es)) × ((d : ℕ × Option X) → slice_index_or (e ∷ es) k d ≡ (n, Some x))) [
    | inl t ↦
        let own : e.1 ≡ Some x = sym (joined-get next e.0 (values_in es) (values-rise (e.0 + 1) next es r.1) e.1) ∙ subst (λ m. get nat_eq (values_in (e ∷ es)) m ≡ Some x) (sym t.1) h in
        (0, omega arith, λ d. λ i. (t.1 i, own i))
    | inr t ↦
        let rest = entry_of (e.0 + 1) next n es x r.1 (sym (other-get e.0 n (values_in es) t.1 e.1) ∙ h) in
        let l = rest.1 in
        (suc rest.0, omega (arith, l), rest.2)
  ]

-- at a place of the list the other value doesn't matter
any_default : {Y : Type 0} (ys : List Y) (p : ℕ) → p < length ys → (a b : Y) → slice_index_or ys p a ≡ slice_index_or ys p b
any_default [] p l a b = absurd (omega arith)
any_default (y ∷ ys) zero l a b = refl
any_default (y ∷ ys) (suc p) l a b = any_default ys p (omega arith) a b

-- where the last number is below n, all are
pub all_below : {X : Type 0} (n next : ℕ) (es : Map ℕ X) (e : ℕ × X) → Rise 0 next es → (length es ≡ 0 → ⊥) → (slice_index_or es (length es - 1) e).0 < n → AllBelow n (length es) es
all_below n next es e r some low = λ j d before.
    let up = rising 0 next j (length es - 1) es d r (within j before) last in
    let same : (slice_index_or es (length es - 1) d).0 ≡ (slice_index_or es (length es - 1) e).0 = ap (λ (z : ℕ × _). z.0) (any_default es (length es - 1) last d e) in
    lower (slice_index_or es j d).0 (slice_index_or es (length es - 1) d).0 (slice_index_or es (length es - 1) e).0 up same low
  where
    positive : (m : ℕ) → (m ≡ 0 → ⊥) → m - 1 < m
    positive zero f = absurd (f refl)
    positive (suc m) f = omega arith

    last : length es - 1 < length es
    last = positive (length es) some

    within : (j : ℕ) → j < length es → j ≤ length es - 1
    within j l = omega (arith, l)

    lower : (a b c : ℕ) → a ≤ b → b ≡ c → c < n → a < n
    lower a b c le same l = omega (arith, le, same, l)

-- one entry more is empty
pub empty_too : {X : Type 0} (es : Map ℕ (Option X)) (start place : ℕ) (e : ℕ × Option X) → e ≡ slice_index_or es place e → is_some e.1 ≡ false →
    place < length es → ((k : ℕ) (d : ℕ × Option X) → start ≤ k → k < place → (slice_index_or es k d).1 ≡ None) → (k : ℕ) (d : ℕ × Option X) → start ≤ k → k < place + 1 → (slice_index_or es k d).1 ≡ None
empty_too es start place e is empty within passed k d on early = ⊎_elim
    (λ l. passed k d on l)
    (λ l.
    let same : k ≡ place = omega (arith, l, early) in
    ap (λ m. (slice_index_or es m d).1) same ∙ ap (λ (z : ℕ × Option _). z.1) (any_default es place within d e ∙ sym is) ∙ none e.1 empty)
    (order k place)
  where
    none : {Y : Type 0} (o : Option Y) → is_some o ≡ false → o ≡ None
    none None h = refl
    none (Some y) h = absurd (cc)

-- The entries from `start` on have no number below `from`, and those of them before `place` are empty.
module _ {X : Type 0} (from next start place : ℕ) (es : Map ℕ (Option X)) (r : Rise 0 next es) (below : AllBelow from start es) (above : NoneBelow from start es)
    (passed : (k : ℕ) (d : ℕ × Option X) → start ≤ k → k < place → (slice_index_or es k d).1 ≡ None) where
  -- a value from the number on stands at the place or after it
  module _ (n : ℕ) (up : from ≤ n) (x : X) (h : get nat_eq (values_in es) n ≡ Some x) where
    abbrev k : ℕ
    k = (entry_of 0 next n es x r h).0

    its : (d : ℕ × Option X) → slice_index_or es k d ≡ (n, Some x)
    its = (entry_of 0 next n es x r h).2

    within_all : k < length es
    within_all = (entry_of 0 next n es x r h).1

    late : place ≤ k
    late = ⊎_elim
        (λ early. let low = below k (n, Some x) early in let named : (slice_index_or es k (n, Some x)).0 ≡ n = (λ i. (its (n, Some x) i).0) in absurd (omega (arith, low, named, up)))
        (λ on. ⊎_elim (λ early. let none : None ≡ Some x = sym (passed k (n, Some x) on early) ∙ (λ i. (its (n, Some x) i).1) in absurd (cc)) (λ l. l) (order k place))
        (order k start)

  -- so where no entry is left there is none
  pub none_from : length es ≤ place → (n : ℕ) → from ≤ n → get nat_eq (values_in es) n ≡ None
  none_from all n up = by (get nat_eq (values_in es) n) refl
    where
      by : (o : Option X) → get nat_eq (values_in es) n ≡ o → o ≡ None
      by None h = refl
      by (Some x) h = let l = within_all n up x h in let b = late n up x h in absurd (omega (arith, all, l, b))

  -- and the value at the place is the first
  module _ (e : ℕ × Option X) (is : e ≡ slice_index_or es place e) (on : start ≤ place) (within : place < length es) (full : is_some e.1 ≡ true) where
    here : get nat_eq (values_in es) e.0 ≡ e.1
    here = value-at e.0 0 next place es e r (number_here es place e within ∙ (λ i. Some (sym is i).0)) ∙ (λ i. (sym is i).1)

    pub first_here : (from ≤ e.0) × IsSome (get nat_eq (values_in es) e.0)
    first_here = (let up = above place e on within in let named : e.0 ≡ (slice_index_or es place e).0 = (λ i. (is i).0) in omega (arith, up, named), subst IsSome (sym here) full)

    pub first_least : (n : ℕ) → from ≤ n → IsSome (get nat_eq (values_in es) n) → e.0 ≤ n
    first_least n up h = by (get nat_eq (values_in es) n) refl h
      where
        by : (o : Option X) → get nat_eq (values_in es) n ≡ o → IsSome o → e.0 ≤ n
        by None h t = absurd (cc)
        by (Some x) h t =
            let later = rising 0 next place (k n up x h) es e r (late n up x h) (within_all n up x h) in
            let mine : e.0 ≡ (slice_index_or es place e).0 = (λ i. (is i).0) in
            let other : (slice_index_or es (k n up x h) e).0 ≡ n = (λ i. (its n up x h e i).0) in
            omega (arith, later, mine, other)
