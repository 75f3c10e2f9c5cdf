-- Entries in rising order: the map of their values, and what an edit of them leaves of it.
use Rattle.std.proofs.Common.{◌≡◌, ◌≢◌, ℕ, zero, suc, ◌+◌, ◌<◌, ◌≤◌, true, false, cond, [], ◌∷◌, ◌++◌, Option, Some, None, refl, sym, ◌∙◌, ap, subst, inl, inr, nat_eq, length, slice_set, slice_index_or, arith}
use Rattle.std.specs.Prelude.{option_map, is_some}
use Rattle.std.specs.Option.{option_flatten}
use Rattle.std.specs.List.{cons_option, filter}
use Rattle.std.proofs.lemmas.Bool.Decides.{eqb_tells}
use Rattle.std.proofs.lemmas.List.Elements.{filter_map-append}
use Rattle.std.proofs.lemmas.List.Sums.{sum_by-cons, sum_by_push, sum_by-set}
use Rattle.pl_model.specs.Map.{Map, get, put, without}
use Rattle.pl_numbered.specs.Rising.{Rise, number_at}
use Rattle.pl_numbered.specs.Entries.{values_in, is_empty, empties}
use Rattle.pl_numbered.proofs.Rising.{Rise-lower, get_first, get_later, get-low, get-at, put_first, put_later, without_first, without_later, without-absent, at_high}

module _ {X : Type 0} where
  -- the values of one entry and of those after it
  abbrev joined : ℕ → Option X → Map ℕ X → Map ℕ X
  joined n o es = cons_option (option_map (λ x. (n, x)) o) es

  joined-rise : (low next n : ℕ) (o : Option X) (es : Map ℕ X) → low ≤ n → Rise (n + 1) next es → Rise low next (joined n o es)
  joined-rise low next n None es l r = Rise-lower low (n + 1) next es (omega (arith, l)) r
  joined-rise low next n (Some x) es l r = (l, r)

  module _ (next n : ℕ) (es : Map ℕ X) (r : Rise (n + 1) next es) where
    pub joined-get : (o : Option X) → get nat_eq (joined n o es) n ≡ o
    joined-get None = get-low n (n + 1) next es r (omega arith)
    joined-get (Some x) = get_first n (n, x) es refl

    joined-without : (o : Option X) → without nat_eq (joined n o es) n ≡ es
    joined-without None = without-absent n es (get-low n (n + 1) next es r (omega arith))
    joined-without (Some x) = without_first n (n, x) es refl ∙ without-absent n es (get-low n (n + 1) next es r (omega arith))

    joined-put : (o : Option X) (x y : X) → o ≡ Some x → put nat_eq (joined n o es) n y ≡ (n, y) ∷ es
    joined-put None x y h = absurd (cc)
    joined-put (Some z) x y h = put_first n (n, z) es y refl

  module _ (n m : ℕ) (es : Map ℕ X) (other : n ≢ m) where
    pub other-get : (o : Option X) → get nat_eq (joined n o es) m ≡ get nat_eq es m
    other-get None = refl
    other-get (Some x) = get_later m (n, x) es other

    other-without : (o : Option X) → without nat_eq (joined n o es) m ≡ joined n o (without nat_eq es m)
    other-without None = refl
    other-without (Some x) = without_later m (n, x) es other

    other-put : (o : Option X) (y : X) → put nat_eq (joined n o es) m y ≡ joined n o (put nat_eq es m y)
    other-put None y = refl
    other-put (Some x) y = put_later m (n, x) es y other

  -- the values rise as their entries do
  pub values-rise : (low next : ℕ) (es : Map ℕ (Option X)) → Rise low next es → Rise low next (values_in es)
  values-rise low next [] r = r
  values-rise low next (e ∷ es) r = joined-rise low next e.0 e.1 (values_in es) r.0 (values-rise (e.0 + 1) next es r.1)

  -- the value of a number is what its entry has
  pub get-value : (n low next : ℕ) (es : Map ℕ (Option X)) → Rise low next es → get nat_eq (values_in es) n ≡ option_flatten (get nat_eq es n)
  get-value n low next [] r = refl
  get-value n low next (e ∷ es) r = elim (eqb_tells e.0 n) as (λ _. get nat_eq (values_in (e ∷ es)) n ≡ option_flatten (get nat_eq (e ∷ es) n)) [
    | inl t ↦ subst (λ m. get nat_eq (values_in (e ∷ es)) m ≡ e.1) t.1 (joined-get next e.0 (values_in es) (values-rise (e.0 + 1) next es r.1) e.1) ∙ sym (ap option_flatten (get_first n e es t.1))
    | inr t ↦ other-get e.0 n (values_in es) t.1 e.1 ∙ get-value n (e.0 + 1) next es r.1 ∙ sym (ap option_flatten (get_later n e es t.1))
  ]

  -- a number without an entry has no value
  pub no-entry : (n next : ℕ) (es : Map ℕ (Option X)) → Rise 0 next es → get nat_eq es n ≡ None → get nat_eq (values_in es) n ≡ None
  no-entry n next es r none = get-value n 0 next es r ∙ ap option_flatten none

  module _ (n : ℕ) where
    -- the entry at the place of a number
    pub value-at : (low next k : ℕ) (es : Map ℕ (Option X)) (d : ℕ × Option X) → Rise low next es → number_at es k ≡ Some n → get nat_eq (values_in es) n ≡ (slice_index_or es k d).1
    value-at low next k es d r at = get-value n low next es r ∙ ap option_flatten (get-at n low next k es d r at)

    -- an entry that becomes empty takes its value out
    pub emptied-values : (low next k : ℕ) (es : Map ℕ (Option X)) → Rise low next es → number_at es k ≡ Some n → values_in (slice_set es k (n, None)) ≡ without nat_eq (values_in es) n
    emptied-values low next k [] r at = absurd (cc)
    emptied-values low next zero (e ∷ es) r at =
        let is : e.0 ≡ n = cc in
        subst (λ m. values_in es ≡ without nat_eq (values_in (e ∷ es)) m) is (sym (joined-without next e.0 (values_in es) (values-rise (e.0 + 1) next es r.1) e.1))
    emptied-values low next (suc k) (e ∷ es) r at =
        ap (joined e.0 e.1) (emptied-values (e.0 + 1) next k es r.1 at)
        ∙ sym (other-without e.0 n (values_in es) (let a = at_high n (e.0 + 1) next k es r.1 at in omega arith) e.1)

    -- an entry that gets another value changes the value
    pub changed-values : (low next k : ℕ) (es : Map ℕ (Option X)) (x y : X) → Rise low next es → number_at es k ≡ Some n → get nat_eq (values_in es) n ≡ Some x → values_in (slice_set es k (n, Some y)) ≡ put nat_eq (values_in es) n y
    changed-values low next k [] x y r at has = absurd (cc)
    changed-values low next zero (e ∷ es) x y r at has =
        let is : e.0 ≡ n = cc in
        let here : e.1 ≡ Some x = sym (value-at low next zero (e ∷ es) e r at) ∙ has in
        subst (λ m. (m, y) ∷ values_in es ≡ put nat_eq (values_in (e ∷ es)) m y) is (sym (joined-put next e.0 (values_in es) (values-rise (e.0 + 1) next es r.1) e.1 x y here))
    changed-values low next (suc k) (e ∷ es) x y r at has =
        let other : e.0 ≢ n = let a = at_high n (e.0 + 1) next k es r.1 at in omega arith in
        ap (joined e.0 e.1) (changed-values (e.0 + 1) next k es x y r.1 at (sym (other-get e.0 n (values_in es) other e.1) ∙ has))
        ∙ sym (other-put e.0 n (values_in es) other e.1 y)

  -- each entry has a value, or is empty
  pub length-values : (es : Map ℕ (Option X)) → length (values_in es) + empties es ≡ length es
  length-values [] = refl
  length-values (e ∷ es) =
      let rest = length-values es in
      elim e.1 as (λ o. length (joined e.0 o (values_in es)) + empties ((e.0, o) ∷ es) ≡ length (e ∷ es)) [
        | None ↦ (let one = sum_by-cons (λ (z : ℕ × Option X). cond (is_empty z) 1 0) (e.0, None) es in omega (arith, one, rest))
        | Some x ↦ (let one = sum_by-cons (λ (z : ℕ × Option X). cond (is_empty z) 1 0) (e.0, Some x) es in omega (arith, one, rest))
      ]

  -- how many entries are empty, once one is replaced
  pub empties-set : (k : ℕ) (es : Map ℕ (Option X)) (e d : ℕ × Option X) → k < length es → empties (slice_set es k e) + cond (is_empty (slice_index_or es k d)) 1 0 ≡ empties es + cond (is_empty e) 1 0
  empties-set k es e d l = sum_by-set (λ z. cond (is_empty z) 1 0) es k e d l

  -- an entry more
  pub empties-push : (es : Map ℕ (Option X)) (e : ℕ × Option X) → empties (es ++ e ∷ []) ≡ empties es + cond (is_empty e) 1 0
  empties-push es e = sum_by_push (λ z. cond (is_empty z) 1 0) es e

  pub values-push : (es : Map ℕ (Option X)) (n : ℕ) (x : X) → values_in (es ++ (n, Some x) ∷ []) ≡ values_in es ++ (n, x) ∷ []
  values-push es n x = filter_map-append (λ e. option_map (λ x. (e.0, x)) e.1) es ((n, Some x) ∷ [])

  -- the entries that have a value
  abbrev pub full : Map ℕ (Option X) → Map ℕ (Option X)
  full es = filter (λ e. is_some e.1) es

  pub full-values : (es : Map ℕ (Option X)) → values_in (full es) ≡ values_in es
  full-values [] = refl
  full-values (e ∷ es) = elim e.1 as (λ o. values_in (cond (is_some o) ((e.0, o) ∷ full es) (full es)) ≡ joined e.0 o (values_in es)) [
    | None ↦ full-values es
    | Some x ↦ ap (λ ys. (e.0, x) ∷ ys) (full-values es)
  ]

  pub full-rise : (low next : ℕ) (es : Map ℕ (Option X)) → Rise low next es → Rise low next (full es)
  full-rise low next [] r = r
  full-rise low next (e ∷ es) r = elim (is_some e.1) as (λ b. Rise low next (cond b (e ∷ full es) (full es))) [
    | true ↦ (r.0, full-rise (e.0 + 1) next es r.1)
    | false ↦ Rise-lower low (e.0 + 1) next (full es) (let a = r.0 in omega arith) (full-rise (e.0 + 1) next es r.1)
  ]

  pub full-empties : (es : Map ℕ (Option X)) → empties (full es) ≡ 0
  full-empties [] = refl
  full-empties (e ∷ es) = elim e.1 as (λ o. empties (cond (is_some o) ((e.0, o) ∷ full es) (full es)) ≡ 0) [
    | None ↦ full-empties es
    | Some x ↦ sum_by-cons (λ z. cond (is_empty z) 1 0) (e.0, Some x) (full es) ∙ ap (λ n. 0 + n) (full-empties es)
  ]
