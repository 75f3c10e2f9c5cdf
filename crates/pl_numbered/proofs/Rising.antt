-- Maps whose numbers rise: what they have at a number, and what an edit leaves.
use Rattle.std.proofs.Common.{◌≡◌, ◌≢◌, ℕ, zero, suc, ◌+◌, ◌<◌, ◌≤◌, not, [], ◌∷◌, ◌++◌, Some, None, IsSome, refl, sym, ◌∙◌, ap, subst, inl, inr, nat_eq, cond, length, slice_set, slice_index_or, arith, IfSome, Option}
use Rattle.std.proofs.lemmas.Bool.Decides.{eqb_tells}
use Rattle.pl_model.specs.Map.{Map, get, put, without}
use Rattle.pl_numbered.specs.Rising.{Rise, number_at}
use Rattle.pl_numbered.specs.Entries.{AllBelow}
use Rattle.pl_numbered.specs.Numbered.{AllUnder}

-- what holds of the value that there is
pub IfSome_by : {X : Type 0} (o : Option X) (P : X → Type 0) → ((x : X) → o ≡ Some x → P x) → IfSome o P
IfSome_by None P h = tt
IfSome_by (Some x) P h = h x refl

module _ {X : Type 0} where
  pub Rise-bounds : (low next : ℕ) (es : Map ℕ X) → Rise low next es → low ≤ next
  Rise-bounds low next [] r = r
  Rise-bounds low next (e ∷ es) r = let b = Rise-bounds (e.0 + 1) next es r.1 in omega (arith, r.0)

  pub Rise-lower : (a b next : ℕ) (es : Map ℕ X) → a ≤ b → Rise b next es → Rise a next es
  Rise-lower a b next [] l r = omega arith
  Rise-lower a b next (e ∷ es) l r = (omega (arith, r.0), r.1)

  pub Rise-push : (low next : ℕ) (es : Map ℕ X) (x : X) → Rise low next es → Rise low (next + 1) (es ++ (next, x) ∷ [])
  Rise-push low next [] x r = (r, omega arith)
  Rise-push low next (e ∷ es) x r = (r.0, Rise-push (e.0 + 1) next es x r.1)

  pub Rise-pop : (low next : ℕ) (es : Map ℕ X) (e : ℕ × X) → Rise low next (es ++ e ∷ []) → Rise low e.0 es
  Rise-pop low next [] e r = r.0
  Rise-pop low next (y ∷ es) e r = (r.0, Rise-pop (y.0 + 1) next es e r.1)

  pub Rise-top : (low next : ℕ) (es : Map ℕ X) (e : ℕ × X) → Rise low next (es ++ e ∷ []) → e.0 < next
  Rise-top low next [] e r = let a = r.1 in omega arith
  Rise-top low next (y ∷ es) e r = Rise-top (y.0 + 1) next es e r.1

  pub Rise-raise : (low a b : ℕ) (es : Map ℕ X) → a ≤ b → Rise low a es → Rise low b es
  Rise-raise low a b [] l r = omega (arith, l, r)
  Rise-raise low a b (e ∷ es) l r = (r.0, Rise-raise (e.0 + 1) a b es l r.1)

  pub number_here : (es : Map ℕ X) (k : ℕ) (d : ℕ × X) → k < length es → number_at es k ≡ Some (slice_index_or es k d).0
  number_here [] k d l = absurd (omega arith)
  number_here (e ∷ es) zero d l = refl
  number_here (e ∷ es) (suc k) d l = number_here es k d (omega arith)

  module _ (n : ℕ) where
    pub get_first : (e : ℕ × X) (es : Map ℕ X) → e.0 ≡ n → get nat_eq (e ∷ es) n ≡ Some e.1
    get_first e es h = elim (eqb_tells e.0 n) as (λ _. get nat_eq (e ∷ es) n ≡ Some e.1) [
      | inl t ↦ ap (λ b. cond b (Some e.1) (get nat_eq es n)) t.0
      | inr t ↦ absurd (t.1 h)
    ]

    pub get_later : (e : ℕ × X) (es : Map ℕ X) → e.0 ≢ n → get nat_eq (e ∷ es) n ≡ get nat_eq es n
    get_later e es h = elim (eqb_tells e.0 n) as (λ _. get nat_eq (e ∷ es) n ≡ get nat_eq es n) [
      | inl t ↦ absurd (h t.1)
      | inr t ↦ ap (λ b. cond b (Some e.1) (get nat_eq es n)) t.0
    ]

    pub put_first : (e : ℕ × X) (es : Map ℕ X) (x : X) → e.0 ≡ n → put nat_eq (e ∷ es) n x ≡ (n, x) ∷ es
    put_first e es x h = elim (eqb_tells e.0 n) as (λ _. put nat_eq (e ∷ es) n x ≡ (n, x) ∷ es) [
      | inl t ↦ ap (λ b. cond b ((n, x) ∷ es) (e ∷ put nat_eq es n x)) t.0
      | inr t ↦ absurd (t.1 h)
    ]

    pub put_later : (e : ℕ × X) (es : Map ℕ X) (x : X) → e.0 ≢ n → put nat_eq (e ∷ es) n x ≡ e ∷ put nat_eq es n x
    put_later e es x h = elim (eqb_tells e.0 n) as (λ _. put nat_eq (e ∷ es) n x ≡ e ∷ put nat_eq es n x) [
      | inl t ↦ absurd (h t.1)
      | inr t ↦ ap (λ b. cond b ((n, x) ∷ es) (e ∷ put nat_eq es n x)) t.0
    ]

    pub without_first : (e : ℕ × X) (es : Map ℕ X) → e.0 ≡ n → without nat_eq (e ∷ es) n ≡ without nat_eq es n
    without_first e es h = elim (eqb_tells n e.0) as (λ _. without nat_eq (e ∷ es) n ≡ without nat_eq es n) [
      | inl t ↦ ap (λ b. cond (not b) (e ∷ without nat_eq es n) (without nat_eq es n)) t.0
      | inr t ↦ absurd (t.1 (sym h))
    ]

    pub without_later : (e : ℕ × X) (es : Map ℕ X) → e.0 ≢ n → without nat_eq (e ∷ es) n ≡ e ∷ without nat_eq es n
    without_later e es h = elim (eqb_tells n e.0) as (λ _. without nat_eq (e ∷ es) n ≡ e ∷ without nat_eq es n) [
      | inl t ↦ absurd (h (sym t.1))
      | inr t ↦ ap (λ b. cond (not b) (e ∷ without nat_eq es n) (without nat_eq es n)) t.0
    ]

    -- a number that no entry has
    pub get-absent : (es : Map ℕ X) → ((k : ℕ) (d : ℕ × X) → k < length es → (slice_index_or es k d).0 ≢ n) → get nat_eq es n ≡ None
    get-absent [] h = refl
    get-absent (e ∷ es) h = get_later e es (h 0 e (omega arith)) ∙ get-absent es (λ k d l. h (suc k) d (omega arith))

    -- a number that the map doesn't have
    pub without-absent : (es : Map ℕ X) → get nat_eq es n ≡ None → without nat_eq es n ≡ es
    without-absent [] h = refl
    without-absent (e ∷ es) h = elim (eqb_tells e.0 n) as (λ _. without nat_eq (e ∷ es) n ≡ e ∷ es) [
      | inl t ↦ let is : get nat_eq (e ∷ es) n ≡ Some e.1 = get_first e es t.1 in absurd (cc)
      | inr t ↦ without_later e es t.1 ∙ ap (λ ys. e ∷ ys) (without-absent es (sym (get_later e es t.1) ∙ h))
    ]

    pub get-low : (low next : ℕ) (es : Map ℕ X) → Rise low next es → n < low → get nat_eq es n ≡ None
    get-low low next [] r l = refl
    get-low low next (e ∷ es) r l = get_later e es (let a = r.0 in omega arith) ∙ get-low (e.0 + 1) next es r.1 (let a = r.0 in omega arith)

    -- an entry's number is none of those below the first
    pub at_high : (low next k : ℕ) (es : Map ℕ X) → Rise low next es → number_at es k ≡ Some n → low ≤ n
    at_high low next k [] r h = absurd (cc)
    at_high low next zero (e ∷ es) r h = let is : e.0 ≡ n = cc in let a = r.0 in omega arith
    at_high low next (suc k) (e ∷ es) r h = let a = r.0 in let b = at_high (e.0 + 1) next k es r.1 h in omega arith

    pub at-within : (k : ℕ) (es : Map ℕ X) → number_at es k ≡ Some n → k < length es
    at-within k [] h = absurd (cc)
    at-within zero (e ∷ es) h = omega arith
    at-within (suc k) (e ∷ es) h = let a = at-within k es h in omega arith

    pub get-at : (low next k : ℕ) (es : Map ℕ X) (d : ℕ × X) → Rise low next es → number_at es k ≡ Some n → get nat_eq es n ≡ Some (slice_index_or es k d).1
    get-at low next k [] d r h = absurd (cc)
    get-at low next zero (e ∷ es) d r h = get_first e es (let is : e.0 ≡ n = cc in is)
    get-at low next (suc k) (e ∷ es) d r h =
        get_later e es (let a = at_high (e.0 + 1) next k es r.1 h in omega arith) ∙ get-at (e.0 + 1) next k es d r.1 h

    pub Rise-set : (low next k : ℕ) (es : Map ℕ X) (x : X) → Rise low next es → number_at es k ≡ Some n → Rise low next (slice_set es k (n, x))
    Rise-set low next k [] x r h = absurd (cc)
    Rise-set low next zero (e ∷ es) x r h = let is : e.0 ≡ n = cc in subst (λ m. (low ≤ m) × Rise (m + 1) next es) is r
    Rise-set low next (suc k) (e ∷ es) x r h = (r.0, Rise-set (e.0 + 1) next k es x r.1 h)

    pub Rise-without : (low next : ℕ) (es : Map ℕ X) → Rise low next es → Rise low next (without nat_eq es n)
    Rise-without low next [] r = r
    Rise-without low next (e ∷ es) r =
        let rest = Rise-without (e.0 + 1) next es r.1 in
        elim (eqb_tells e.0 n) as (λ _. Rise low next (without nat_eq (e ∷ es) n)) [
          | inl t ↦ subst (λ z. Rise low next z) (sym (without_first e es t.1)) (Rise-lower low (e.0 + 1) next (without nat_eq es n) (let a = r.0 in omega arith) rest)
          | inr t ↦ subst (λ z. Rise low next z) (sym (without_later e es t.1)) (r.0, rest)
        ]

    pub Rise-put : (low next : ℕ) (es : Map ℕ X) (x y : X) → Rise low next es → get nat_eq es n ≡ Some x → Rise low next (put nat_eq es n y)
    Rise-put low next [] x y r h = absurd (cc)
    Rise-put low next (e ∷ es) x y r h = elim (eqb_tells e.0 n) as (λ _. Rise low next (put nat_eq (e ∷ es) n y)) [
      | inl t ↦ subst (λ z. Rise low next z) (sym (put_first e es y t.1)) (subst (λ m. (low ≤ m) × Rise (m + 1) next es) t.1 r)
      | inr t ↦ subst (λ z. Rise low next z) (sym (put_later e es y t.1)) (r.0, Rise-put (e.0 + 1) next es x y r.1 (sym (get_later e es t.1) ∙ h))
    ]

    -- what stands under the last number is the last
    pub without-last : (low : ℕ) (es : Map ℕ X) (x : X) → Rise low (n + 1) es → get nat_eq es n ≡ Some x → (es ≡ without nat_eq es n ++ (n, x) ∷ []) × Rise low n (without nat_eq es n)
    without-last low [] x r h = absurd (cc)
    without-last low (e ∷ es) x r h = elim (eqb_tells e.0 n) as (λ _. (e ∷ es ≡ without nat_eq (e ∷ es) n ++ (n, x) ∷ []) × Rise low n (without nat_eq (e ∷ es) n)) [
      | inl t ↦ alone es r.1 t.1 (sym (get_first e es t.1) ∙ h)
      | inr t ↦
          let rest = without-last (e.0 + 1) es x r.1 (sym (get_later e es t.1) ∙ h) in
          subst (λ z. (e ∷ es ≡ z ++ (n, x) ∷ []) × Rise low n z) (sym (without_later e es t.1)) (ap (λ ys. e ∷ ys) rest.0, (r.0, rest.1))
    ]
      where
        alone : (es : Map ℕ X) → Rise (e.0 + 1) (n + 1) es → e.0 ≡ n → Some e.1 ≡ Some x → (e ∷ es ≡ without nat_eq (e ∷ es) n ++ (n, x) ∷ []) × Rise low n (without nat_eq (e ∷ es) n)
        alone [] b is has = let same : e.1 ≡ x = cc in subst (λ z. (e ∷ [] ≡ z ++ (n, x) ∷ []) × Rise low n z) (sym (without_first e [] is)) ((λ i. (is i, same i) ∷ []), let a = r.0 in omega arith)
        alone (y ∷ ys) b is has = let c = Rise-bounds (y.0 + 1) (n + 1) ys b.1 in let d = b.0 in absurd (omega arith)

  -- a number that the map has is none of those below the first
  pub get_high : (low next : ℕ) (es : Map ℕ X) (m : ℕ) (x : X) → Rise low next es → get nat_eq es m ≡ Some x → low ≤ m
  get_high low next [] m x r g = absurd (cc)
  get_high low next (y ∷ es) m x r g = elim (eqb_tells y.0 m) as (λ _. low ≤ m) [
    | inl s ↦ let a : y.0 ≡ m = s.1 in let b = r.0 in omega arith
    | inr s ↦ let a = get_high (y.0 + 1) next es m x r.1 (sym (get_later m y es s.1) ∙ g) in let b = r.0 in omega arith
  ]

  -- a number that the map has is below the next one
  pub get_under : (low next : ℕ) (es : Map ℕ X) (m : ℕ) (x : X) → Rise low next es → get nat_eq es m ≡ Some x → m < next
  get_under low next [] m x r g = absurd (cc)
  get_under low next (y ∷ es) m x r g = elim (eqb_tells y.0 m) as (λ _. m < next) [
    | inl s ↦ let a : y.0 ≡ m = s.1 in let b = Rise-bounds (y.0 + 1) next es r.1 in omega arith
    | inr s ↦ get_under (y.0 + 1) next es m x r.1 (sym (get_later m y es s.1) ∙ g)
  ]

  pub all_under : (next : ℕ) (es : Map ℕ X) → Rise 0 next es → AllUnder next es
  all_under next es r m h = by (get nat_eq es m) refl h
    where
      by : (o : Option X) → get nat_eq es m ≡ o → IsSome o → m < next
      by None is h = absurd (cc)
      by (Some x) is h = get_under 0 next es m x r is

  -- where all numbers are below another one, they rise and are below that
  pub Rise-within : (low next n : ℕ) (es : Map ℕ X) → low ≤ n → Rise low next es → AllBelow n (length es) es → Rise low n es
  Rise-within low next n [] l r b = l
  Rise-within low next n (e ∷ es) l r b = (r.0, Rise-within (e.0 + 1) next n es (let first = b 0 e (omega arith) in omega (arith, first)) r.1 (λ j d within. b (suc j) d (omega (arith, within))))

  -- the last entry stands under its number
  pub get-last : (low next : ℕ) (es : Map ℕ X) (e : ℕ × X) → Rise low next (es ++ e ∷ []) → get nat_eq (es ++ e ∷ []) e.0 ≡ Some e.1
  get-last low next [] e r = get_first e.0 e [] refl
  get-last low next (y ∷ es) e r =
      let after = Rise-bounds (y.0 + 1) e.0 es (Rise-pop (y.0 + 1) next es e r.1) in
      get_later e.0 y (es ++ e ∷ []) (omega (arith, after)) ∙ get-last (y.0 + 1) next es e r.1
