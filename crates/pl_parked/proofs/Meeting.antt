-- Calls that are met one by one.
use Rattle.std.proofs.Common.{◌≡◌, ℕ, ◌+◌, Bool, true, false, not, cond, [], ◌∷◌, Option, Some, None, IfSome, refl, sym, ◌∙◌, ap, inl, inr, nat_eq, arith}
use Rattle.std.specs.Prelude.{IsSomeAnd}
use Rattle.std.specs.List.{count_by}
use Rattle.std.proofs.lemmas.Bool.Decides.{eqb_tells}
use Rattle.std.proofs.lemmas.List.Sums.{sum_by-cons}
use Rattle.pl_model.specs.declared.calls.Mode.{Mode}
use Rattle.pl_model.specs.Map.{Map, get, put}
use Rattle.pl_parked.specs.declared.call.ParkedCall.{ParkedCall}
use Rattle.pl_parked.specs.Calls.{Calls}
use Rattle.pl_numbered.specs.Rising.{Rise}
use Rattle.pl_parked.specs.Meeting.{meets, marked, all_marked}
use Rattle.pl_numbered.proofs.Rising.{get_first, get_later, get-low, put_first, put_later}

module _ {A : Type 0} where
  -- how many calls weren't met
  abbrev pub unmet : Map ℕ (ParkedCall A) → ℕ
  unmet calls = count_by (λ e. not e.1.met) calls

  -- one call less
  pub fewer-unmet : (n : ℕ) (es : Map ℕ (ParkedCall A)) (x : ParkedCall A) → get nat_eq es n ≡ Some x → x.met ≡ false → unmet (put nat_eq es n (record x { met = true })) + 1 ≡ unmet es
  fewer-unmet n [] x h f = absurd (cc)
  fewer-unmet n (e ∷ es) x h f = elim (eqb_tells e.0 n) as (λ _. unmet (put nat_eq (e ∷ es) n (record x { met = true })) + 1 ≡ unmet (e ∷ es)) [
    | inl t ↦
        let is : Some e.1 ≡ Some x = sym (get_first n e es t.1) ∙ h in
        let own : e.1 ≡ x = cc in
        let one : ◌≡◌ {A = ℕ} (cond (not e.1.met) 1 0) 1 = ap (λ b. cond (not b) 1 0) (ap (λ (z : ParkedCall A). z.met) own ∙ f) in
        let after = ap (λ ys. unmet ys) (put_first n e es (record x { met = true }) t.1) ∙ sum_by-cons (λ z. cond (not z.1.met) 1 0) (n, record x { met = true }) es in
        omega (arith, one, after, sum_by-cons (λ (z : ℕ × ParkedCall A). cond (not z.1.met) 1 0) e es)
    | inr t ↦
        let rest = fewer-unmet n es x (sym (get_later n e es t.1) ∙ h) f in
        let after = ap (λ ys. unmet ys) (put_later n e es (record x { met = true }) t.1) ∙ sum_by-cons (λ z. cond (not z.1.met) 1 0) e (put nat_eq es n (record x { met = true })) in
        omega (arith, rest, after, sum_by-cons (λ (z : ℕ × ParkedCall A). cond (not z.1.met) 1 0) e es)
  ]

  module _ (pipe : ℕ) (mode : Mode) where
    marked-is : (x : ParkedCall A) → meets pipe mode x ≡ true → marked pipe mode x ≡ record x { met = true }
    marked-is x t = ap (λ b. cond b (record x { met = true }) x) t

    -- a call that is met as the others are to be
    pub marked-first : (n : ℕ) (es : Map ℕ (ParkedCall A)) (x : ParkedCall A) → get nat_eq es n ≡ Some x → meets pipe mode x ≡ true → all_marked pipe mode (put nat_eq es n (record x { met = true })) ≡ all_marked pipe mode es
    marked-first n [] x h t = absurd (cc)
    marked-first n (e ∷ es) x h t = elim (eqb_tells e.0 n) as (λ _. all_marked pipe mode (put nat_eq (e ∷ es) n (record x { met = true })) ≡ all_marked pipe mode (e ∷ es)) [
      | inl s ↦
          let is : Some e.1 ≡ Some x = sym (get_first n e es s.1) ∙ h in
          let own : e.1 ≡ x = cc in
          ap (all_marked pipe mode) (put_first n e es (record x { met = true }) s.1)
          ∙ ap (λ y. (n, y) ∷ all_marked pipe mode es) (marked-is (record x { met = true }) t ∙ sym (marked-is x t) ∙ ap (marked pipe mode) (sym own))
          ∙ ap (λ m. (m, marked pipe mode e.1) ∷ all_marked pipe mode es) (sym s.1)
      | inr s ↦ ap (all_marked pipe mode) (put_later n e es (record x { met = true }) s.1) ∙ ap (λ ys. (e.0, marked pipe mode e.1) ∷ ys) (marked-first n es x (sym (get_later n e es s.1) ∙ h) t)
    ]

    stays : (x : ParkedCall A) → (meets pipe mode x ≡ true → x.met ≡ true) → marked pipe mode x ≡ x
    stays x h = by (meets pipe mode x) h
      where
        by : (b : Bool) → (b ≡ true → x.met ≡ true) → cond b (record x { met = true }) x ≡ x
        by true h = λ i. record x { met = sym (h refl) i }
        by false h = refl

    -- where none is left
    pub none-left : (low next : ℕ) (es : Map ℕ (ParkedCall A)) → Rise low next es → ((n : ℕ) (x : ParkedCall A) → get nat_eq es n ≡ Some x → meets pipe mode x ≡ true → x.met ≡ true) → all_marked pipe mode es ≡ es
    none-left low next [] r h = refl
    none-left low next (e ∷ es) r h = λ i. (e.0, stays e.1 (h e.0 e.1 (get_first e.0 e es refl)) i) ∷ none-left (e.0 + 1) next es r.1 later i
      where
        later : (n : ℕ) (x : ParkedCall A) → get nat_eq es n ≡ Some x → meets pipe mode x ≡ true → x.met ≡ true
        later n x is t = elim (eqb_tells e.0 n) as (λ _. x.met ≡ true) [
          | inl s ↦ let none = get-low n (e.0 + 1) next es r.1 (let a = s.1 in omega arith) in absurd (cc)
          | inr s ↦ h n x (get_later n e es s.1 ∙ is) t
        ]

    -- a call of those that are to be met, once it is met
    pub marks-one : (old new : Calls A) (n : ℕ) → IsSomeAnd (get nat_eq old.calls n) (λ x. (meets pipe mode x ≡ true) × (x.met ≡ false))
        → IfSome (get nat_eq old.calls n) (λ x. new ≡ record old { calls = put nat_eq old.calls n (record x { met = true }) })
        → (record new { calls = all_marked pipe mode new.calls } ≡ record old { calls = all_marked pipe mode old.calls }) × (unmet new.calls + 1 ≡ unmet old.calls)
    marks-one old new n = by (get nat_eq old.calls n) refl
      where
        by : (o : Option (ParkedCall A)) → get nat_eq old.calls n ≡ o → IsSomeAnd o (λ x. (meets pipe mode x ≡ true) × (x.met ≡ false))
            → IfSome o (λ x. new ≡ record old { calls = put nat_eq old.calls n (record x { met = true }) })
            → (record new { calls = all_marked pipe mode new.calls } ≡ record old { calls = all_marked pipe mode old.calls }) × (unmet new.calls + 1 ≡ unmet old.calls)
        by None is h m = absurd h
        by (Some x) is h m = (
          ap (λ (v : Calls A). record v { calls = all_marked pipe mode v.calls }) m ∙ ap (λ calls. record old { calls = calls }) (marked-first n old.calls x is h.0),
          ap (λ (v : Calls A). unmet v.calls + 1) m ∙ fewer-unmet n old.calls x is h.1,
        )
