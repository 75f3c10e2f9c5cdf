-- The first call that passes a test, and what that says of all calls.
use Rattle.std.proofs.Common.{◌≡◌, ℕ, ◌+◌, ◌≤◌, Bool, true, false, cond, [], ◌∷◌, Option, Some, None, IfSome, IfNone, refl, sym, ◌∙◌, subst, inl, inr, nat_eq, arith}
use Rattle.std.specs.Prelude.{IsSomeAnd, option_map}
use Rattle.std.specs.List.{find}
use Rattle.std.proofs.lemmas.Bool.Decides.{eqb_tells, nat_tests}
use Rattle.pl_model.specs.Map.{Map, get}
use Rattle.pl_parked.specs.declared.call.ParkedCall.{ParkedCall}
use Rattle.pl_parked.specs.Calls.{is_of_from}
use Rattle.pl_numbered.specs.Rising.{Rise}
use Rattle.pl_numbered.proofs.Rising.{IfSome_by, get_first, get_later, get_high}

module _ {X : Type 0} (test : ℕ × X → Bool) where
  pub found-here : (low next : ℕ) (es : Map ℕ X) (e : ℕ × X) → Rise low next es → find test es ≡ Some e → (get nat_eq es e.0 ≡ Some e.1) × (test e ≡ true) × (low ≤ e.0)
  found-here low next [] e r h = absurd (cc)
  found-here low next (y ∷ es) e r h = by (found-here (y.0 + 1) next es e r.1) (test y) refl h
    where
      by : (find test es ≡ Some e → (get nat_eq es e.0 ≡ Some e.1) × (test e ≡ true) × (y.0 + 1 ≤ e.0)) → (b : Bool) → test y ≡ b → cond b (Some y) (find test es) ≡ Some e → (get nat_eq (y ∷ es) e.0 ≡ Some e.1) × (test e ≡ true) × (low ≤ e.0)
      by later true t f = let is : y ≡ e = cc in subst (λ z. (get nat_eq (y ∷ es) z.0 ≡ Some z.1) × (test z ≡ true) × (low ≤ z.0)) is (get_first y.0 y es refl, t, r.0)
      by later false t f = let rest = later f in let a = rest.2 in let b = r.0 in (get_later e.0 y es (omega arith) ∙ rest.0, rest.1, omega arith)

  -- the first one has the least number
  pub found-least : (low next : ℕ) (es : Map ℕ X) (e : ℕ × X) → Rise low next es → find test es ≡ Some e → (m : ℕ) (x : X) → get nat_eq es m ≡ Some x → test (m, x) ≡ true → e.0 ≤ m
  found-least low next [] e r h m x g p = absurd (cc)
  found-least low next (y ∷ es) e r h m x g p = by (λ f k. found-least (y.0 + 1) next es e r.1 f m x k p) (test y) refl h
    where
      by : (find test es ≡ Some e → get nat_eq es m ≡ Some x → e.0 ≤ m) → (b : Bool) → test y ≡ b → cond b (Some y) (find test es) ≡ Some e → e.0 ≤ m
      by later true t f = let is : y ≡ e = cc in subst (λ z. z.0 ≤ m) is (elim (eqb_tells y.0 m) as (λ _. y.0 ≤ m) [
        | inl s ↦ let a : y.0 ≡ m = s.1 in omega arith
        | inr s ↦ let a = get_high (y.0 + 1) next es m x r.1 (sym (get_later m y es s.1) ∙ g) in omega arith
      ])
      by later false t f = elim (eqb_tells y.0 m) as (λ _. e.0 ≤ m) [
        | inl s ↦ let is : Some y.1 ≡ Some x = sym (get_first m y es s.1) ∙ g in let same : y.1 ≡ x = cc in absurd (let no : true ≡ false = sym p ∙ (λ i. test (sym s.1 i, sym same i)) ∙ t in cc)
        | inr s ↦ later f (sym (get_later m y es s.1) ∙ g)
      ]

  pub found-none : (es : Map ℕ X) → find test es ≡ None → (m : ℕ) (x : X) → get nat_eq es m ≡ Some x → test (m, x) ≡ false
  found-none [] h m x g = absurd (cc)
  found-none (y ∷ es) h m x g = by (λ f k. found-none es f m x k) (test y) refl h
    where
      by : (find test es ≡ None → get nat_eq es m ≡ Some x → test (m, x) ≡ false) → (b : Bool) → test y ≡ b → cond b (Some y) (find test es) ≡ None → test (m, x) ≡ false
      by later true t f = absurd (cc)
      by later false t f = elim (eqb_tells y.0 m) as (λ _. test (m, x) ≡ false) [
        | inl s ↦ let is : Some y.1 ≡ Some x = sym (get_first m y es s.1) ∙ g in let same : y.1 ≡ x = cc in (λ i. test (sym s.1 i, sym same i)) ∙ t
        | inr s ↦ later f (sym (get_later m y es s.1) ∙ g)
      ]

-- the calls of a process from a number on
module _ {A : Type 0} (pid from : ℕ) where
  pub passes : (entry : ℕ × ParkedCall A) → is_of_from pid from entry ≡ true → (from ≤ entry.0) × (entry.1.pid ≡ pid)
  passes entry h = grind (arith, nat_tests, h)

  fails : (entry : ℕ × ParkedCall A) → is_of_from pid from entry ≡ false → from ≤ entry.0 → ¬ (entry.1.pid ≡ pid)
  fails entry h l is = grind (arith, nat_tests, h)

  pub reaches : (entry : ℕ × ParkedCall A) → from ≤ entry.0 → entry.1.pid ≡ pid → is_of_from pid from entry ≡ true
  reaches entry l is = grind (arith, nat_tests)

  -- what it says of all that there is none
  pub next-none : (calls : Map ℕ (ParkedCall A)) (o : Option ℕ) → o ≡ option_map (λ entry. entry.0) (find (is_of_from pid from) calls) → IfNone o ((number : ℕ) → from ≤ number → IfSome (get nat_eq calls number) (λ call. ¬ (call.pid ≡ pid)))
  next-none calls o is = subst (λ q. IfNone q ((number : ℕ) → from ≤ number → IfSome (get nat_eq calls number) (λ call. ¬ (call.pid ≡ pid)))) (sym is) (by (find (is_of_from pid from) calls) refl)
    where
      by : (f : Option (ℕ × ParkedCall A)) → find (is_of_from pid from) calls ≡ f → IfNone (option_map (λ e. e.0) f) ((number : ℕ) → from ≤ number → IfSome (get nat_eq calls number) (λ call. ¬ (call.pid ≡ pid)))
      by None h = λ number l. IfSome_by (get nat_eq calls number) (λ call. ¬ (call.pid ≡ pid)) (λ call at. fails (number, call) (found-none (is_of_from pid from) calls h number call at) l)
      by (Some e) h = tt

  -- what the first of them says of its number, and of the others'
  module _ (next : ℕ) (calls : Map ℕ (ParkedCall A)) (r : Rise 0 next calls) (o : Option ℕ) (is : o ≡ option_map (λ entry. entry.0) (find (is_of_from pid from) calls)) where
    pub next-parked : IfSome o (λ number. (from ≤ number) × IsSomeAnd (get nat_eq calls number) (λ call. call.pid ≡ pid))
    next-parked = subst (λ q. IfSome q (λ number. (from ≤ number) × IsSomeAnd (get nat_eq calls number) (λ call. call.pid ≡ pid))) (sym is) (by (find (is_of_from pid from) calls) refl)
      where
        by : (f : Option (ℕ × ParkedCall A)) → find (is_of_from pid from) calls ≡ f → IfSome (option_map (λ e. e.0) f) (λ number. (from ≤ number) × IsSomeAnd (get nat_eq calls number) (λ call. call.pid ≡ pid))
        by None h = tt
        by (Some e) h =
            let here = found-here (is_of_from pid from) 0 next calls e r h in
            let own = passes e here.1 in
            (own.0, subst (λ q. IsSomeAnd q (λ call. call.pid ≡ pid)) (sym here.0) own.1)

    pub next-least : IfSome o (λ number. (other : ℕ) → from ≤ other → IfSome (get nat_eq calls other) (λ call. call.pid ≡ pid → number ≤ other))
    next-least = subst (λ q. IfSome q (λ number. (other : ℕ) → from ≤ other → IfSome (get nat_eq calls other) (λ call. call.pid ≡ pid → number ≤ other))) (sym is) (by (find (is_of_from pid from) calls) refl)
      where
        by : (f : Option (ℕ × ParkedCall A)) → find (is_of_from pid from) calls ≡ f → IfSome (option_map (λ e. e.0) f) (λ number. (other : ℕ) → from ≤ other → IfSome (get nat_eq calls other) (λ call. call.pid ≡ pid → number ≤ other))
        by None h = tt
        by (Some e) h = λ other l. IfSome_by (get nat_eq calls other) (λ call. call.pid ≡ pid → e.0 ≤ other) (λ call at own. found-least (is_of_from pid from) 0 next calls e r h other call at (reaches (other, call) l own))
