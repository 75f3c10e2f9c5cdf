-- Maps as lists of entries, each key once.
use Rattle.std.proofs.Common.{◌≡◌, ◌≢◌, ℕ, Bool, true, false, cond, Option, [], ◌∷◌, ◌++◌, refl, sym, ◌∙◌, ap, nat_eq}
use Rattle.std.specs.Prelude.{not}
use Rattle.std.specs.declared.option.Option.TheVariants.{None, Some}
use Rattle.std.specs.List.{filter}
use Rattle.std.proofs.lemmas.Bool.{eq-eqb, eqb-true}
use Rattle.pl_model.specs.Map.{Map, get, put, without, EachOnce}

pub differ : (a b : ℕ) → a ≢ b → nat_eq a b ≡ false
differ a b h = at (nat_eq a b) refl where
  at : (t : Bool) → nat_eq a b ≡ t → t ≡ false
  at true e = absurd (h (eqb-true a b e))
  at false e = refl

module _ {X : Type 0} where
  pub put_same : (es : Map ℕ X) (k : ℕ) (x : X) → get nat_eq (put nat_eq es k x) k ≡ Some x
  put_same [] k x = ap (λ b. cond b (Some x) None) (eq-eqb k k refl)
  put_same (e ∷ es) k x = at (nat_eq e.0 k) refl (put_same es k x) where
    at : (b : Bool) → nat_eq e.0 k ≡ b → get nat_eq (put nat_eq es k x) k ≡ Some x → get nat_eq (cond b ((k, x) ∷ es) (e ∷ put nat_eq es k x)) k ≡ Some x
    at true i h = ap (λ b. cond b (Some x) (get nat_eq es k)) (eq-eqb k k refl)
    at false i h = ap (λ b. cond b (Some e.1) (get nat_eq (put nat_eq es k x) k)) i ∙ h

  pub put_other : (es : Map ℕ X) (k q : ℕ) (x : X) → k ≢ q → get nat_eq (put nat_eq es k x) q ≡ get nat_eq es q
  put_other [] k q x n = ap (λ b. cond b (Some x) None) (differ k q n)
  put_other (e ∷ es) k q x n = at (nat_eq e.0 k) refl (put_other es k q x n) where
    at : (b : Bool) → nat_eq e.0 k ≡ b → get nat_eq (put nat_eq es k x) q ≡ get nat_eq es q → get nat_eq (cond b ((k, x) ∷ es) (e ∷ put nat_eq es k x)) q ≡ get nat_eq (e ∷ es) q
    at true i h =
        ap (λ b. cond b (Some x) (get nat_eq es q)) (differ k q n)
        ∙ sym (ap (λ b. cond b (Some e.1) (get nat_eq es q)) (differ e.0 q (λ j. n (sym (eqb-true e.0 k i) ∙ j))))
    at false i h = ap (λ o. cond (nat_eq e.0 q) (Some e.1) o) h

  pub without_same : (es : Map ℕ X) (k : ℕ) → get nat_eq (without nat_eq es k) k ≡ None
  without_same [] k = refl
  without_same (e ∷ es) k = at (nat_eq k e.0) refl (without_same es k) where
    at : (b : Bool) → nat_eq k e.0 ≡ b → get nat_eq (without nat_eq es k) k ≡ None → get nat_eq (cond (not b) (e ∷ without nat_eq es k) (without nat_eq es k)) k ≡ None
    at true i h = h
    at false i h = ap (λ b. cond b (Some e.1) (get nat_eq (without nat_eq es k) k)) (differ e.0 k (λ j. absurd (apart (eq-eqb k e.0 (sym j)) i))) ∙ h
      where
        apart : {t : Bool} → t ≡ true → t ≡ false → ⊥
        apart e f = cc

  pub append_old : (es : Map ℕ X) (k q : ℕ) (x w : X) → get nat_eq es q ≡ Some w → get nat_eq (es ++ (k, x) ∷ []) q ≡ Some w
  append_old [] k q x w h = absurd (cc)
  append_old (e ∷ es) k q x w h = at (nat_eq e.0 q) h (append_old es k q x w) where
    at : (b : Bool) → cond b (Some e.1) (get nat_eq es q) ≡ Some w → (get nat_eq es q ≡ Some w → get nat_eq (es ++ (k, x) ∷ []) q ≡ Some w) → cond b (Some e.1) (get nat_eq (es ++ (k, x) ∷ []) q) ≡ Some w
    at true h rest = h
    at false h rest = rest h

  pub append_new : (es : Map ℕ X) (k q : ℕ) (x : X) → get nat_eq es q ≡ None → get nat_eq (es ++ (k, x) ∷ []) q ≡ cond (nat_eq k q) (Some x) None
  append_new [] k q x h = refl
  append_new (e ∷ es) k q x h = at (nat_eq e.0 q) h (append_new es k q x) where
    at : (b : Bool) → cond b (Some e.1) (get nat_eq es q) ≡ None → (get nat_eq es q ≡ None → get nat_eq (es ++ (k, x) ∷ []) q ≡ cond (nat_eq k q) (Some x) None) → cond b (Some e.1) (get nat_eq (es ++ (k, x) ∷ []) q) ≡ cond (nat_eq k q) (Some x) None
    at true h rest = absurd (cc)
    at false h rest = rest h

  -- what a map with a new entry has, it had, or it is the new one
  pub append_other : (es : Map ℕ X) (k q : ℕ) (x : X) → k ≢ q → get nat_eq (es ++ (k, x) ∷ []) q ≡ get nat_eq es q
  append_other [] k q x n = ap (λ b. cond b (Some x) None) (differ k q n)
  append_other (e ∷ es) k q x n = ap (λ o. cond (nat_eq e.0 q) (Some e.1) o) (append_other es k q x n)

  filter_none : (t : ℕ × X → Bool) (es : Map ℕ X) (q : ℕ) → get nat_eq es q ≡ None → get nat_eq (filter t es) q ≡ None
  filter_none t [] q h = refl
  filter_none t (e ∷ es) q h = at (nat_eq e.0 q) (t e) refl h (filter_none t es q) where
    at : (b u : Bool) → nat_eq e.0 q ≡ b → cond b (Some e.1) (get nat_eq es q) ≡ None → (get nat_eq es q ≡ None → get nat_eq (filter t es) q ≡ None) → get nat_eq (cond u (e ∷ filter t es) (filter t es)) q ≡ None
    at true u i h rest = absurd (cc)
    at false true i h rest = ap (λ b. cond b (Some e.1) (get nat_eq (filter t es) q)) i ∙ rest h
    at false false i h rest = rest h

  pub filter_from : (t : ℕ × X → Bool) (es : Map ℕ X) (q : ℕ) (w : X) → EachOnce nat_eq es → get nat_eq (filter t es) q ≡ Some w → get nat_eq es q ≡ Some w
  filter_from t [] q w once h = h
  filter_from t (e ∷ es) q w once h = at (nat_eq e.0 q) (t e) refl h (filter_from t es q w once.1) where
    gone : nat_eq e.0 q ≡ true → get nat_eq (filter t es) q ≡ None
    gone i = filter_none t es q (ap (get nat_eq es) (sym (eqb-true e.0 q i)) ∙ once.0)

    at : (b u : Bool) → nat_eq e.0 q ≡ b → get nat_eq (cond u (e ∷ filter t es) (filter t es)) q ≡ Some w → (get nat_eq (filter t es) q ≡ Some w → get nat_eq es q ≡ Some w) → cond b (Some e.1) (get nat_eq es q) ≡ Some w
    at true true i h rest = ap (λ b. cond b (Some e.1) (get nat_eq (filter t es) q)) (sym i) ∙ h
    at true false i h rest = absurd (none_some (gone i) h)
      where
        none_some : {o : Option X} → o ≡ None → o ≡ Some w → ⊥
        none_some e f = cc
    at false true i h rest = rest (ap (λ b. cond b (Some e.1) (get nat_eq (filter t es) q)) (sym i) ∙ h)
    at false false i h rest = rest h

  pub filter_once : (t : ℕ × X → Bool) (es : Map ℕ X) → EachOnce nat_eq es → EachOnce nat_eq (filter t es)
  filter_once t [] once = tt
  filter_once t (e ∷ es) once = at (t e) (filter_once t es once.1) where
    at : (u : Bool) → EachOnce nat_eq (filter t es) → EachOnce nat_eq (cond u (e ∷ filter t es) (filter t es))
    at true h = (filter_none t es e.0 once.0, h)
    at false h = h

  pub put_once : (es : Map ℕ X) (k : ℕ) (x : X) → EachOnce nat_eq es → EachOnce nat_eq (put nat_eq es k x)
  put_once [] k x once = (refl, tt)
  put_once (e ∷ es) k x once = at (nat_eq e.0 k) refl (put_once es k x once.1) where
    at : (b : Bool) → nat_eq e.0 k ≡ b → EachOnce nat_eq (put nat_eq es k x) → EachOnce nat_eq (cond b ((k, x) ∷ es) (e ∷ put nat_eq es k x))
    at true i h = (ap (get nat_eq es) (sym (eqb-true e.0 k i)) ∙ once.0, once.1)
    at false i h = (put_other es k e.0 x (λ j. apart (eq-eqb e.0 k (sym j)) i) ∙ once.0, h)
      where
        apart : {t : Bool} → t ≡ true → t ≡ false → ⊥
        apart e f = cc

  pub append_once : (es : Map ℕ X) (k : ℕ) (x : X) → EachOnce nat_eq es → get nat_eq es k ≡ None → EachOnce nat_eq (es ++ (k, x) ∷ [])
  append_once [] k x once none = (refl, tt)
  append_once (e ∷ es) k x once none = at (nat_eq e.0 k) refl none (append_once es k x once.1) where
    at : (b : Bool) → nat_eq e.0 k ≡ b → cond b (Some e.1) (get nat_eq es k) ≡ None → (get nat_eq es k ≡ None → EachOnce nat_eq (es ++ (k, x) ∷ [])) → EachOnce nat_eq (e ∷ (es ++ (k, x) ∷ []))
    at true i h rest = absurd (cc)
    at false i h rest = (append_new es k e.0 x once.0 ∙ ap (λ b. cond b (Some x) None) (differ k e.0 (λ j. apart (eq-eqb e.0 k (sym j)) i)), rest h)
      where
        apart : {t : Bool} → t ≡ true → t ≡ false → ⊥
        apart e f = cc
