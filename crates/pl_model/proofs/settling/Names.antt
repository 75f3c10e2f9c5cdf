-- Names that stand once each.
use Rattle.std.proofs.Common.{◌≡◌, ◌≢◌, ℕ, Bool, true, false, not, cond, List, [], ◌∷◌, Option, Some, None, refl, sym, ◌∙◌, ap, nat_eq, suc, zero, arith}
use Rattle.std.specs.Prelude.{All}
use Rattle.std.specs.declared.cmp.Ordering.{Ordering}
use Rattle.std.specs.declared.cmp.Ordering.TheVariants.{Less, Equal, Greater}
use Rattle.std.specs.Ordering.{nat_cmp, match_ordering, is_eq}
use Rattle.std.specs.Cmp.Lexicographic.{slice_cmp, pointwise}
use Rattle.std.proofs.lemmas.Cmp.{nat_list_eq_equiv}
use Rattle.std.proofs.lemmas.Map.Text.{is_eq-slice_cmp}
use Rattle.pl_model.specs.Map.{Map, get, put_in_order, without, EachOnce}

abbrev same : List ℕ → List ℕ → Bool
same a b = pointwise nat_eq a b

-- a test that finds nothing from an entry on fails there, and finds nothing behind it
pub missed : {X : Type 0} (b : Bool) (x : X) (rest : Option X) → cond b (Some x) rest ≡ None → (b ≡ false) × (rest ≡ None)
missed true x rest none = absurd (cc)
missed false x rest none = (refl, none)

-- a name that isn't another compares to it as less or greater
pub apart : (name key : List ℕ) → same key name ≡ false → slice_cmp nat_cmp name key ≢ Equal
apart name key n e = (let f : true ≡ false = sym (ap is_eq e) ∙ is_eq-slice_cmp name key ∙ nat_list_eq_equiv.symm name key ∙ n in absurd (cc))

module _ {X : Type 0} where
  -- one of two equal names is found where the other is
  found_as : (es : Map (List ℕ) X) (a b : List ℕ) → same a b ≡ true → get same es a ≡ None → get same es b ≡ None
  found_as [] a b e none = refl
  found_as (d ∷ es) a b e none =
      let past = missed (same d.0 a) d.1 (get same es a) none in
      let here : same d.0 b ≡ false = nat_list_eq_equiv.symm d.0 b ∙ sym (nat_list_eq_equiv.congr a b d.0 e) ∙ nat_list_eq_equiv.symm a d.0 ∙ past.0 in
      ap (λ t. cond t (Some d.1) (get same es b)) here ∙ found_as es a b e past.1

  -- where no name is found, no entry has it
  none_all : (es : Map (List ℕ) X) (name : List ℕ) → get same es name ≡ None → All (λ e. same name e.0 ≡ false) es
  none_all [] name none k x l = absurd (omega arith)
  none_all (e ∷ es) name none zero x l = nat_list_eq_equiv.symm name e.0 ∙ (missed (same e.0 name) e.1 (get same es name) none).0
  none_all (e ∷ es) name none (suc k) x l = none_all es name (missed (same e.0 name) e.1 (get same es name) none).1 k x (omega arith)

  pub once-only : (es : Map (List ℕ) X) (name : List ℕ) (x : X) → EachOnce same es → get same es name ≡ Some x → All (λ e. same name e.0 ≡ true → e.1 ≡ x) es
  once-only [] name x once found = absurd (cc)
  once-only (e ∷ es) name x once found = at (same e.0 name) refl found (once-only es name x once.1)
    where
      at : (b : Bool) → same e.0 name ≡ b → cond b (Some e.1) (get same es name) ≡ Some x → (get same es name ≡ Some x → All (λ d. same name d.0 ≡ true → d.1 ≡ x) es)
          → All (λ d. same name d.0 ≡ true → d.1 ≡ x) (e ∷ es)
      at true i found rest zero y l h = cc
      at true i found rest (suc k) y l h = (let f : false ≡ true = sym (none_all es name (found_as es e.0 name i once.0) k y (omega arith)) ∙ h in absurd (cc))
      at false i found rest zero y l h = (let f : false ≡ true = sym (nat_list_eq_equiv.symm name e.0 ∙ i) ∙ h in absurd (cc))
      at false i found rest (suc k) y l h = rest found k y (omega arith) h

  -- a name that is put at its place is found alone of all
  put_none : (es : Map (List ℕ) X) (name other : List ℕ) (x : X) → same name other ≡ false → get same es name ≡ None → get same es other ≡ None → get same (put_in_order (slice_cmp nat_cmp) es name x) other ≡ None
  put_none [] name other x n none gone = ap (λ b. cond b (Some x) None) n
  put_none (e ∷ es) name other x n none gone =
      let past = missed (same e.0 name) e.1 (get same es name) none in
      let behind = missed (same e.0 other) e.1 (get same es other) gone in
      at (slice_cmp nat_cmp name e.0) (apart name e.0 past.0) behind.0 behind.1 (put_none es name other x n past.1 behind.1)
    where
      at : (o : Ordering) → o ≢ Equal → same e.0 other ≡ false → get same es other ≡ None → get same (put_in_order (slice_cmp nat_cmp) es name x) other ≡ None
          → get same (match_ordering o ((name, x) ∷ e ∷ es) ((e.0, x) ∷ es) (e ∷ put_in_order (slice_cmp nat_cmp) es name x)) other ≡ None
      at Less m here gone rest = (λ i. cond (n i) (Some x) (cond (here i) (Some e.1) (get same es other))) ∙ gone
      at Equal m here gone rest = absurd (m refl)
      at Greater m here gone rest = ap (λ b. cond b (Some e.1) (get same (put_in_order (slice_cmp nat_cmp) es name x) other)) here ∙ rest

  -- a new name put at its place leaves each name once
  pub put-once : (es : Map (List ℕ) X) (name : List ℕ) (x : X) → EachOnce same es → get same es name ≡ None → EachOnce same (put_in_order (slice_cmp nat_cmp) es name x)
  put-once [] name x once none = (refl, tt)
  put-once (e ∷ es) name x once none =
      let past = missed (same e.0 name) e.1 (get same es name) none in
      at (slice_cmp nat_cmp name e.0) (apart name e.0 past.0) past.0 past.1 (put-once es name x once.1 past.1)
    where
      at : (o : Ordering) → o ≢ Equal → same e.0 name ≡ false → get same es name ≡ None → EachOnce same (put_in_order (slice_cmp nat_cmp) es name x)
          → EachOnce same (match_ordering o ((name, x) ∷ e ∷ es) ((e.0, x) ∷ es) (e ∷ put_in_order (slice_cmp nat_cmp) es name x))
      at Less m here gone rest = (ap (λ b. cond b (Some e.1) (get same es name)) here ∙ gone, once)
      at Equal m here gone rest = absurd (m refl)
      at Greater m here gone rest = (put_none es name e.0 x (nat_list_eq_equiv.symm name e.0 ∙ here) gone once.0, rest)

  without_none : (es : Map (List ℕ) X) (name other : List ℕ) → get same es other ≡ None → get same (without same es name) other ≡ None
  without_none [] name other none = refl
  without_none (e ∷ es) name other none = at (same name e.0) (missed (same e.0 other) e.1 (get same es other) none).0 (without_none es name other (missed (same e.0 other) e.1 (get same es other) none).1)
    where
      at : (b : Bool) → same e.0 other ≡ false → get same (without same es name) other ≡ None → get same (cond (not b) (e ∷ without same es name) (without same es name)) other ≡ None
      at true here rest = rest
      at false here rest = ap (λ t. cond t (Some e.1) (get same (without same es name) other)) here ∙ rest

  -- and so does a name that is taken away
  pub without-once : (es : Map (List ℕ) X) (name : List ℕ) → EachOnce same es → EachOnce same (without same es name)
  without-once [] name once = tt
  without-once (e ∷ es) name once = at (same name e.0) (without-once es name once.1)
    where
      at : (b : Bool) → EachOnce same (without same es name) → EachOnce same (cond (not b) (e ∷ without same es name) (without same es name))
      at true rest = rest
      at false rest = (without_none es name e.0 once.0, rest)
