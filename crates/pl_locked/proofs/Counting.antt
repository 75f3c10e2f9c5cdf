-- The numbers of a journal's entries, counted entry by entry.
use Rattle.std.proofs.Common.{◌≡◌, ◌≢◌, ℕ, zero, suc, ◌+◌, ◌<◌, ◌≤◌, List, [], ◌∷◌, ◌++◌, length, take, get_or, refl, sym, ap, ◌∙◌, subst, arith, append_assoc, length-append, length-take}
use Rattle.std.specs.Prelude.{map}
use Rattle.std.proofs.lemmas.List.{append-nil}
use Rattle.std.proofs.Math.Seq.{take-suc}
use mathlib.Core.Logic.{dite}
use native.Mathlib.Decide.{ℕ_discrete}
use Rattle.pl_model.specs.declared.history.Entry.{Entry}
use Rattle.pl_model.specs.History.{of, numbers_after}
use Rattle.pl_model.proofs.Journals.{of-push, of-other, of-few}

module _ {A : Type 0} where
  -- the numbers of the later entries are right, where the others stand before them
  abbrev pub NumberedAfter : List (Entry A) → List (Entry A) → Type 0
  NumberedAfter before h = map (λ (e : Entry A). e.number) h ≡ numbers_after before h

  -- where all numbers are right, so is each
  pub number_at : (before h : List (Entry A)) (i : ℕ) (e : Entry A) → i < length h → e ≡ get_or h i e → NumberedAfter before h → e.number ≡ length (of e.caller (before ++ take i h))
  number_at before [] i e lt is g = absurd (omega arith)
  number_at before (x ∷ xs) zero e lt is g =
      let h : x.number ≡ length (of x.caller before) = cc g in
      ap (λ (y : Entry A). y.number) is ∙ (h ∙ (ap (λ (y : Entry A). length (of y.caller before)) (sym is) ∙ ap (λ b. length (of e.caller b)) (sym (append-nil before))))
  number_at before (x ∷ xs) (suc i) e lt is g =
      let t : NumberedAfter (before ++ x ∷ []) xs = cc g in
      number_at (before ++ x ∷ []) xs i e (omega arith) is t ∙ ap (λ b. length (of e.caller b)) (append_assoc before (x ∷ []) (take i xs))

  pub numbered-more : (before h : List (Entry A)) (i : ℕ) (e : Entry A) → i < length h → e ≡ get_or h i e → NumberedAfter before (take i h) → e.number ≡ length (of e.caller (before ++ take i h)) → NumberedAfter before (take (suc i) h)
  numbered-more before [] i e lt is g n = absurd (omega arith)
  numbered-more before (x ∷ xs) zero e lt is g n =
      let h : x.number ≡ length (of x.caller before) =
      ap (λ (y : Entry A). y.number) (sym is) ∙ (n ∙ (ap (λ b. length (of e.caller b)) (append-nil before) ∙ ap (λ (y : Entry A). length (of y.caller before)) is)) in
      ap (λ q. q ∷ []) h
  numbered-more before (x ∷ xs) (suc i) e lt is g n =
      let h : x.number ≡ length (of x.caller before) = cc g in
      let t : NumberedAfter (before ++ x ∷ []) (take i xs) = cc g in
      let m = numbered-more (before ++ x ∷ []) xs i e (omega arith) is t (n ∙ ap (λ b. length (of e.caller b)) (sym (append_assoc before (x ∷ []) (take i xs)))) in
      λ k. h k ∷ m k

  -- the first entries of caller k are at most as many
  pub few_of : (h : List (Entry A)) (i k : ℕ) → length (of k (take i h)) ≤ i
  few_of h i k = let a : length (of k (take i h)) ≤ length (take i h) = of-few k (take i h) in let b = length-take i h in omega (arith, a, b)

  -- counts of the entries by caller, and those after one more
  pub counts-more : (h : List (Entry A)) (i : ℕ) (e : Entry A) (old new : ℕ → ℕ) → i < length h → e ≡ get_or h i e → ((k : ℕ) → old k ≡ length (of k (take i h)))
      → new e.caller ≡ old e.caller + 1 → ((k : ℕ) → k ≢ e.caller → new k ≡ old k) → (k : ℕ) → new k ≡ length (of k (take (suc i) h))
  counts-more h i e old new lt is counts here there k =
      let more : take (suc i) h ≡ take i h ++ e ∷ [] = take-suc h i e lt ∙ ap (λ y. take i h ++ y ∷ []) (sym is) in
      dite (ℕ_discrete k e.caller)
      (λ (same : k ≡ e.caller).
      let one : length (of e.caller (take i h ++ e ∷ [])) ≡ length (of e.caller (take i h)) + 1 = ap length (of-push e.caller (take i h) e refl) ∙ length-append (of e.caller (take i h)) (e ∷ []) in
      let was : old e.caller ≡ length (of e.caller (take i h)) = counts e.caller in
      let now : new e.caller ≡ length (of e.caller (take i h ++ e ∷ [])) = omega arith in
      subst (λ (j : ℕ). new j ≡ length (of j (take (suc i) h))) (sym same) (now ∙ ap (λ g. length (of e.caller g)) (sym more)))
      (λ (other : k ≢ e.caller).
      there k other ∙ (counts k ∙ (sym (ap length (of-other k (take i h) e (λ x. other (sym x)))) ∙ ap (λ g. length (of k g)) (sym more))))
