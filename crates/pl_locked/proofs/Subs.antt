-- What a caller made, in order among the entries of a history.
use Rattle.std.proofs.Common.{◌≡◌, ℕ, ◌≤◌, List, [], ◌∷◌, ◌++◌, length, refl, sym, subst, inl, inr, ⊎_elim, arith}
use mathlib.Core.List.{IsPrefix}
use Rattle.pl_model.specs.declared.history.Entry.{Entry}
use Rattle.pl_model.specs.History.{of}
use Rattle.pl_model.proofs.Journals.{of-push, of-append}
use Rattle.pl_locked.specs.Views.{IsSub}

module _ {A : Type 0} where
  sub_more : (xs ys zs : List (Entry A)) → IsSub xs ys → IsSub xs (ys ++ zs)
  sub_more [] ys zs s = tt
  sub_more (x ∷ xs) [] zs s = absurd s
  sub_more (x ∷ xs) (y ∷ ys) zs s = ⊎_elim (λ (t : (x ≡ y) × IsSub xs ys). inl (t.0, sub_more xs ys zs t.1)) (λ (t : IsSub (x ∷ xs) ys). inr (sub_more (x ∷ xs) ys zs t)) s

  sub_push : (xs ys : List (Entry A)) (e : Entry A) → IsSub xs ys → IsSub (xs ++ e ∷ []) (ys ++ e ∷ [])
  sub_push [] [] e s = inl (refl, tt)
  sub_push [] (y ∷ ys) e s = inr (sub_push [] ys e tt)
  sub_push (x ∷ xs) [] e s = absurd s
  sub_push (x ∷ xs) (y ∷ ys) e s = ⊎_elim (λ (t : (x ≡ y) × IsSub xs ys). inl (t.0, sub_push xs ys e t.1)) (λ (t : IsSub (x ∷ xs) ys). inr (sub_push (x ∷ xs) ys e t)) s

  pub sub_length : (xs ys : List (Entry A)) → IsSub xs ys → length xs ≤ length ys
  sub_length [] ys s = omega arith
  sub_length (x ∷ xs) [] s = absurd s
  sub_length (x ∷ xs) (y ∷ ys) s = ⊎_elim (λ (t : (x ≡ y) × IsSub xs ys). let r = sub_length xs ys t.1 in omega arith) (λ (t : IsSub (x ∷ xs) ys). let r = sub_length (x ∷ xs) ys t in omega arith) s

  -- what is as long as the whole is the whole
  pub sub_whole : (xs ys : List (Entry A)) → IsSub xs ys → length ys ≤ length xs → ys ≡ xs
  sub_whole [] [] s le = refl
  sub_whole [] (y ∷ ys) s le = absurd (omega arith)
  sub_whole (x ∷ xs) [] s le = absurd s
  sub_whole (x ∷ xs) (y ∷ ys) s le = ⊎_elim
      (λ (t : (x ≡ y) × IsSub xs ys). λ i. sym t.0 i ∷ sub_whole xs ys t.1 (omega arith) i)
      (λ (t : IsSub (x ∷ xs) ys). let r = sub_length (x ∷ xs) ys t in absurd (omega arith))
      s

  -- in a longer history
  pub sub_later : (k : ℕ) (made a b : List (Entry A)) → IsSub made (of k a) → IsPrefix a b → IsSub made (of k b)
  sub_later k made a b s p = subst (λ h. IsSub made (of k h)) p.1 (subst (IsSub made) (sym (of-append k a p.0)) (sub_more made (of k a) (of k p.0) s))

  -- with one entry more
  pub sub_made : (k : ℕ) (made h : List (Entry A)) (e : Entry A) → e.caller ≡ k → IsSub made (of k h) → IsSub (made ++ e ∷ []) (of k (h ++ e ∷ []))
  sub_made k made h e is s = subst (IsSub (made ++ e ∷ [])) (sym (of-push k h e is)) (sub_push made (of k h) e s)
