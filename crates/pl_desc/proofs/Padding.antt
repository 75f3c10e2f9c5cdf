-- Names that are padded with none.
use Rattle.std.proofs.Common.{◌≡◌, ℕ, zero, suc, ◌+◌, ◌-◌, ◌<◌, ◌≤◌, List, [], ◌∷◌, ◌++◌, length, replicate, Option, None, refl, sym, ◌∙◌, ap, arith}
use Rattle.std.specs.Prelude.{slice_set}
use Rattle.std.proofs.lemmas.List.{length-set, length-replicate}
use Rattle.pl_desc.specs.Rows.{at}
use Rattle.pl_desc.specs.TableView.{padded}
use Rattle.pl_desc.proofs.TableLemmas.{at-free}

length-more : (n : ℕ) (names : List (Option ℕ)) → length (names ++ replicate n None) ≡ length names + n
length-more n [] = let e : length (replicate {A = Option ℕ} n None) ≡ n = length-replicate n None in (let r : length ([] ++ replicate {A = Option ℕ} n None) ≡ 0 + n = omega (arith, e) in r)
length-more n (x ∷ xs) = let e = length-more n xs in (let r : length (x ∷ (xs ++ replicate n None)) ≡ length (x ∷ xs) + n = omega (arith, e) in r)

at-more : (n : ℕ) (names : List (Option ℕ)) (k : ℕ) → at (names ++ replicate n None) k ≡ at names k
at-more n [] k = at-free n k
at-more n (x ∷ xs) zero = refl
at-more n (x ∷ xs) (suc k) = at-more n xs k

set-more : (n : ℕ) (names : List (Option ℕ)) (k : ℕ) (d : Option ℕ) → k < length names → slice_set (names ++ replicate n None) k d ≡ slice_set names k d ++ replicate n None
set-more n [] k d l = absurd (omega arith)
set-more n (x ∷ xs) zero d l = refl
set-more n (x ∷ xs) (suc k) d l = ap (λ ys. x ∷ ys) (set-more n xs k d (omega arith))

-- lists of one length with the same at each place
lists-same : (xs ys : List (Option ℕ)) → length xs ≡ length ys → ((k : ℕ) → at xs k ≡ at ys k) → xs ≡ ys
lists-same [] [] e h = refl
lists-same [] (y ∷ ys) e h = absurd (omega (arith, e))
lists-same (x ∷ xs) [] e h = absurd (omega (arith, e))
lists-same (x ∷ xs) (y ∷ ys) e h = λ i. h 0 i ∷ lists-same xs ys (omega (arith, e)) (λ k. h (suc k)) i

module _ (most : ℕ) (names : List (Option ℕ)) where
  pub at-padded : (k : ℕ) → at (padded most names) k ≡ at names k
  at-padded k = at-more (most - length names) names k

  pub length-padded : length names ≤ most → length (padded most names) ≡ most
  length-padded few = let e = length-more (most - length names) names in omega (arith, e, few)

  pub set-padded : (k : ℕ) (d : Option ℕ) → k < length names → slice_set (padded most names) k d ≡ padded most (slice_set names k d)
  set-padded k d l =
      set-more (most - length names) names k d l
      ∙ ap (λ n. slice_set names k d ++ replicate (most - n) None) (sym (length-set names k d))

-- rows come and go, of descriptors that name nothing
pub padded-same : (most : ℕ) (new old : List (Option ℕ)) → length new ≤ most → length old ≤ most → ((k : ℕ) → at new k ≡ at old k) → padded most new ≡ padded most old
padded-same most new old few was same =
    lists-same (padded most new) (padded most old) (length-padded most new few ∙ sym (length-padded most old was)) (λ k. at-padded most new k ∙ same k ∙ sym (at-padded most old k))
