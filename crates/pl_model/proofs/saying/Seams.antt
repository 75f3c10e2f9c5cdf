-- Words that are told from others, and words that are cut at a byte.
use Rattle.std.proofs.Common.{◌≡◌, ℕ, suc, ◌+◌, ◌<◌, Bool, true, false, List, [], ◌∷◌, ◌++◌, length, take, drop, refl, ap, ◌∙◌, arith}
use Rattle.std.specs.Prelude.{Option, Some, None, nat_lt, ◌&&◌}
use Rattle.std.specs.List.{All, position_or_len, before_first, after_first, list_all}
use Rattle.std.specs.Str.{bytes_eq}
use Rattle.std.proofs.lemmas.Bool.{ltb-true}
use Rattle.std.proofs.lemmas.Slice.Eq.{bytes_eq-Decides}
use Rattle.std.proofs.lemmas.List.Elements.{All-head, All-tail, All-weaker}
use Rattle.std.proofs.lemmas.List.Sums.{AllPass-from_list_all}
use Rattle.std.proofs.Math.Seq.{take-append_seam}
use Rattle.pl_model.proofs.saying.Joined.{IsWord}
use Rattle.pl_model.proofs.saying.Below.{both}

-- ---- told from others

module _ {X : Type 0} (f : List ℕ → Option X) where
  told_by : (text other : List ℕ) (x : X) (b : Bool) → f text ≡ Some x → f other ≡ None → bytes_eq text other ≡ b → b ≡ false
  told_by text other x true says none e =
      let same : f text ≡ f other = ap f ((bytes_eq-Decides text other).0 e) in
      absurd (cc)
  told_by text other x false says none e = refl

  -- a text that says something is none that says nothing
  pub not_this : (text other : List ℕ) (x : X) → f text ≡ Some x → f other ≡ None → bytes_eq text other ≡ false
  not_this text other x says none = told_by text other x (bytes_eq text other) says none refl

  pub not_empty : (text : List ℕ) (x : X) → f text ≡ Some x → f [] ≡ None → 0 < length text
  not_empty [] x says none = absurd (cc)
  not_empty (c ∷ cs) x says none = omega arith

-- ---- words that are written out

abbrev pub is_word : List ℕ → Bool
is_word w = nat_lt 0 (length w) && list_all (λ c. nat_lt 32 c) w

pub word_by : (w : List ℕ) → is_word w ≡ true → IsWord w
word_by w is =
    let parts = both (nat_lt 0 (length w)) (list_all (λ c. nat_lt 32 c) w) is in
    record {
      some = ltb-true 0 (length w) parts.0;
      black = All-weaker (λ c. nat_lt 32 c ≡ true) (λ c. 32 < c) (λ c e. ltb-true 32 c e) w (AllPass-from_list_all (λ c. nat_lt 32 c) w parts.1);
    }

-- ---- cut at a byte

module _ (p : ℕ → Bool) (y : ℕ) (ys : List ℕ) (is : p y ≡ true) where
  seam_at : (xs : List ℕ) → All (λ x. p x ≡ false) xs → position_or_len p (xs ++ y ∷ ys) ≡ length xs
  seam_at [] none = rw is refl
  seam_at (x ∷ xs) none = rw (All-head (λ x. p x ≡ false) x xs none) (omega (arith, seam_at xs (All-tail (λ x. p x ≡ false) x xs none)))

  drop_seam : (xs : List ℕ) → drop (length xs + 1) (xs ++ y ∷ ys) ≡ ys
  drop_seam [] = refl
  drop_seam (x ∷ xs) =
      let e : suc (length xs) + 1 ≡ suc (length xs + 1) = omega arith in
      rw e (drop_seam xs)

  pub seam_within : (xs : List ℕ) → All (λ x. p x ≡ false) xs → position_or_len p (xs ++ y ∷ ys) ≡ length xs
  seam_within = seam_at

  pub before_seam : (xs : List ℕ) → All (λ x. p x ≡ false) xs → before_first p (xs ++ y ∷ ys) ≡ xs
  before_seam xs none = ap (λ n. take n (xs ++ y ∷ ys)) (seam_at xs none) ∙ take-append_seam xs (y ∷ ys)

  pub after_seam : (xs : List ℕ) → All (λ x. p x ≡ false) xs → after_first p (xs ++ y ∷ ys) ≡ ys
  after_seam xs none = ap (λ n. drop (n + 1) (xs ++ y ∷ ys)) (seam_at xs none) ∙ drop_seam xs
