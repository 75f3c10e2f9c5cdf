-- Words that one blank joins, read again.
use Rattle.std.proofs.Common.{◌≡◌, ℕ, ◌-◌, ◌<◌, ◌≤◌, Bool, true, false, List, [], ◌∷◌, ◌++◌, length, get_or, refl, ap, ◌∙◌, arith}
use Rattle.std.specs.Prelude.{filter, nat_lt, ⊤}
use Rattle.std.specs.List.{All, slice_split}
use Rattle.std.proofs.lemmas.Bool.{ltb-true, ne_eqb}
use Rattle.std.proofs.lemmas.List.Splits.{slice_split_none, slice_split_at}
use Rattle.std.proofs.lemmas.List.Elements.{All-nil, All-cons, All-append, All-weaker}
use Rattle.pl_model.specs.Words.{is_blank, is_nonempty, words, without_return}
use Rattle.pl_model.specs.Said.{spaced}

-- some bytes, each behind the blank in the order of bytes
pub record IsWord (w : List ℕ) : Type 0 where
  pub some : 0 < length w
  pub black : All (λ c. 32 < c) w

abbrev pub AreWords : List (List ℕ) → Type 0
AreWords [] = ⊤
AreWords (w ∷ ws) = IsWord w × AreWords ws

-- ---- the words of a line

no_blank : (c : ℕ) → 32 < c → is_blank c ≡ false
no_blank c lt = rw (ne_eqb c 32 (λ e. omega arith), ne_eqb c 9 (λ e. omega arith)) refl

without_blanks : (w : List ℕ) → IsWord w → All (λ c. is_blank c ≡ false) w
without_blanks w is = All-weaker (λ c. 32 < c) (λ c. is_blank c ≡ false) no_blank w is.black

kept : (w : List ℕ) (ws : List (List ℕ)) → 0 < length w → filter is_nonempty (w ∷ ws) ≡ w ∷ filter is_nonempty ws
kept [] ws lt = absurd (omega arith)
kept (c ∷ w) ws lt = refl

one_word : (w : List ℕ) → IsWord w → words w ≡ w ∷ []
unfolding words
one_word w is = ap (filter is_nonempty) (slice_split_none is_blank w (without_blanks w is)) ∙ kept w [] is.some

first_word : (w rest : List ℕ) → IsWord w → words (w ++ 32 ∷ rest) ≡ w ∷ words rest
unfolding words
first_word w rest is =
    ap (filter is_nonempty) (slice_split_at is_blank w 32 rest (without_blanks w is) refl) ∙ kept w (slice_split is_blank rest) is.some

words_of_spaced : (ws : List (List ℕ)) → AreWords ws → words (spaced ws) ≡ ws
unfolding words
words_of_spaced [] are = refl
words_of_spaced (w ∷ []) are = one_word w are.0
words_of_spaced (w ∷ v ∷ ws) are = first_word w (spaced (v ∷ ws)) are.0 ∙ ap (λ rest. w ∷ rest) (words_of_spaced (v ∷ ws) are.1)

-- ---- its bytes

printed : (w : List ℕ) → IsWord w → All (λ c. 32 ≤ c) w
printed w is = All-weaker (λ c. 32 < c) (λ c. 32 ≤ c) (λ c lt. omega arith) w is.black

pub spaced_printed : (ws : List (List ℕ)) → AreWords ws → All (λ c. 32 ≤ c) (spaced ws)
spaced_printed [] are = All-nil (λ c. 32 ≤ c)
spaced_printed (w ∷ []) are = printed w are.0
spaced_printed (w ∷ v ∷ ws) are =
    All-append (λ c. 32 ≤ c) w (32 ∷ spaced (v ∷ ws)) (printed w are.0) (All-cons (λ c. 32 ≤ c) 32 (spaced (v ∷ ws)) (omega arith) (spaced_printed (v ∷ ws) are.1))

no_return : (text : List ℕ) (b : Bool) → All (λ c. 32 ≤ c) text → nat_lt 0 (length text) ≡ b → without_return text ≡ text
unfolding without_return
no_return text false all e = rw e refl
no_return text true all e =
    let some : 0 < length text = ltb-true 0 (length text) e in
    let last : 32 ≤ get_or text (length text - 1) 0 = all (length text - 1) 0 (omega arith) in
    rw (e, ne_eqb (get_or text (length text - 1) 0) 13 (λ same. omega arith)) refl

pub words_of_line : (ws : List (List ℕ)) → AreWords ws → words (without_return (spaced ws)) ≡ ws
words_of_line ws are = ap words (no_return (spaced ws) _ (spaced_printed ws are) refl) ∙ words_of_spaced ws are

pub one_line : (ws : List (List ℕ)) → AreWords ws → All (λ c. c ≡ 10 → ⊥) (spaced ws)
one_line ws are = All-weaker (λ c. 32 ≤ c) (λ c. c ≡ 10 → ⊥) (λ c le e. omega arith) (spaced ws) (spaced_printed ws are)
