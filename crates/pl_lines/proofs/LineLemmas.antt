-- The lines of a script, taken from its front.
use Rattle.std.proofs.Common.{◌≡◌, ℕ, suc, ◌+◌, ◌<◌, ◌≤◌, Bool, true, false, not, cond, eqb, List, [], ◌∷◌, length, take, drop, refl, ap, ◌∙◌, sym, arith, one-add}
use Rattle.std.specs.Prelude.{position, Some, None}
use Rattle.std.specs.List.{position_or_len}
use Rattle.pl_model.specs.Script.{lines, onto_first}
use Rattle.pl_words.proofs.Places.{place_of, nowhere}

abbrev is_feed : ℕ → Bool
is_feed c = eqb c 10

abbrev place : List ℕ → ℕ
place cs = position_or_len is_feed cs

pub lines-nil : lines [] ≡ []
unfolding lines
lines-nil = refl

first_more : (c : ℕ) (cs : List ℕ) (b : Bool) → eqb c 10 ≡ b → (place cs < length cs → lines cs ≡ take (place cs) cs ∷ lines (drop (place cs + 1) cs))
    → cond (not b) (1 + place cs) 0 < suc (length cs)
    → cond b ([] ∷ lines cs) (onto_first c (lines cs)) ≡ take (cond (not b) (1 + place cs) 0) (c ∷ cs) ∷ lines (drop (cond (not b) (1 + place cs) 0 + 1) (c ∷ cs))
first_more c cs true e so_far lt = refl
first_more c cs false e so_far lt =
    let rest : lines cs ≡ take (place cs) cs ∷ lines (drop (place cs + 1) cs) = so_far (omega arith) in
    let n : (1 + place cs) + 1 ≡ suc (place cs + 1) = omega arith in
    rw (n, one-add, rest) refl

first : (cs : List ℕ) → place cs < length cs → lines cs ≡ take (place cs) cs ∷ lines (drop (place cs + 1) cs)
unfolding lines
first [] lt = absurd (omega arith)
first (c ∷ cs) lt = first_more c cs (eqb c 10) refl (first cs) lt

last_more : (c : ℕ) (cs : List ℕ) (b : Bool) → eqb c 10 ≡ b → (0 < length cs → length cs ≤ place cs → lines cs ≡ cs ∷ [])
    → suc (length cs) ≤ cond (not b) (1 + place cs) 0 → cond b ([] ∷ lines cs) (onto_first c (lines cs)) ≡ (c ∷ cs) ∷ []
unfolding lines
last_more c cs true e so_far le = absurd (omega arith)
last_more c [] false e so_far le = refl
last_more c (d ∷ cs) false e so_far le =
    let rest : lines (d ∷ cs) ≡ (d ∷ cs) ∷ [] = so_far (omega arith) (omega arith) in
    rw rest refl

last : (cs : List ℕ) → 0 < length cs → length cs ≤ place cs → lines cs ≡ cs ∷ []
unfolding lines
last [] lt le = absurd (omega arith)
last (c ∷ cs) lt le = last_more c cs (eqb c 10) refl (last cs) le

-- a line that a line feed ends
pub line_before_feed : (cs : List ℕ) (n : ℕ) → position is_feed cs ≡ Some n → lines cs ≡ take n cs ∷ lines (drop (n + 1) cs)
line_before_feed cs n found = let at = place_of is_feed cs n found in rw at.0 at (first cs at.1)

-- the last line, which no line feed ends
pub line_to_end : (cs : List ℕ) → 0 < length cs → position is_feed cs ≡ None → lines cs ≡ cs ∷ lines []
line_to_end cs lt none = last cs lt (nowhere is_feed cs none) ∙ ap (λ ls. cs ∷ ls) (sym lines-nil)

-- nothing has no lines
pub lines-empty : (cs : List ℕ) → length cs ≡ 0 → lines cs ≡ []
lines-empty [] e = lines-nil
lines-empty (c ∷ cs) e = absurd (omega arith)

length-onto_first : (c : ℕ) (ls : List (List ℕ)) → length (onto_first c ls) ≤ length ls + 1
length-onto_first c [] = omega arith
length-onto_first c (l ∷ ls) = omega arith

length_more : (c : ℕ) (cs : List ℕ) (b : Bool) → length (lines cs) ≤ length cs → length (cond b ([] ∷ lines cs) (onto_first c (lines cs))) ≤ suc (length cs)
length_more c cs true h = omega arith
length_more c cs false h = omega (arith, length-onto_first c (lines cs))

-- there are no more lines than bytes
pub length-lines : (cs : List ℕ) → length (lines cs) ≤ length cs
unfolding lines
length-lines [] = omega arith
length-lines (c ∷ cs) = length_more c cs (eqb c 10) (length-lines cs)
