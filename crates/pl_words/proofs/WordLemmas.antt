-- The words of a line, taken from its front.
use Rattle.std.proofs.Common.{◌≡◌, ℕ, ◌+◌, ◌<◌, ◌≤◌, Bool, true, false, not, cond, List, [], ◌∷◌, length, take, drop, get_or, refl, sym, ap, ◌∙◌, arith, one-add}
use Rattle.std.specs.Prelude.{filter, position, Some, None}
use Rattle.std.specs.List.{position_or_len, slice_split, All}
use Rattle.std.proofs.lemmas.List.Splits.{slice_split-cons_yes, slice_split_none, slice_split_first}
use Rattle.std.proofs.lemmas.List.Sums.{fails_before_first, passes_at_first}
use Rattle.std.proofs.lemmas.List.{drop_all, drop_more, length-take}
use Rattle.std.proofs.lemmas.List.Elements.{All-from_get_or}
use Rattle.pl_words.proofs.Places.{place_of, nowhere}
use Rattle.pl_model.specs.Words.{words, is_blank, is_nonempty}

abbrev is_black : ℕ → Bool
is_black c = not (is_blank c)

-- ---- blanks

words-nil : words [] ≡ []
unfolding words
words-nil = refl

-- a blank in front changes nothing
words-cons_blank : (c : ℕ) (cs : List ℕ) → is_blank c ≡ true → words (c ∷ cs) ≡ words cs
unfolding words
words-cons_blank c cs h = ap (filter is_nonempty) (slice_split-cons_yes is_blank c cs h)

skip : (c : ℕ) (cs : List ℕ) (b : Bool) → is_blank c ≡ b → words (drop (position_or_len is_black cs) cs) ≡ words cs → words (drop (cond (not (not b)) (1 + position_or_len is_black cs) 0) (c ∷ cs)) ≡ words (c ∷ cs)
skip c cs true h so_far = rw one-add (so_far ∙ sym (words-cons_blank c cs h))
skip c cs false h so_far = refl

words_after_blanks : (line : List ℕ) → words (drop (position_or_len is_black line) line) ≡ words line
words_after_blanks [] = refl
words_after_blanks (c ∷ cs) = skip c cs (is_blank c) refl (words_after_blanks cs)

-- ---- the word at the front

kept : (w : List ℕ) (ws : List (List ℕ)) → 0 < length w → filter is_nonempty (w ∷ ws) ≡ w ∷ filter is_nonempty ws
kept [] ws lt = absurd (omega arith)
kept (c ∷ w) ws lt = refl

-- a word that the line's end ends
word_to_end : (line : List ℕ) → 0 < length line → length line ≤ position_or_len is_blank line → words line ≡ line ∷ words []
unfolding words
word_to_end line lt le =
    let each : All (λ c. is_blank c ≡ false) line = All-from_get_or (λ c. is_blank c ≡ false) line 0 (λ i below. fails_before_first is_blank line i 0 (omega arith)) in
    rw (slice_split_none is_blank line each) (kept line [] lt)

-- a word that a blank ends
word_to_blank : (line : List ℕ) → 0 < position_or_len is_blank line → position_or_len is_blank line < length line
    → words line ≡ take (position_or_len is_blank line) line ∷ words (drop (position_or_len is_blank line) line)
unfolding words
word_to_blank line lt below =
    let n = position_or_len is_blank line in
    let split : slice_split is_blank line ≡ take n line ∷ slice_split is_blank (drop (n + 1) line) = slice_split_first is_blank line 0 below in
    let rest : drop n line ≡ get_or line n 0 ∷ drop (n + 1) line = drop_more line n 0 below in
    let blank : slice_split is_blank (get_or line n 0 ∷ drop (n + 1) line) ≡ [] ∷ slice_split is_blank (drop (n + 1) line) = slice_split-cons_yes is_blank (get_or line n 0) (drop (n + 1) line) (passes_at_first is_blank line 0 below) in
    rw (split, rest, blank) (kept (take n line) (slice_split is_blank (drop (n + 1) line)) (omega (arith, length-take n line)))

black_first : (c : ℕ) (cs : List ℕ) (b : Bool) → not (is_blank c) ≡ b → b ≡ true → 0 < cond b (1 + position_or_len is_blank cs) 0
black_first c cs true e h = omega arith
black_first c cs false e h = absurd cc

-- behind the blanks stands a word
starts : (line : List ℕ) (s : ℕ) → position is_black line ≡ Some s → (words (drop s line) ≡ words line) × (0 < position_or_len is_blank (drop s line)) × (0 < length (drop s line))
starts line s found =
    let at = place_of is_black line s found in
    let below : s < length line = omega (arith, at.0, at.1) in
    let rest : drop s line ≡ get_or line s 0 ∷ drop (s + 1) line = drop_more line s 0 below in
    let black : is_black (get_or line s 0) ≡ true = rw at.0 at (passes_at_first is_black line 0 at.1) in
    (rw at.0 at (words_after_blanks line), rw rest (black_first (get_or line s 0) (drop (s + 1) line) (not (is_blank (get_or line s 0))) refl black), rw rest (omega arith))

-- ---- what `next_word` finds

pub no_word : (line : List ℕ) → position is_black line ≡ None → words line ≡ []
no_word line none =
    let all : drop (position_or_len is_black line) line ≡ [] = drop_all (position_or_len is_black line) line (nowhere is_black line none) in
    sym (words_after_blanks line) ∙ ap words all ∙ words-nil

pub last_word : (line : List ℕ) (s : ℕ) → position is_black line ≡ Some s → position is_blank (drop s line) ≡ None → words line ≡ drop s line ∷ words []
last_word line s found none =
    let start = starts line s found in
    sym start.0 ∙ word_to_end (drop s line) start.2 (nowhere is_blank (drop s line) none)

pub word_then_blank : (line : List ℕ) (s n : ℕ) → position is_black line ≡ Some s → position is_blank (drop s line) ≡ Some n → words line ≡ take n (drop s line) ∷ words (drop n (drop s line))
word_then_blank line s n found at =
    let start = starts line s found in
    let place = place_of is_blank (drop s line) n at in
    sym start.0 ∙ rw place.0 at (word_to_blank (drop s line) start.1 place.1)
