-- Why the pieces of a word say no bytes, from the front of the word.
use Rattle.std.proofs.Common.{◌≡◌, ℕ, ◌+◌, Bool, true, false, not, cond, List, [], ◌∷◌, length, take, drop, Option, Some, None, refl, sym, ap, ◌∙◌, arith}
use Rattle.std.specs.Prelude.{position, is_some}
use Rattle.std.specs.List.{slice_split}
use Rattle.std.specs.Option.{option_map, is_none}
use Rattle.std.proofs.lemmas.List.Splits.{slice_split_none, slice_split_first}
use Rattle.std.proofs.lemmas.List.Sums.{fails_before_first}
use Rattle.std.proofs.lemmas.List.Elements.{All-from_get_or}
use Rattle.pl_model.specs.Words.{is_plus, digits_or_repeated}
use Rattle.pl_words.specs.Parsed.{one_write}
use Rattle.pl_words.specs.declared.reasons.Reason.{Reason}
use Rattle.pl_words.specs.declared.reasons.Reason.TheVariants.{TooManyBytes}
use Rattle.pl_words.specs.Reasons.{piece_reason, pieces_reason}
use Rattle.pl_words.proofs.Places.{place_of, nowhere}

-- why the pieces in front of a word say none
abbrev pub reason_in : List ℕ → Reason
reason_in word = pieces_reason (slice_split is_plus word)

-- whether the count of a piece's bytes is one
abbrev said : List ℕ → Bool
said piece = is_some (one_write (digits_or_repeated piece))

first : (piece : List ℕ) (more : List (List ℕ)) → pieces_reason (piece ∷ more) ≡ cond (said piece) (pieces_reason more) (piece_reason piece)
unfolding pieces_reason
first piece more = refl

counted : (o : Option (List ℕ)) → is_none (option_map length o) ≡ not (is_some o)
counted None = refl
counted (Some bytes) = refl

-- what is counted of a piece tells whether it says bytes
module _ (piece : List ℕ) (len : Option ℕ) (is : len ≡ option_map length (one_write (digits_or_repeated piece))) where
  says_none : is_none len ≡ true → said piece ≡ false
  says_none none = by (said piece) (sym (ap is_none is ∙ counted (one_write (digits_or_repeated piece))) ∙ none)
    where
      by : (b : Bool) → not b ≡ true → b ≡ false
      by true h = absurd cc
      by false h = refl

  says_some : is_none len ≡ false → said piece ≡ true
  says_some none = by (said piece) (sym (ap is_none is ∙ counted (one_write (digits_or_repeated piece))) ∙ none)
    where
      by : (b : Bool) → not b ≡ false → b ≡ true
      by true h = refl
      by false h = absurd cc

-- a `+` ends the first piece
before_plus : (rest : List ℕ) (n : ℕ) → position is_plus rest ≡ Some n → reason_in rest ≡ cond (said (take n rest)) (reason_in (drop (n + 1) rest)) (piece_reason (take n rest))
before_plus rest n found =
    let at = place_of is_plus rest n found in
    let parts : slice_split is_plus rest ≡ take n rest ∷ slice_split is_plus (drop (n + 1) rest) = rw at.0 at (slice_split_first is_plus rest 0 at.1) in
    ap pieces_reason parts ∙ first (take n rest) (slice_split is_plus (drop (n + 1) rest))

-- the last piece
to_end : (rest : List ℕ) → position is_plus rest ≡ None → reason_in rest ≡ cond (said rest) TooManyBytes (piece_reason rest)
unfolding pieces_reason
to_end rest none =
    let le = nowhere is_plus rest none in
    let parts : slice_split is_plus rest ≡ rest ∷ [] = slice_split_none is_plus rest (All-from_get_or (λ c. is_plus c ≡ false) rest 0 (λ i below. fails_before_first is_plus rest i 0 (omega (arith, le)))) in
    ap pieces_reason parts

module _ (word rest : List ℕ) (so_far : reason_in word ≡ reason_in rest) where
  module _ (n : ℕ) (found : position is_plus rest ≡ Some n) (len : Option ℕ) (is : len ≡ option_map length (one_write (digits_or_repeated (take n rest)))) where
    pub bad_piece : is_none len ≡ true → reason_in word ≡ piece_reason (take n rest)
    bad_piece none = so_far ∙ before_plus rest n found ∙ rw (says_none (take n rest) len is none) refl

    pub good_piece : is_none len ≡ false → reason_in word ≡ reason_in (drop (n + 1) rest)
    good_piece none = so_far ∙ before_plus rest n found ∙ rw (says_some (take n rest) len is none) refl

  module _ (nowhere-is : position is_plus rest ≡ None) (len : Option ℕ) (is : len ≡ option_map length (one_write (digits_or_repeated rest))) where
    pub bad_last : is_none len ≡ true → reason_in word ≡ piece_reason rest
    bad_last none = so_far ∙ to_end rest nowhere-is ∙ rw (says_none rest len is none) refl

    pub good_last : is_none len ≡ false → reason_in word ≡ TooManyBytes
    good_last none = so_far ∙ to_end rest nowhere-is ∙ rw (says_some rest len is none) refl
