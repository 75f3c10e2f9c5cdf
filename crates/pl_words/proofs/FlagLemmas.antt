-- The names of flags, taken from the front of a word.
use Rattle.std.proofs.Common.{◌≡◌, ℕ, ◌+◌, false, List, [], ◌∷◌, take, drop, Option, Some, None, refl, ap, ◌∙◌, arith}
use Rattle.std.specs.Prelude.{position, bit_or, Err}
use Rattle.std.specs.List.{slice_split}
use Rattle.std.proofs.lemmas.List.Splits.{slice_split_none, slice_split_first}
use Rattle.std.proofs.lemmas.List.Sums.{fails_before_first}
use Rattle.std.proofs.lemmas.List.Elements.{All-from_get_or}
use Rattle.pl_model.specs.Words.{◌>>=◌, is_comma, with_flags}
use Rattle.pl_words.specs.declared.fault.LineFault.{LineFault}
use Rattle.pl_words.specs.declared.fault.LineFault.TheVariants.{Bad, NoMemory}
use Rattle.pl_words.specs.Parsed.{Gives}
use Rattle.pl_words.proofs.Places.{place_of, nowhere}

-- the flags of these names beside some, in order
abbrev pub flags_in : (List ℕ → Option ℕ) → ℕ → List ℕ → Option ℕ
flags_in flag_of bits names = with_flags flag_of bits (slice_split is_comma names)

module _ (flag_of : List ℕ → Option ℕ) (bits : ℕ) (names : List ℕ) where
  first : (name : List ℕ) (more : List (List ℕ)) → with_flags flag_of bits (name ∷ more) ≡ (flag_of name >>= λ bit. with_flags flag_of (bit_or bits bit) more)
  unfolding with_flags
  first name more = refl

  -- a comma ends the first name
  before_comma : (n : ℕ) → position is_comma names ≡ Some n → flags_in flag_of bits names ≡ (flag_of (take n names) >>= λ bit. flags_in flag_of (bit_or bits bit) (drop (n + 1) names))
  before_comma n found =
      let at = place_of is_comma names n found in
      let parts : slice_split is_comma names ≡ take n names ∷ slice_split is_comma (drop (n + 1) names) = rw at.0 at (slice_split_first is_comma names 0 at.1) in
      ap (with_flags flag_of bits) parts ∙ first (take n names) (slice_split is_comma (drop (n + 1) names))

  -- the last name
  to_end : position is_comma names ≡ None → flags_in flag_of bits names ≡ (flag_of names >>= λ bit. Some (bit_or bits bit))
  unfolding with_flags
  to_end none =
      let le = nowhere is_comma names none in
      let parts : slice_split is_comma names ≡ names ∷ [] = slice_split_none is_comma names (All-from_get_or (λ c. is_comma c ≡ false) names 0 (λ i below. fails_before_first is_comma names i 0 (omega (arith, le)))) in
      ap (with_flags flag_of bits) parts

  -- What the words say of all names, where the loop has come to these names with these flags.
  module _ (all : Option ℕ) (so_far : all ≡ flags_in flag_of bits names) where
    pub flags_more : (bit n : ℕ) (rest : List ℕ) → position is_comma names ≡ Some n → flag_of (take n names) ≡ Some bit → rest ≡ drop (n + 1) names
        → all ≡ flags_in flag_of (bit_or bits bit) rest
    flags_more bit n rest found is behind = so_far ∙ before_comma n found ∙ rw (is, behind) refl

    pub fails_more : (e : LineFault) (n : ℕ) → position is_comma names ≡ Some n → Gives (Err e) (flag_of (take n names)) → Gives (Err e) all
    fails_more Bad n found is = so_far ∙ before_comma n found ∙ ap (λ o. o >>= λ bit. flags_in flag_of (bit_or bits bit) (drop (n + 1) names)) is
    fails_more NoMemory n found is = absurd is

    pub flags_last : (bit : ℕ) → position is_comma names ≡ None → flag_of names ≡ Some bit → all ≡ Some (bit_or bits bit)
    flags_last bit none is = so_far ∙ to_end none ∙ ap (λ o. o >>= λ bit. Some (bit_or bits bit)) is

    pub fails_last : (e : LineFault) → position is_comma names ≡ None → Gives (Err e) (flag_of names) → Gives (Err e) all
    fails_last Bad none is = so_far ∙ to_end none ∙ ap (λ o. o >>= λ bit. Some (bit_or bits bit)) is
    fails_last NoMemory none is = absurd is
