-- The bytes of a name, taken from the front of a word.
use Rattle.std.proofs.Common.{◌≡◌, ℕ, ◌<◌, Bool, true, false, cond, List, [], ◌∷◌, ◌++◌, length, Option, Some, None, refl, ap, ◌∙◌, arith}
use Rattle.std.specs.Prelude.{is_some, IsSomeAnd, Err, ◌==◌}
use Rattle.std.proofs.lemmas.List.{append-nil, length-append}
use Rattle.pl_model.specs.Words.{◌>>=◌, is_plain, hex_byte, name_bytes}
use Rattle.pl_words.specs.declared.fault.LineFault.{LineFault}
use Rattle.pl_words.specs.declared.fault.LineFault.TheVariants.{Bad, NoMemory}
use Rattle.pl_words.specs.Parsed.{Gives, GivesTaking, BytesTake, first_of_name}
use Rattle.pl_words.proofs.Behind.{behind, one_more}

-- a byte, and those behind it
abbrev then_rest : Option (ℕ × List ℕ) → Option (List ℕ)
then_rest first = first >>= λ p. name_bytes p.1 >>= λ bytes. Some (p.0 ∷ bytes)

plain_first : (plain : Bool) (c : ℕ) (rest : List ℕ) → cond plain (name_bytes rest >>= λ bytes. Some (c ∷ bytes)) None ≡ then_rest (cond plain (Some (c, rest)) None)
plain_first true c rest = refl
plain_first false c rest = refl

escaped_first : (byte : Option ℕ) (rest : List ℕ) → (byte >>= λ b. name_bytes rest >>= λ bytes. Some (b ∷ bytes)) ≡ then_rest (byte >>= λ b. Some (b, rest))
escaped_first None rest = refl
escaped_first (Some b) rest = refl

either_first : (percent plain : Bool) (byte : Option ℕ) (c : ℕ) (tail rest : List ℕ)
    → cond percent (byte >>= λ b. name_bytes rest >>= λ bytes. Some (b ∷ bytes)) (cond plain (name_bytes tail >>= λ bytes. Some (c ∷ bytes)) None)
    ≡ then_rest (cond percent (byte >>= λ b. Some (b, rest)) (cond plain (Some (c, tail)) None))
either_first true plain byte c tail rest = escaped_first byte rest
either_first false plain byte c tail rest = plain_first plain c tail

by_first : (word : List ℕ) → 0 < length word → name_bytes word ≡ then_rest (first_of_name word)
unfolding name_bytes
by_first [] lt = absurd (omega arith)
by_first (c ∷ []) lt = plain_first (is_plain c) c []
by_first (c ∷ d ∷ []) lt = plain_first (is_plain c) c (d ∷ [])
by_first (c ∷ high ∷ low ∷ rest) lt = either_first (c == 37) (is_plain c) (hex_byte high low) c (high ∷ low ∷ rest) rest

pub name_bytes-nil : (word : List ℕ) → length word ≡ 0 → name_bytes word ≡ Some []
unfolding name_bytes
name_bytes-nil [] e = refl
name_bytes-nil (c ∷ word) e = absurd (omega arith)

-- What the word says, where these bytes came of its front and this is left.
module _ (word before left : List ℕ) (so_far : name_bytes word ≡ behind before (name_bytes left)) where
  pub name_more : (b : ℕ) (rest : List ℕ) → 0 < length left → first_of_name left ≡ Some (b, rest) → name_bytes word ≡ behind (before ++ b ∷ []) (name_bytes rest)
  name_more b rest lt first = so_far ∙ ap (behind before) (by_first left lt ∙ ap then_rest first) ∙ one_more before b (name_bytes rest)

  pub name_done : length left ≡ 0 → name_bytes word ≡ Some before
  name_done empty = so_far ∙ ap (behind before) (name_bytes-nil left empty) ∙ ap (λ bs. Some bs) (append-nil before)

  pub name_fails : (e : LineFault) → 0 < length left → Gives (Err e) (first_of_name left) → GivesTaking BytesTake (Err e) (name_bytes word)
  name_fails Bad lt none = so_far ∙ ap (behind before) (by_first left lt ∙ ap then_rest none)
  name_fails NoMemory lt none = absurd none

-- A byte that finds no place: the rest of the word says whether it is a name.
module _ (word before rest : List ℕ) (b : ℕ) (so_far : name_bytes word ≡ behind (before ++ b ∷ []) (name_bytes rest)) where
  pub name_wants : is_some (name_bytes rest) ≡ true → IsSomeAnd (name_bytes word) BytesTake
  name_wants some = rw so_far (takes (name_bytes rest) some)
    where
      takes : (said : Option (List ℕ)) → is_some said ≡ true → IsSomeAnd (behind (before ++ b ∷ []) said) BytesTake
      takes None some = absurd cc
      takes (Some bytes) some = omega (arith, length-append (before ++ b ∷ []) bytes, length-append before (b ∷ []))

  pub name_none : is_some (name_bytes rest) ≡ false → name_bytes word ≡ None
  name_none none = so_far ∙ nothing (name_bytes rest) none
    where
      nothing : (said : Option (List ℕ)) → is_some said ≡ false → behind (before ++ b ∷ []) said ≡ None
      nothing None none = refl
      nothing (Some bytes) none = absurd cc

-- whether the word is a name, by what its first byte leaves
pub is_name_more : (left rest : List ℕ) (b : ℕ) → 0 < length left → first_of_name left ≡ Some (b, rest) → is_some (name_bytes left) ≡ is_some (name_bytes rest)
is_name_more left rest b lt first = ap is_some (by_first left lt ∙ ap then_rest first) ∙ as_some (name_bytes rest)
  where
    as_some : (said : Option (List ℕ)) → is_some (said >>= λ bytes. Some (b ∷ bytes)) ≡ is_some said
    as_some None = refl
    as_some (Some bytes) = refl

pub is_no_name : (left : List ℕ) (e : LineFault) → 0 < length left → Gives (Err e) (first_of_name left) → is_some (name_bytes left) ≡ false
is_no_name left Bad lt none = ap is_some (by_first left lt ∙ ap then_rest none)
is_no_name left NoMemory lt none = absurd none
