-- Bytes as digits, read again.
use Rattle.std.proofs.Common.{◌≡◌, ℕ, ◌+◌, ◌*◌, ◌/◌, ◌%◌, ◌<◌, ◌≤◌, true, List, [], ◌∷◌, length, refl, ap, ◌∙◌, arith}
use Rattle.std.specs.Prelude.{Option, Some, nat_le, ◌&&◌, slice_index}
use Rattle.std.specs.List.{All, list_all}
use Rattle.std.proofs.lemmas.Bool.{leb-true}
use Rattle.std.proofs.lemmas.List.Elements.{All-nil, All-cons, All-head, All-tail}
use Rattle.pl_model.specs.Numbers.{numbers_from}
use Rattle.pl_model.specs.Words.{◌>>=◌, hex_digit, hex_byte, hex_bytes}
use Rattle.pl_model.specs.Shown.{lower_digits, hex_text}
use Rattle.pl_model.specs.Said.{IsByte}
use Rattle.pl_model.proofs.saying.Below.{both, says, said, passes_below}

-- ---- a digit

-- the digit of a number below 16
abbrev pub glyph : ℕ → ℕ
glyph d = slice_index lower_digits d

abbrev pub IsGlyph : ℕ → Type 0
IsGlyph c = (48 ≤ c) × (c ≤ 102)

digits_say : list_all (λ d. says (hex_digit (glyph d)) d) (numbers_from 16 0) ≡ true
unfolding numbers_from
digits_say = refl

digits_range : list_all (λ d. nat_le 48 (glyph d) && nat_le (glyph d) 102) (numbers_from 16 0) ≡ true
unfolding numbers_from
digits_range = refl

digit_back : (d : ℕ) → d < 16 → hex_digit (glyph d) ≡ Some d
digit_back d lt = said (hex_digit (glyph d)) d (passes_below (λ k. says (hex_digit (glyph k)) k) 16 digits_say d lt)

glyph_range : (d : ℕ) → d < 16 → IsGlyph (glyph d)
glyph_range d lt =
    let parts = both (nat_le 48 (glyph d)) (nat_le (glyph d) 102) (passes_below (λ k. nat_le 48 (glyph k) && nat_le (glyph k) 102) 16 digits_range d lt) in
    (leb-true 48 (glyph d) parts.0, leb-true (glyph d) 102 parts.1)

-- ---- a byte

both_digits : (high low : Option ℕ) (h l : ℕ) → high ≡ Some h → low ≡ Some l → (high >>= λ h. low >>= λ l. Some (h * 16 + l)) ≡ Some (h * 16 + l)
both_digits high low h l p q = rw (p, q) refl

pub byte_back : (b : ℕ) → IsByte b → hex_byte (glyph (b / 16)) (glyph (b % 16)) ≡ Some b
byte_back b lt =
    let whole : b / 16 * 16 + b % 16 ≡ b = omega arith in
    both_digits (hex_digit (glyph (b / 16))) (hex_digit (glyph (b % 16))) (b / 16) (b % 16) (digit_back (b / 16) (omega arith)) (digit_back (b % 16) (omega arith))
    ∙ ap (λ x. Some x) whole

pub next_byte : (first : Option ℕ) (rest : Option (List ℕ)) (b : ℕ) (bs : List ℕ) → first ≡ Some b → rest ≡ Some bs → (first >>= λ b. rest >>= λ bs. Some (b ∷ bs)) ≡ Some (b ∷ bs)
next_byte first rest b bs p q = rw (p, q) refl

-- ---- all of them

pub hex_back : (bytes : List ℕ) → All IsByte bytes → hex_bytes (hex_text bytes) ≡ Some bytes
unfolding hex_bytes hex_text
hex_back [] all = refl
hex_back (b ∷ bs) all =
    next_byte (hex_byte (glyph (b / 16)) (glyph (b % 16))) (hex_bytes (hex_text bs)) b bs (byte_back b (All-head IsByte b bs all)) (hex_back bs (All-tail IsByte b bs all))

pub hex_glyphs : (bytes : List ℕ) → All IsByte bytes → All IsGlyph (hex_text bytes)
unfolding hex_text
hex_glyphs [] all = All-nil IsGlyph
hex_glyphs (b ∷ bs) all =
    let byte : IsByte b = All-head IsByte b bs all in
    All-cons IsGlyph (glyph (b / 16)) (glyph (b % 16) ∷ hex_text bs) (glyph_range (b / 16) (omega arith))
    (All-cons IsGlyph (glyph (b % 16)) (hex_text bs) (glyph_range (b % 16) (omega arith)) (hex_glyphs bs (All-tail IsByte b bs all)))

pub hex_some : (bytes : List ℕ) → 0 < length bytes → 0 < length (hex_text bytes)
unfolding hex_text
hex_some [] some = absurd (omega arith)
hex_some (b ∷ bs) some = omega arith
