-- What `hex` encodes is the text of the bytes.
use Rattle.std.proofs.Common.{◌≡◌, ℕ, ◌<◌, Bool, true, false, List, [], ◌∷◌, ◌++◌, length, slice_index, refl, arith}
use Rattle.std.specs.Prelude.{codes, nat_lt}
use Rattle.std.specs.List.{list_all}
use Rattle.std.proofs.lemmas.Bool.{ltb-true}
use Rattle.std.proofs.lemmas.List.Folds.{list_all_at}
use Rattle.std.specs.Str.{IsUtf8}
use Rattle.std.proofs.lemmas.Str.{IsUtf8-from_ascii}
use Rattle.std.proofs.lemmas.Str.Ascii.{IsAscii-from_reads}
use Rattle.hex.specs.Hex.{encode_with, encode_lower}
use Rattle.hex.proofs.HexLemmas.{IsAscii-encode_with}
use Rattle.pl_model.specs.declared.script.Version.{Version}
use Rattle.pl_model.specs.declared.script.Version.TheVariants.{One, Two}
use Rattle.pl_model.specs.Shown.{lower_digits, hex_text, bytes_text, runs_text}

pub hex_text_is : (bytes : List ℕ) → hex_text bytes ≡ encode_lower bytes
unfolding hex_text encode_with
hex_text_is [] = refl
hex_text_is (b ∷ bytes) = rw (hex_text_is bytes) refl

-- the digits of bytes with others behind them
pub hex_text_both : (xs ys : List ℕ) → hex_text (xs ++ ys) ≡ hex_text xs ++ hex_text ys
unfolding hex_text
hex_text_both [] ys = refl
hex_text_both (x ∷ xs) ys = rw (hex_text_both xs ys) refl

pub no_bytes : (version : Version) (bytes : List ℕ) → length bytes ≡ 0 → bytes_text version bytes ≡ codes "-"
unfolding bytes_text
no_bytes version [] e = refl
no_bytes version (b ∷ bytes) e = absurd (omega arith)

pub some_digits : (bytes : List ℕ) → 0 < length bytes → bytes_text One bytes ≡ hex_text bytes
unfolding bytes_text
some_digits [] lt = absurd (omega arith)
some_digits (b ∷ bytes) lt = refl

pub some_runs : (bytes : List ℕ) → 0 < length bytes → bytes_text Two bytes ≡ runs_text bytes
unfolding bytes_text
some_runs [] lt = absurd (omega arith)
some_runs (b ∷ bytes) lt = refl

-- a digit is a character of one byte
pub digit_ascii : (n : ℕ) → n < 16 → slice_index lower_digits n < 128
digit_ascii n lt = by (nat_lt (slice_index lower_digits n) 128) refl
  where
    all : list_all (λ c. nat_lt c 128) lower_digits ≡ true
    all = refl

    by : (b : Bool) → nat_lt (slice_index lower_digits n) 128 ≡ b → slice_index lower_digits n < 128
    by true e = ltb-true (slice_index lower_digits n) 128 e
    by false e = let none : list_all (λ c. nat_lt c 128) lower_digits ≡ false = list_all_at (λ c. nat_lt c 128) lower_digits n 0 lt e in absurd cc

-- what is encoded is text
pub encoded_is_text : (bytes : List ℕ) → IsUtf8 (encode_lower bytes)
encoded_is_text bytes =
    IsUtf8-from_ascii (encode_lower bytes) (IsAscii-encode_with lower_digits bytes (IsAscii-from_reads lower_digits 16 (omega arith) digit_ascii))
