-- Numbers in words, read again.
use Rattle.std.proofs.Common.{◌≡◌, ℕ, suc, ◌+◌, ◌^◌, ◌<◌, ◌≤◌, true, List, [], ◌∷◌, length, refl, arith, w32, w64, SFits}
use Rattle.std.specs.Prelude.{ℤ, pos, negsuc, Some}
use Rattle.std.specs.List.{All, list_all}
use Rattle.std.specs.Fmt.{decimal, signed_decimal}
use Rattle.std.specs.Str.Parse.{AllDigits}
use Rattle.std.proofs.lemmas.Bool.{ne_eqb, le-leb, lt-ltb}
use Rattle.std.proofs.lemmas.Fmt.{decimal_is_IsNumeral, length-decimal-le}
use Rattle.std.proofs.lemmas.Str.Parse.{digit_from_value}
use Rattle.std.proofs.lemmas.List.Elements.{All-nil, All-cons, All-weaker}
use Rattle.pl_model.specs.Words.{is_digit, number, signed_below, signed, signed_long}
use lib.Signed.{mag}
use Rattle.pl_model.proofs.saying.Joined.{IsWord}

-- a decimal digit
abbrev pub IsDigit : ℕ → Type 0
IsDigit c = (48 ≤ c) × (c ≤ 57)

digits_all : (ds : List ℕ) → AllDigits 10 ds → All IsDigit ds
digits_all [] all = All-nil IsDigit
digits_all (c ∷ cs) all =
    let range = digit_from_value c all.0 in
    All-cons IsDigit c cs (omega arith, omega arith) (digits_all cs all.1)

pub decimal_digits : (n : ℕ) → n < 2 ^ 64 → All IsDigit (decimal n)
decimal_digits n lt = digits_all (decimal n) (decimal_is_IsNumeral n lt).0.1

pub decimal_some : (n : ℕ) → n < 2 ^ 64 → 0 < length (decimal n)
decimal_some n lt = (decimal_is_IsNumeral n lt).0.0

pub decimal_word : (n : ℕ) → n < 2 ^ 64 → IsWord (decimal n)
decimal_word n lt = record {
  some = decimal_some n lt;
  black = All-weaker IsDigit (λ c. 32 < c) (λ c digit. omega arith) (decimal n) (decimal_digits n lt);
}

digit_test : (c : ℕ) → IsDigit c → is_digit c ≡ true
digit_test c digit = rw (le-leb 48 c digit.0, le-leb c 57 digit.1) refl

digits_tests : (ds : List ℕ) → AllDigits 10 ds → list_all is_digit ds ≡ true
digits_tests [] all = refl
digits_tests (c ∷ cs) all =
    let range = digit_from_value c all.0 in
    rw (digit_test c (omega arith, omega arith), digits_tests cs all.1) refl

pub number_of_decimal : (limit n : ℕ) → n < limit → n < 2 ^ 64 → number limit (decimal n) ≡ Some n
unfolding number
number_of_decimal limit n lt small =
    let numeral = decimal_is_IsNumeral n small in
    let few : length (decimal n) ≤ 20 = length-decimal-le 20 n (omega arith) (omega arith) small in
    rw (digits_tests (decimal n) numeral.0.1, le-leb 1 (length (decimal n)) (omega (arith, numeral.0.0)), le-leb (length (decimal n)) 20 few, numeral.1, lt-ltb n limit lt) refl

-- ---- with a sign

no_minus : (limit : ℕ) (word : List ℕ) (n : ℕ) → All IsDigit word → number limit word ≡ Some n → 0 < length word → signed_below limit word ≡ Some (pos n)
unfolding signed_below
no_minus limit [] n digits is some = absurd (omega arith)
no_minus limit (c ∷ cs) n digits is some =
    let first = digits 0 0 (omega arith) in
    rw (ne_eqb c 45 (λ e. omega arith), is) refl

minus : (limit n : ℕ) → number (limit + 1) (decimal (suc n)) ≡ Some (suc n) → signed_below limit (45 ∷ decimal (suc n)) ≡ Some (negsuc n)
unfolding signed_below
minus limit n is = rw is refl

signed_below_of : (limit : ℕ) (z : ℤ) → limit ≤ 2 ^ 63 → mag z < limit → signed_below limit (signed_decimal z) ≡ Some z
signed_below_of limit (pos n) le lt =
    let small : n < 2 ^ 64 = omega arith in
    no_minus limit (decimal n) n (decimal_digits n small) (number_of_decimal limit n lt small) (decimal_some n small)
signed_below_of limit (negsuc n) le lt = minus limit n (number_of_decimal (limit + 1) (suc n) (omega arith) (omega arith))

pub signed_of_decimal : (z : ℤ) → SFits w32 z → signed (signed_decimal z) ≡ Some z
signed_of_decimal z fits = signed_below_of (2 ^ 31) z (omega arith) fits.sfits

pub signed_long_of_decimal : (z : ℤ) → SFits w64 z → signed_long (signed_decimal z) ≡ Some z
signed_long_of_decimal z fits = signed_below_of (2 ^ 63) z (omega arith) fits.sfits

-- a digit, or the sign
abbrev pub IsSignedDigit : ℕ → Type 0
IsSignedDigit c = (45 ≤ c) × (c ≤ 57)

pub signed_digits : (z : ℤ) → SFits w64 z → All IsSignedDigit (signed_decimal z)
signed_digits (pos n) fits = All-weaker IsDigit IsSignedDigit (λ c digit. (omega arith, omega arith)) (decimal n) (decimal_digits n (omega (arith, fits.sfits)))
signed_digits (negsuc n) fits =
    All-cons IsSignedDigit 45 (decimal (suc n)) (omega arith, omega arith)
    (All-weaker IsDigit IsSignedDigit (λ c digit. (omega arith, omega arith)) (decimal (suc n)) (decimal_digits (suc n) (omega (arith, fits.sfits))))

signed_some : (z : ℤ) → SFits w64 z → 0 < length (signed_decimal z)
signed_some (pos n) fits = decimal_some n (omega (arith, fits.sfits))
signed_some (negsuc n) fits = omega arith

pub signed_word : (z : ℤ) → SFits w64 z → IsWord (signed_decimal z)
signed_word z fits = record {
  some = signed_some z fits;
  black = All-weaker IsSignedDigit (λ c. 32 < c) (λ c digit. omega arith) (signed_decimal z) (signed_digits z fits);
}

pub wider : (z : ℤ) → SFits w32 z → SFits w64 z
wider z fits = record { sfits = omega (arith, fits.sfits) }
