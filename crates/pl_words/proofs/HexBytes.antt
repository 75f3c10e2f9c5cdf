-- What `hex` decodes are the bytes of the digits.
use Rattle.std.proofs.Common.{◌≡◌, ℕ, ◌+◌, ◌*◌, ◌/◌, ◌%◌, ◌≤◌, inl, inr, Bool, true, false, cond, eqb, List, [], ◌∷◌, ◌++◌, length, Option, Some, None, Result, Ok, Err, refl, sym, ap, ◌∙◌, arith}
use Rattle.std.specs.Prelude.{MatchResult, slice_index_or, is_some, nat_le, IsSomeAnd, IsSome, IfSome, ◌<◌, ◌⊎◌, ◌↔◌, replicate}
use Rattle.std.specs.List.{AllPass, list_all}
use Rattle.std.specs.Option.{ok_or}
use Rattle.std.specs.Result.{result_ok}
use Rattle.std.proofs.lemmas.Bool.{eqb-true, eqb-false, leb-true, le-leb}
use Rattle.hex.specs.declared.error.FromHexError.{FromHexError}
use Rattle.hex.specs.declared.error.FromHexError.TheVariants.{OddLength, InvalidStringLength}
use Rattle.hex.specs.Hex as digits
use Rattle.hex.specs.Hex.{decode_pairs, decode_of, decode_sized, digit_or_error}
use Rattle.hex.proofs.HexLemmas.{decode_of-ok, decode_of-digits}
use Rattle.std.proofs.lemmas.List.{length-replicate}
use Rattle.std.proofs.lemmas.List.Sums.{AllPass-from_list_all, list_all-from_AllPass}
use Rattle.pl_model.specs.Numbers.{most_bytes}
use Rattle.pl_model.specs.Words.{◌>>=◌, hex_digit, hex_byte, hex_bytes, one_byte, number, repeated}
use Rattle.pl_words.specs.declared.fault.LineFault.TheVariants.{Bad}
use Rattle.pl_words.specs.Parsed.{one_write, BytesTake, GivesTaking}

step : (dh dl : Option ℕ) (ch cl i : ℕ) (rest : Result (List ℕ) FromHexError)
    → result_ok (digits.◌>>=◌ (digits.◌>>=◌ (digit_or_error ch i dh) (λ h. digits.◌>>=◌ (digit_or_error cl (i + 1) dl) (λ l. Ok (h * 16 + l)))) (λ byte. digits.◌>>=◌ rest (λ bytes. Ok (byte ∷ bytes))))
    ≡ ((dh >>= λ h. dl >>= λ l. Some (h * 16 + l)) >>= λ b. result_ok rest >>= λ bs. Some (b ∷ bs))
step None dl ch cl i rest = refl
step (Some h) None ch cl i rest = refl
step (Some h) (Some l) ch cl i (Err e) = refl
step (Some h) (Some l) ch cl i (Ok bs) = refl

pairs_ok : (i : ℕ) (text : List ℕ) → result_ok (decode_pairs i text) ≡ hex_bytes text
unfolding decode_pairs hex_bytes
pairs_ok i [] = refl
pairs_ok i (c ∷ []) = refl
pairs_ok i (high ∷ low ∷ rest) =
    step (hex_digit high) (hex_digit low) high low i (decode_pairs (i + 2) rest) ∙ ap (λ r. hex_byte high low >>= λ b. r >>= λ bs. Some (b ∷ bs)) (pairs_ok (i + 2) rest)

nothing : (b : Option ℕ) (rest : Option (List ℕ)) → rest ≡ None → (b >>= λ x. rest >>= λ bs. Some (x ∷ bs)) ≡ None
nothing None rest e = refl
nothing (Some x) rest e = rw e refl

odd_is_none : (text : List ℕ) → length text % 2 ≡ 1 → hex_bytes text ≡ None
unfolding hex_bytes
odd_is_none [] h = absurd (omega arith)
odd_is_none (c ∷ []) h = refl
odd_is_none (high ∷ low ∷ rest) h = nothing (hex_byte high low) (hex_bytes rest) (odd_is_none rest (omega arith))

by_length : (b : Bool) (text : List ℕ) → eqb (length text % 2) 1 ≡ b → result_ok (cond b (Err OddLength) (decode_pairs 0 text)) ≡ hex_bytes text
by_length true text h = sym (odd_is_none text (eqb-true _ _ h))
by_length false text h = pairs_ok 0 text

-- the bytes that `hex` gives, and none where it fails
pub decode_ok : (text : List ℕ) → result_ok (decode_of text) ≡ hex_bytes text
decode_ok text = by_length (eqb (length text % 2) 1) text refl

-- ---- one byte

abbrev first : List ℕ → Option ℕ
first [] = None
first (b ∷ bs) = Some b

first-one : (o : Option ℕ) → ((o >>= λ b. Some (b ∷ [])) >>= first) ≡ o
first-one None = refl
first-one (Some b) = refl

-- more than two digits are no pair
more : (n : ℕ) (text : List ℕ) (a b : Bool) → 3 ≤ n → eqb (n % 2) 1 ≡ a → eqb (n / 2) 1 ≡ b → (result_ok (cond a (Err OddLength) (cond b (decode_pairs 0 text) (Err InvalidStringLength))) >>= first) ≡ None
more n text true b le odd two = refl
more n text false true le odd two = absurd (omega (arith, eqb-true (n / 2) 1 two, eqb-false (n % 2) 1 odd))
more n text false false le odd two = refl

-- the byte that `hex` decodes from two digits, and none from other texts
one_decoded : (text : List ℕ) → (result_ok (decode_sized text 1) >>= first) ≡ one_byte text
unfolding hex_bytes
one_decoded [] = refl
one_decoded (c ∷ []) = refl
one_decoded (high ∷ low ∷ []) = ap (λ o. o >>= first) (pairs_ok 0 (high ∷ low ∷ [])) ∙ first-one (hex_byte high low)
one_decoded (a ∷ b ∷ c ∷ rest) = more (length (a ∷ b ∷ c ∷ rest)) (a ∷ b ∷ c ∷ rest) _ _ (omega arith) refl refl

-- what `decode_to_slice` answers, and leaves in the one place that it is given
abbrev Decodes : Result (List ℕ) FromHexError → Result (Unit {0}) FromHexError → List ℕ → Type 0
Decodes wanted result new = MatchResult wanted (λ bytes. (result ≡ Ok tt) × (new ≡ bytes)) (λ e. result ≡ Err e)

left_by : (wanted : Result (List ℕ) FromHexError) (result : Result (Unit {0}) FromHexError) (new : List ℕ) (byte : Option ℕ) → (result_ok wanted >>= first) ≡ byte
    → Decodes wanted result new → result ≡ Ok tt → length new ≡ 1 → Some (slice_index_or new 0 0) ≡ byte
left_by (Ok []) result new byte e decodes ok len = let none : length new ≡ 0 = ap length decodes.1 in absurd (omega arith)
left_by (Ok (b ∷ bs)) result new byte e decodes ok len = rw decodes.1 e
left_by (Err fault) result new byte e decodes ok len = absurd cc

pub one_byte_left : (text new : List ℕ) (result : Result (Unit {0}) FromHexError) → Decodes (decode_sized text 1) result new → result ≡ Ok tt → length new ≡ 1 → Some (slice_index_or new 0 0) ≡ one_byte text
one_byte_left text new result = left_by (decode_sized text 1) result new (one_byte text) (one_decoded text)

none_by : (wanted : Result (List ℕ) FromHexError) (result : Result (Unit {0}) FromHexError) (new : List ℕ) (byte : Option ℕ) (fault : FromHexError) → (result_ok wanted >>= first) ≡ byte
    → Decodes wanted result new → result ≡ Err fault → None ≡ byte
none_by (Ok bytes) result new byte fault e decodes err = absurd cc
none_by (Err other) result new byte fault e decodes err = e

pub no_byte : (text new : List ℕ) (result : Result (Unit {0}) FromHexError) (fault : FromHexError) → Decodes (decode_sized text 1) result new → result ≡ Err fault → None ≡ one_byte text
no_byte text new result fault = none_by (decode_sized text 1) result new (one_byte text) fault (one_decoded text)

-- ---- bytes put into their places

-- as many places as the digits have pairs
decode_all : (text : List ℕ) (n : ℕ) → n ≡ length text / 2 → result_ok (decode_sized text n) ≡ hex_bytes text
decode_all text n is = by_pairs (eqb (length text % 2) 1) (eqb (length text / 2) n) refl refl
  where
    by_pairs : (a b : Bool) → eqb (length text % 2) 1 ≡ a → eqb (length text / 2) n ≡ b → result_ok (cond a (Err OddLength) (cond b (decode_pairs 0 text) (Err InvalidStringLength))) ≡ hex_bytes text
    by_pairs true b odd same = sym (odd_is_none text (eqb-true _ _ odd))
    by_pairs false true odd same = pairs_ok 0 text
    by_pairs false false odd same = absurd (eqb-false _ _ same (sym is))

module _ (text : List ℕ) (n : ℕ) (is : n ≡ length text / 2) (result : Result (Unit {0}) FromHexError) (new : List ℕ) (decodes : Decodes (decode_sized text n) result new) where
  pub put_behind : (front : List ℕ) → result ≡ Ok tt → IsSomeAnd (hex_bytes text) (λ bytes. front ++ new ≡ front ++ bytes)
  put_behind front ok = by (decode_sized text n) (hex_bytes text) (decode_all text n is) decodes
    where
      by : (wanted : Result (List ℕ) FromHexError) (said : Option (List ℕ)) → result_ok wanted ≡ said → Decodes wanted result new → IsSomeAnd said (λ bytes. front ++ new ≡ front ++ bytes)
      by (Ok bytes) said e put = rw (← e) (ap (λ b. front ++ b) put.1)
      by (Err fault) said e put = absurd cc

  pub not_put : (fault : FromHexError) → result ≡ Err fault → hex_bytes text ≡ None
  not_put fault err = by (decode_sized text n) (hex_bytes text) (decode_all text n is) decodes
    where
      by : (wanted : Result (List ℕ) FromHexError) (said : Option (List ℕ)) → result_ok wanted ≡ said → Decodes wanted result new → said ≡ None
      by (Ok bytes) said e put = absurd cc
      by (Err other) said e put = sym e

-- ---- the bytes of one write

abbrev is_digit : ℕ → Bool
is_digit c = is_some (hex_digit c)

ok_of : (r : Result (List ℕ) FromHexError) (bytes : List ℕ) → result_ok r ≡ Some bytes → r ≡ Ok bytes
ok_of (Ok xs) bytes h = cc
ok_of (Err e) bytes h = absurd cc

-- what says bytes is an even number of digits, two for each byte
pub digits_of : (text bytes : List ℕ) → hex_bytes text ≡ Some bytes → (length text ≡ 2 * length bytes) × AllPass is_digit text
digits_of text bytes h = let parts = decode_of-ok text bytes (ok_of (decode_of text) bytes (decode_ok text ∙ h)) in (parts.2, parts.1)

pub one_write_is : (said : Option (List ℕ)) (bytes : List ℕ) → one_write said ≡ Some bytes → (said ≡ Some bytes) × (length bytes ≤ most_bytes)
one_write_is None bytes h = absurd cc
one_write_is (Some xs) bytes h = few xs bytes (nat_le (length xs) most_bytes) refl h
  where
    few : (xs bytes : List ℕ) (b : Bool) → nat_le (length xs) most_bytes ≡ b → cond b (Some xs) None ≡ Some bytes → (Some xs ≡ Some bytes) × (length bytes ≤ most_bytes)
    few xs bytes true le e = let same : xs ≡ bytes = cc in (e, rw (← same) (leb-true (length xs) most_bytes le))
    few xs bytes false le e = absurd cc

nowhere_some : {X : Type 0} (o : Option X) → ((x : X) → o ≡ Some x → ⊥) → false ≡ is_some o
nowhere_some None never = refl
nowhere_some (Some x) never = absurd (never x refl)

-- places are wanting only where there are some
pub wants_places : (text before : List ℕ) → 0 < length before + length text / 2 → IfSome (hex_bytes text) (λ bytes. 0 < length before + length bytes)
wants_places text before some = by (hex_bytes text) refl
  where
    by : (said : Option (List ℕ)) → hex_bytes text ≡ said → IfSome said (λ bytes. 0 < length before + length bytes)
    by None e = tt
    by (Some bytes) e = let twice = (digits_of text bytes e).0 in omega (arith, twice)

-- an odd number of digits, and too many of them, aren't those of one write
pub no_write : (text : List ℕ) → (length text % 2 ≡ 1) ⊎ (most_bytes < length text / 2) → false ≡ is_some (one_write (hex_bytes text))
no_write text other =
    nowhere_some (one_write (hex_bytes text)) (λ bytes h.
    let said = one_write_is (hex_bytes text) bytes h in
    let twice = (digits_of text bytes said.0).0 in
    let few = said.1 in
    elim other [ inl odd ↦ omega arith | inr long ↦ omega arith ])

pub one_write_few : (bytes : List ℕ) → length bytes ≤ most_bytes → one_write (Some bytes) ≡ Some bytes
one_write_few bytes few = rw (le-leb (length bytes) most_bytes few) refl

-- an even number of other bytes is one write's where all are digits
pub write_of_digits : (text : List ℕ) (b : Bool) → (length text % 2 ≡ 1 → ⊥) → length text / 2 ≤ most_bytes → b ≡ list_all is_digit text → b ≡ is_some (one_write (hex_bytes text))
write_of_digits text true even few all =
    let said = decode_of-digits text (omega arith) (AllPass-from_list_all is_digit text (sym all)) in
    let bytes : hex_bytes text ≡ Some said.0 = sym (decode_ok text) ∙ ap result_ok said.1 in
    let twice = (digits_of text said.0 bytes).0 in
    rw (bytes, one_write_few said.0 (omega arith)) refl
write_of_digits text false even few all =
    nowhere_some (one_write (hex_bytes text)) (λ bytes h.
    let said = one_write_is (hex_bytes text) bytes h in
    let true_here : list_all is_digit text ≡ true = list_all-from_AllPass is_digit text (digits_of text bytes said.0).1 in
    cc)

-- memory is wanting only where the digits of a write are there
pub takes_some : (text : List ℕ) → 0 < length text → is_some (one_write (hex_bytes text)) ≡ true → IsSomeAnd (one_write (hex_bytes text)) BytesTake
takes_some text lt h = takes (one_write (hex_bytes text)) refl h
  where
    takes : (o : Option (List ℕ)) → one_write (hex_bytes text) ≡ o → is_some o ≡ true → IsSomeAnd o BytesTake
    takes None e h = absurd cc
    takes (Some bytes) e h =
        let twice = (digits_of text bytes (one_write_is (hex_bytes text) bytes e).0).0 in
        omega arith

-- nothing is said where it isn't one write
pub says_none : {X : Type 0} (o : Option X) → is_some o ≡ false → o ≡ None
says_none None h = refl
says_none (Some x) h = absurd cc

-- what is said, given up where it is more than one write takes
pub taken : (said : Option (List ℕ)) (bytes : List ℕ) (made : Option (List ℕ)) → said ≡ Some bytes → IsSome made ↔ (length bytes ≤ most_bytes) → IfSome made (λ b. b ≡ bytes) → one_write said ≡ made
taken said bytes (Some b) is fits list = rw (is, one_write_few bytes (fits.0 refl), list) refl
taken said bytes None is fits list =
    says_none (one_write said) (sym (nowhere_some (one_write said) (λ x h.
    let parts = one_write_is said x h in
    let same : bytes ≡ x = cc in
    let few : length bytes ≤ most_bytes = rw same parts.1 in
    cc (fits.1 few))))

-- what was decoded
pub decoded : (text bytes : List ℕ) (made : Option (List ℕ)) → decode_of text ≡ Ok bytes → IsSome made ↔ (length bytes ≤ most_bytes) → IfSome made (λ b. b ≡ bytes) → one_write (hex_bytes text) ≡ made
decoded text bytes made ok = taken (hex_bytes text) bytes made (sym (decode_ok text) ∙ ap result_ok ok)

-- the bytes are one write's, and some
pub repeats : (times digits : List ℕ) (n b : ℕ) → number (most_bytes + 1) times ≡ Some n → one_byte digits ≡ Some b → n ≤ most_bytes → 0 < n → IsSomeAnd (one_write (repeated times digits)) BytesTake
unfolding repeated
repeats times digits n b times-say digits-say few some =
    let len : length (replicate n b) ≡ n = length-replicate n b in
    rw (times-say, digits-say, one_write_few (replicate n b) (omega arith)) (omega arith)

-- what is made is given
pub gives : {X : Type 0} (Takes : X → Type 0) (made : Option X) → GivesTaking Takes (ok_or made Bad) made
gives Takes None = refl
gives Takes (Some x) = refl
