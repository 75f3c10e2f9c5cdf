-- The `*` of a word of bytes, which stands behind a number.
use Rattle.std.proofs.Common.{◌≡◌, ℕ, ◌+◌, ◌<◌, ◌≤◌, Bool, true, false, ◌&&◌, List, length, take, drop, get_or, min, Option, Some, None, refl, sym, ◌∙◌, arith}
use Rattle.std.specs.Prelude.{position, nat_lt, is_some, IfSome}
use Rattle.std.specs.List.{position_or_len, list_all}
use Rattle.std.proofs.lemmas.Bool.{lt-ltb, ltb-true, lt-leb, eqb-true}
use Rattle.std.proofs.lemmas.List.{length-take-le}
use Rattle.std.proofs.lemmas.List.Sums.{passes_at_first, list_all-from_AllPass}
use Rattle.std.proofs.lemmas.List.Folds.{list_all_at}
use Rattle.pl_model.specs.Numbers.{most_bytes}
use Rattle.pl_model.specs.Words.{is_star, hex_digit, hex_bytes, number, repeated, digits_or_repeated}
use Rattle.pl_words.proofs.Places.{place_of, none_near, first_near}
use Rattle.pl_words.proofs.HexBytes.{digits_of}

near_star : (word : List ℕ) (star : ℕ) → position is_star word ≡ Some star → digits_or_repeated word ≡ repeated (take star word) (drop (star + 1) word)
unfolding digits_or_repeated
near_star word star found =
    let at = place_of is_star word star found in
    rw (lt-ltb (position_or_len is_star word) (length word) at.1, at.0) refl

-- ---- no `*` where a number can end

fails : (a b c : Bool) → (a && (b && (false && c))) ≡ false
fails true true c = refl
fails true false c = refl
fails false b c = refl

-- a number has at most 20 digits
too_long : (limit : ℕ) (word : List ℕ) → 20 < length word → number limit word ≡ None
unfolding number
too_long limit word long = rw (lt-leb (length word) 20 long, fails) refl

not_repeated : (times digits : List ℕ) → 20 < length times → repeated times digits ≡ None
unfolding repeated
not_repeated times digits long = rw (too_long (most_bytes + 1) times long) refl

none_of : {X : Type 0} (o : Option X) → ((x : X) → o ≡ Some x → ⊥) → o ≡ None
none_of None never = refl
none_of (Some x) never = absurd (never x refl)

-- a `*` is no digit
not_digits : (word : List ℕ) (k : ℕ) → k < length word → is_star (get_or word k 0) ≡ true → hex_bytes word ≡ None
not_digits word k lt star =
    none_of (hex_bytes word) (λ bytes said.
    let all : list_all (λ c. is_some (hex_digit c)) word ≡ true = list_all-from_AllPass (λ c. is_some (hex_digit c)) word (digits_of word bytes said).1 in
    let here : is_some (hex_digit (get_or word k 0)) ≡ false = rw (eqb-true (get_or word k 0) 42 star) refl in
    let some : list_all (λ c. is_some (hex_digit c)) word ≡ false = list_all_at (λ c. is_some (hex_digit c)) word k 0 lt here in
    cc)

by_star : (word : List ℕ) (b : Bool) → nat_lt (position_or_len is_star word) (length word) ≡ b → 0 < length word → ((k : ℕ) → k < 21 → k < length word → is_star (get_or word k 0) ≡ false) → digits_or_repeated word ≡ hex_bytes word
unfolding digits_or_repeated
by_star word false e some none = rw (e, lt-ltb 0 (length word) some) refl
by_star word true e some none =
    let star : ℕ = position_or_len is_star word in
    let lt : position_or_len is_star word < length word = ltb-true _ _ e in
    let here = passes_at_first is_star word 0 lt in
    let far : 20 < position_or_len is_star word = past (position_or_len is_star word) (λ near. true_false (none (position_or_len is_star word) near lt) here) in
    let long : 20 < length (take (position_or_len is_star word) word) = omega (arith, length-take-le (position_or_len is_star word) word (omega arith)) in
    rw (e, not_repeated (take (position_or_len is_star word) word) (drop (position_or_len is_star word + 1) word) long, not_digits word (position_or_len is_star word) lt here) refl
  where
    past : (n : ℕ) → (n < 21 → ⊥) → 20 < n
    past n never = omega arith

    true_false : {b : Bool} → b ≡ false → b ≡ true → ⊥
    true_false out is = cc

-- where the first 21 bytes have no `*`, the word is digits or says nothing
far_star : (word : List ℕ) (n : ℕ) → n ≡ min (length word) 21 → 0 < length word → position is_star (take n word) ≡ None → digits_or_repeated word ≡ hex_bytes word
far_star word n is some none =
    let le : n ≤ length word = omega arith in
    by_star word (nat_lt (position_or_len is_star word) (length word)) refl some (λ k near lt. none_near is_star word n le none k (omega arith))

-- What a search of the front answers.
module _ (word : List ℕ) (n : ℕ) (is : n ≡ min (length word) 21) where
  place_is : (star : ℕ) → Some star ≡ position is_star (take n word) → position is_star word ≡ Some star
  place_is star e = let le : n ≤ length word = omega arith in first_near is_star word n le star (sym e)

  pub star_within : (found : Option ℕ) → found ≡ position is_star (take n word) → IfSome found (λ star. star < length word)
  star_within None e = tt
  star_within (Some star) e = let at = place_of is_star word star (place_is star e) in omega (arith, at.0, at.1)

  pub star_found : (found : Option ℕ) → found ≡ position is_star (take n word) → IfSome found (λ star. digits_or_repeated word ≡ repeated (take star word) (drop (star + 1) word))
  star_found None e = tt
  star_found (Some star) e = near_star word star (place_is star e)

  pub star_nowhere : (found : Option ℕ) → found ≡ position is_star (take n word) → found ≡ None → 0 < length word → digits_or_repeated word ≡ hex_bytes word
  star_nowhere found e none some = far_star word n is some (sym e ∙ none)
