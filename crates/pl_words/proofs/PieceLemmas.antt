-- What a word says a piece at a time, and how many bytes that is.
use Rattle.std.proofs.Common.{◌≡◌, ℕ, ◌+◌, ◌/◌, ◌<◌, ◌≤◌, Bool, true, false, cond, inl, inr, List, [], ◌∷◌, ◌++◌, length, take, drop, Option, Some, None, refl, sym, ap, ◌∙◌, append_assoc, arith}
use Rattle.std.specs.Prelude.{position, is_some, nat_le, ◌⊎◌, IsSomeAnd, IfSome, Result, Err, Ok}
use Rattle.std.specs.List.{slice_split}
use Rattle.std.specs.Option.{option_map, ok_or}
use Rattle.std.proofs.lemmas.Bool.{lt-leb, leb-true, leb-false}
use Rattle.std.proofs.lemmas.List.{append-nil, length-append}
use Rattle.std.proofs.lemmas.List.Splits.{slice_split_none, slice_split_first}
use Rattle.std.proofs.lemmas.List.Sums.{fails_before_first}
use Rattle.std.proofs.lemmas.List.Elements.{All-from_get_or}
use Rattle.pl_model.specs.Numbers.{most_bytes}
use Rattle.pl_model.specs.Words.{◌>>=◌, is_plus, hex_bytes, digits_or_repeated, pieces}
use Rattle.pl_words.specs.Parsed.{one_write, BytesTake, GivesTaking, PutsPiece}
use Rattle.pl_words.specs.declared.fault.LineFault.{LineFault}
use Rattle.pl_words.specs.declared.fault.LineFault.TheVariants.{Bad, NoMemory}
use Rattle.pl_words.proofs.Places.{place_of, nowhere}
use Rattle.pl_words.proofs.HexBytes.{one_write_few, digits_of, one_write_is}

-- ---- how many bytes one piece says

pub digits_count : (text : List ℕ) → is_some (one_write (hex_bytes text)) ≡ true → Some (length text / 2) ≡ option_map length (one_write (hex_bytes text))
digits_count text h = counts (one_write (hex_bytes text)) refl h
  where
    counts : (o : Option (List ℕ)) → one_write (hex_bytes text) ≡ o → is_some o ≡ true → Some (length text / 2) ≡ option_map length o
    counts None e h = absurd cc
    counts (Some bytes) e h =
        let twice = (digits_of text bytes (one_write_is (hex_bytes text) bytes e).0).0 in
        ap Some (omega (arith, twice))

pub no_digits_count : (text : List ℕ) → is_some (one_write (hex_bytes text)) ≡ false → None ≡ option_map length (one_write (hex_bytes text))
no_digits_count text h = none (one_write (hex_bytes text)) h
  where
    none : (o : Option (List ℕ)) → is_some o ≡ false → None ≡ option_map length o
    none None h = refl
    none (Some bytes) h = absurd cc

pub says_nothing : (text : List ℕ) → length text ≡ 0 → digits_or_repeated text ≡ None
unfolding digits_or_repeated
says_nothing [] e = refl
says_nothing (c ∷ cs) e = absurd (omega arith)

-- bytes that are more than one write takes
one_write_many : (bytes : List ℕ) → most_bytes < length bytes → one_write (Some bytes) ≡ None
one_write_many bytes many = rw (lt-leb (length bytes) most_bytes many) refl

-- ---- the pieces, from the front of a word

-- what the pieces of these bytes say together
abbrev pub pieces_in : List ℕ → Option (List ℕ)
pieces_in word = pieces (slice_split is_plus word)

-- what the pieces say behind bytes that are there
abbrev pub behind : List ℕ → Option (List ℕ) → Option (List ℕ)
behind done said = said >>= λ bytes. Some (done ++ bytes)

first : (piece : List ℕ) (more : List (List ℕ)) → pieces (piece ∷ more) ≡ (digits_or_repeated piece >>= λ bytes. behind bytes (pieces more))
unfolding pieces
first piece more = refl

only : (said : Option (List ℕ)) → (said >>= λ bytes. Some (bytes ++ [])) ≡ said
only None = refl
only (Some bytes) = ap Some (append-nil bytes)

-- a `+` ends the first piece
before_plus : (word : List ℕ) (n : ℕ) → position is_plus word ≡ Some n → pieces_in word ≡ (digits_or_repeated (take n word) >>= λ bytes. behind bytes (pieces_in (drop (n + 1) word)))
before_plus word n found =
    let at = place_of is_plus word n found in
    let parts : slice_split is_plus word ≡ take n word ∷ slice_split is_plus (drop (n + 1) word) = rw at.0 at (slice_split_first is_plus word 0 at.1) in
    ap pieces parts ∙ first (take n word) (slice_split is_plus (drop (n + 1) word))

-- the last piece
to_end : (word : List ℕ) → position is_plus word ≡ None → pieces_in word ≡ digits_or_repeated word
unfolding pieces
to_end word none =
    let le = nowhere is_plus word none in
    let parts : slice_split is_plus word ≡ word ∷ [] = slice_split_none is_plus word (All-from_get_or (λ c. is_plus c ≡ false) word 0 (λ i below. fails_before_first is_plus word i 0 (omega (arith, le)))) in
    ap pieces parts ∙ only (digits_or_repeated word)

behind_both : (done bytes : List ℕ) (said : Option (List ℕ)) → behind done (behind bytes said) ≡ behind (done ++ bytes) said
behind_both done bytes None = refl
behind_both done bytes (Some more) = ap Some (sym (append_assoc done bytes more))

-- All that a word says is what is done, and behind it what the rest says.
module _ (all : Option (List ℕ)) (done rest : List ℕ) (so_far : all ≡ behind done (pieces_in rest)) where
  pub one_more : (bytes : List ℕ) (n : ℕ) → position is_plus rest ≡ Some n → digits_or_repeated (take n rest) ≡ Some bytes → all ≡ behind (done ++ bytes) (pieces_in (drop (n + 1) rest))
  one_more bytes n found is =
      so_far ∙ ap (behind done) (before_plus rest n found ∙ ap (λ o. o >>= λ b. behind b (pieces_in (drop (n + 1) rest))) is) ∙ behind_both done bytes (pieces_in (drop (n + 1) rest))

  pub bad_one : (n : ℕ) → position is_plus rest ≡ Some n → digits_or_repeated (take n rest) ≡ None → all ≡ None
  bad_one n found is = so_far ∙ ap (behind done) (before_plus rest n found ∙ ap (λ o. o >>= λ b. behind b (pieces_in (drop (n + 1) rest))) is)

  pub last_one : (bytes : List ℕ) → position is_plus rest ≡ None → digits_or_repeated rest ≡ Some bytes → all ≡ Some (done ++ bytes)
  last_one bytes none is = so_far ∙ ap (behind done) (to_end rest none ∙ is)

  pub bad_last : position is_plus rest ≡ None → digits_or_repeated rest ≡ None → all ≡ None
  bad_last none is = so_far ∙ ap (behind done) (to_end rest none ∙ is)

-- more than one write takes is as good as nothing, whatever stands behind it
too_long : (all : Option (List ℕ)) (done : List ℕ) (left : Option (List ℕ)) → all ≡ behind done left → most_bytes < length done → one_write all ≡ None
too_long all done None so_far long = ap one_write so_far
too_long all done (Some bytes) so_far long =
    let len : length (done ++ bytes) ≡ length done + length bytes = length-append done bytes in
    ap one_write so_far ∙ one_write_many (done ++ bytes) (omega (arith, len))

-- ---- their count

-- how many bytes are said, where one write takes them
abbrev pub count_of : Option (List ℕ) → Option ℕ
count_of said = option_map length (one_write said)

-- what is done are so many bytes
pub record AreCounted (all : Option (List ℕ)) (len : ℕ) (rest : List ℕ) : Type 0 where
  pub done : List ℕ
  pub count : length done ≡ len
  pub so_far : all ≡ behind done (pieces_in rest)

pub none_counted : (word : List ℕ) → AreCounted (pieces_in word) 0 word
none_counted word = record { done = []; count = refl; so_far = sym (none_before (pieces_in word)) }
  where
    none_before : (said : Option (List ℕ)) → behind [] said ≡ said
    none_before None = refl
    none_before (Some bytes) = refl

-- bytes whose count was told are those of one write
told : (said : Option (List ℕ)) (n : ℕ) → Some n ≡ count_of said → (bytes : List ℕ) × (said ≡ Some bytes) × (one_write said ≡ Some bytes)
told None n e = absurd cc
told (Some bytes) n e = by (one_write (Some bytes)) refl e
  where
    by : (o : Option (List ℕ)) → one_write (Some bytes) ≡ o → Some n ≡ option_map length o → (xs : List ℕ) × (Some bytes ≡ Some xs) × (one_write (Some bytes) ≡ Some xs)
    by None is e = absurd cc
    by (Some xs) is e = (xs, (one_write_is (Some bytes) xs is).0, is)

-- a piece whose bytes were counted
counted : (said : Option (List ℕ)) (n : ℕ) → Some n ≡ count_of said → (bytes : List ℕ) × (said ≡ Some bytes) × (length bytes ≡ n)
counted None n e = absurd cc
counted (Some bytes) n e = by (nat_le (length bytes) most_bytes) e
  where
    by : (b : Bool) → Some n ≡ option_map length (cond b (Some bytes) None) → (xs : List ℕ) × (Some bytes ≡ Some xs) × (length xs ≡ n)
    by true e = (bytes, refl, cc)
    by false e = absurd cc

-- a piece that was refused
refused : (said : Option (List ℕ)) → None ≡ count_of said → (said ≡ None) ⊎ ((bytes : List ℕ) × (said ≡ Some bytes) × (most_bytes < length bytes))
refused None e = inl refl
refused (Some bytes) e = by (nat_le (length bytes) most_bytes) refl e
  where
    by : (b : Bool) → nat_le (length bytes) most_bytes ≡ b → None ≡ option_map length (cond b (Some bytes) None) → (Some bytes ≡ None) ⊎ ((xs : List ℕ) × (Some bytes ≡ Some xs) × (most_bytes < length xs))
    by true le e = absurd cc
    by false le e = inr (bytes, refl, leb-false (length bytes) most_bytes le)

module _ {all : Option (List ℕ)} {len : ℕ} {rest : List ℕ} (are : AreCounted all len rest) where
  pub too_many : most_bytes < len → None ≡ count_of all
  too_many many = ap (option_map length) (sym (too_long all are.done (pieces_in rest) are.so_far (omega (arith, are.count))))

  module _ (n k : ℕ) (found : position is_plus rest ≡ Some n) where
    pub counted_more : (left : List ℕ) → Some k ≡ count_of (digits_or_repeated (take n rest)) → left ≡ drop (n + 1) rest → AreCounted all (len + k) left
    counted_more left is behind-it =
        let piece = counted (digits_or_repeated (take n rest)) k is in
        record {
          done = are.done ++ piece.0;
          count = length-append are.done piece.0 ∙ omega (arith, are.count, piece.2);
          so_far = rw behind-it (one_more all are.done rest are.so_far piece.0 n found piece.1);
        }

  pub refused_more : (n : ℕ) → position is_plus rest ≡ Some n → None ≡ count_of (digits_or_repeated (take n rest)) → None ≡ count_of all
  refused_more n found is =
      elim (refused (digits_or_repeated (take n rest)) is) [
        | inl bad ↦ rw (bad_one all are.done rest are.so_far n found bad) refl
        | inr long ↦
            let len-is : length (are.done ++ long.0) ≡ length are.done + length long.0 = length-append are.done long.0 in
            ap (option_map length) (sym (too_long all (are.done ++ long.0) (pieces_in (drop (n + 1) rest)) (one_more all are.done rest are.so_far long.0 n found long.1) (omega (arith, len-is, long.2))))
      ]

  module _ (none : position is_plus rest ≡ None) where
    pub counted_last : (k : ℕ) → Some k ≡ count_of (digits_or_repeated rest) → len + k ≤ most_bytes → Some (len + k) ≡ count_of all
    counted_last k is few =
        let piece = counted (digits_or_repeated rest) k is in
        let len-is : length (are.done ++ piece.0) ≡ length are.done + length piece.0 = length-append are.done piece.0 in
        let total : length (are.done ++ piece.0) ≡ len + k = omega (arith, len-is, are.count, piece.2) in
        rw (last_one all are.done rest are.so_far piece.0 none piece.1, one_write_few (are.done ++ piece.0) (omega (arith, total)), total) refl

    pub too_many_last : (k : ℕ) → Some k ≡ count_of (digits_or_repeated rest) → most_bytes < len + k → None ≡ count_of all
    too_many_last k is many =
        let piece = counted (digits_or_repeated rest) k is in
        let len-is : length (are.done ++ piece.0) ≡ length are.done + length piece.0 = length-append are.done piece.0 in
        rw (last_one all are.done rest are.so_far piece.0 none piece.1, one_write_many (are.done ++ piece.0) (omega (arith, len-is, are.count, piece.2))) refl

    pub refused_last : None ≡ count_of (digits_or_repeated rest) → None ≡ count_of all
    refused_last is =
        elim (refused (digits_or_repeated rest) is) [
          | inl bad ↦ rw (bad_last all are.done rest are.so_far none bad) refl
          | inr long ↦
              let len-is : length (are.done ++ long.0) ≡ length are.done + length long.0 = length-append are.done long.0 in
              rw (last_one all are.done rest are.so_far long.0 none long.1, one_write_many (are.done ++ long.0) (omega (arith, len-is, long.2))) refl
        ]

-- ---- their bytes

-- All bytes of a word are those that are there, and behind them those of the rest. How many they are was told before.
module _ {all : Option (List ℕ)} {len : ℕ} (count : Some len ≡ count_of all) (done rest : List ℕ) (so_far : all ≡ behind done (pieces_in rest)) where
  pub few_done : length done ≤ most_bytes
  few_done = by (nat_le (length done) most_bytes) refl
    where
      by : (b : Bool) → nat_le (length done) most_bytes ≡ b → length done ≤ most_bytes
      by true le = leb-true (length done) most_bytes le
      by false le =
          let none : one_write all ≡ None = too_long all done (pieces_in rest) so_far (leb-false (length done) most_bytes le) in
          let absent : Some len ≡ None = count ∙ ap (option_map length) none in
          absurd cc

  -- where some bytes are there, or in the next piece, all are some
  some_of : (bytes : List ℕ) (left : Option (List ℕ)) → all ≡ behind (done ++ bytes) left → 0 < length done + length bytes → IsSomeAnd (one_write all) BytesTake
  some_of bytes left is some =
      let whole = told all len count in
      rw whole.2 (by left (sym whole.1 ∙ is))
    where
      by : (left : Option (List ℕ)) → Some (told all len count).0 ≡ behind (done ++ bytes) left → 0 < length (told all len count).0
      by None e = absurd cc
      by (Some more) e =
          let same : (told all len count).0 ≡ (done ++ bytes) ++ more = cc in
          let total : length (told all len count).0 ≡ length ((done ++ bytes) ++ more) = ap length same in
          omega (arith, total, length-append (done ++ bytes) more, length-append done bytes)

  module _ (n : ℕ) (found : position is_plus rest ≡ Some n) where
    pub put_more : {X : Type 0} (x : X) (after left : List ℕ) → PutsPiece (Ok x) (digits_or_repeated (take n rest)) done after → left ≡ drop (n + 1) rest → all ≡ behind after (pieces_in left)
    put_more x after left put is = by (digits_or_repeated (take n rest)) refl put
      where
        by : (said : Option (List ℕ)) → digits_or_repeated (take n rest) ≡ said → IsSomeAnd said (λ bytes. after ≡ done ++ bytes) → all ≡ behind after (pieces_in left)
        by None e h = absurd h
        by (Some bytes) e h = rw (h, is) (one_more all done rest so_far bytes n found e)

    pub put_fails : (e : LineFault) (after : List ℕ) → PutsPiece {X = ℕ} (Err e) (digits_or_repeated (take n rest)) done after → GivesTaking {X = List ℕ} BytesTake (Err e) (one_write all)
    put_fails Bad after put = rw (bad_one all done rest so_far n found put) refl
    put_fails NoMemory after put = by (digits_or_repeated (take n rest)) refl put
      where
        by : (said : Option (List ℕ)) → digits_or_repeated (take n rest) ≡ said → IfSome said (λ bytes. 0 < length done + length bytes) → IsSomeAnd (one_write all) BytesTake
        by None e h = let absent : Some len ≡ None = count ∙ ap count_of (bad_one all done rest so_far n found e) in absurd cc
        by (Some bytes) e h = some_of bytes (pieces_in (drop (n + 1) rest)) (one_more all done rest so_far bytes n found e) h

  module _ (none : position is_plus rest ≡ None) where
    pub put_last : {X : Type 0} (x : X) (after : List ℕ) → PutsPiece (Ok x) (digits_or_repeated rest) done after → all ≡ Some after
    put_last x after put = by (digits_or_repeated rest) refl put
      where
        by : (said : Option (List ℕ)) → digits_or_repeated rest ≡ said → IsSomeAnd said (λ bytes. after ≡ done ++ bytes) → all ≡ Some after
        by None e h = absurd h
        by (Some bytes) e h = rw h (last_one all done rest so_far bytes none e)

    pub last_fails : (e : LineFault) (after : List ℕ) → PutsPiece {X = ℕ} (Err e) (digits_or_repeated rest) done after → GivesTaking {X = List ℕ} BytesTake (Err e) (one_write all)
    last_fails Bad after put = rw (bad_last all done rest so_far none put) refl
    last_fails NoMemory after put = by (digits_or_repeated rest) refl put
      where
        by : (said : Option (List ℕ)) → digits_or_repeated rest ≡ said → IfSome said (λ bytes. 0 < length done + length bytes) → IsSomeAnd (one_write all) BytesTake
        by None e h = let absent : Some len ≡ None = count ∙ ap count_of (bad_last all done rest so_far none e) in absurd cc
        by (Some bytes) e h = some_of bytes (Some []) (last_one all done rest so_far bytes none e ∙ ap Some (sym (append-nil (done ++ bytes)))) h

-- what was counted, where it was
pub count_told : (said : Option ℕ) (made : Result ℕ LineFault) (len : ℕ) → made ≡ ok_or said Bad → made ≡ Ok len → Some len ≡ said
count_told None made len e is = absurd cc
count_told (Some n) made len e is = cc

-- there is memory for no bytes, so that it is wanting only for some
pub wants_some : (all : Option (List ℕ)) (len : ℕ) → Some len ≡ count_of all → 0 < len → IsSomeAnd (one_write all) BytesTake
wants_some all len count some =
    let whole = told all len count in
    let many : Some len ≡ Some (length whole.0) = count ∙ ap (option_map length) whole.2 in
    let is : len ≡ length whole.0 = cc in
    rw whole.2 (omega (arith, is))
