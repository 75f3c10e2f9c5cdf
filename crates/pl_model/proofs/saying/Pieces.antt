-- Bytes in pieces, read again.
use Rattle.std.proofs.Common.{◌≡◌, ℕ, ◌+◌, ◌^◌, ◌<◌, ◌≤◌, Bool, true, false, cond, List, [], ◌∷◌, ◌++◌, map, length, replicate, append_assoc, add-one, refl, ap, ◌∙◌, arith}
use Rattle.std.specs.Prelude.{Option, Some, None, nat_le, nat_lt, ◌==◌, codes, ⊤}
use Rattle.std.specs.List.{All, slice_split, flat_map, position_or_len}
use Rattle.std.specs.Str.{bytes_eq}
use Rattle.std.specs.Fmt.{decimal}
use Rattle.std.proofs.lemmas.Bool.{ne_eqb, eqb-true, le-leb, lt-ltb, le-ltb}
use Rattle.std.proofs.lemmas.List.{length-append, length-replicate}
use Rattle.std.proofs.lemmas.List.Splits.{slice_split_none, slice_split_at}
use Rattle.std.proofs.lemmas.List.Sums.{position_or_len_is}
use Rattle.std.proofs.lemmas.List.Elements.{All-nil, All-cons, All-head, All-tail, All-append, All-weaker, All-replicate}
use Rattle.pl_model.specs.declared.script.Version.TheVariants.{Two}
use Rattle.pl_model.specs.Numbers.{most_bytes}
use Rattle.pl_model.specs.Words.{◌>>=◌, number, is_star, is_plus, hex_bytes, one_byte, repeated, digits_or_repeated, pieces, pieces_of, bytes_of}
use Rattle.pl_model.specs.Shown.{hex_text, onto_runs, runs, Piece, Digits, Times, onto_digits, run_pieces, piece_text, pieces_text, runs_text, bytes_text}
use Rattle.pl_model.specs.Said.{IsByte}
use Rattle.pl_model.proofs.saying.Joined.{IsWord}
use Rattle.pl_model.proofs.saying.Numerals.{IsDigit, decimal_digits, number_of_decimal}
use Rattle.pl_model.proofs.saying.Seams.{not_this, not_empty, word_by, seam_within, before_seam, after_seam}
use Rattle.pl_model.proofs.saying.Hexes.{IsGlyph, byte_back, hex_back, hex_glyphs, hex_some}

-- ---- one piece

abbrev piece_bytes : Piece → List ℕ
piece_bytes (Digits bytes) = bytes
piece_bytes (Times n b) = replicate n b

abbrev IsGood : Piece → Type 0
IsGood (Digits bytes) = (0 < length bytes) × All IsByte bytes
IsGood (Times n b) = (n ≤ most_bytes) × IsByte b

abbrev AreGood : List Piece → Type 0
AreGood [] = ⊤
AreGood (p ∷ ps) = IsGood p × AreGood ps

one : (b : ℕ) → IsByte b → All IsByte (b ∷ [])
one b byte = All-cons IsByte b [] byte (All-nil IsByte)

no_star : (text : List ℕ) → All (λ c. 48 ≤ c) text → All (λ c. is_star c ≡ false) text
no_star text all = All-weaker (λ c. 48 ≤ c) (λ c. is_star c ≡ false) (λ c le. ne_eqb c 42 (λ e. omega arith)) text all

hex_high : (bytes : List ℕ) → All IsByte bytes → All (λ c. 48 ≤ c) (hex_text bytes)
hex_high bytes all = All-weaker IsGlyph (λ c. 48 ≤ c) (λ c range. range.0) (hex_text bytes) (hex_glyphs bytes all)

decimal_high : (n : ℕ) → n < 2 ^ 64 → All (λ c. 48 ≤ c) (decimal n)
decimal_high n lt = All-weaker IsDigit (λ c. 48 ≤ c) (λ c digit. digit.0) (decimal n) (decimal_digits n lt)

plain_digits : (word : List ℕ) → 0 < length word → All (λ c. is_star c ≡ false) word → digits_or_repeated word ≡ hex_bytes word
unfolding digits_or_repeated
plain_digits word some none =
    let nowhere : position_or_len is_star word ≡ length word = position_or_len_is is_star word (length word) 0 (omega arith) (λ k lt. none k 0 lt) (λ (within : length word < length word). absurd (omega arith)) in
    rw (nowhere, le-ltb (length word) (length word) (omega arith), lt-ltb 0 (length word) some) refl

behind_star : (times digits : List ℕ) → All (λ c. is_star c ≡ false) times → digits_or_repeated (times ++ 42 ∷ digits) ≡ repeated times digits
unfolding digits_or_repeated
behind_star times digits none =
    let at : position_or_len is_star (times ++ 42 ∷ digits) ≡ length times = seam_within is_star 42 digits refl times none in
    let below : length times < length (times ++ 42 ∷ digits) = omega (arith, length-append times (42 ∷ digits)) in
    let test : nat_lt (position_or_len is_star (times ++ 42 ∷ digits)) (length (times ++ 42 ∷ digits)) ≡ true = ap (λ n. nat_lt n (length (times ++ 42 ∷ digits))) at ∙ lt-ltb (length times) (length (times ++ 42 ∷ digits)) below in
    rw test (λ i. repeated (before_seam is_star 42 digits refl times none i) (after_seam is_star 42 digits refl times none i))

repeated_says : (times digits : List ℕ) (n b : ℕ) → number (most_bytes + 1) times ≡ Some n → one_byte digits ≡ Some b → repeated times digits ≡ Some (replicate n b)
unfolding repeated
repeated_says times digits n b p q = rw (p, q) refl

one_back : (b : ℕ) → IsByte b → one_byte (hex_text (b ∷ [])) ≡ Some b
unfolding hex_text
one_back b byte = byte_back b byte

piece_back : (p : Piece) → IsGood p → digits_or_repeated (piece_text p) ≡ Some (piece_bytes p)
piece_back (Digits bytes) good =
    plain_digits (hex_text bytes) (hex_some bytes good.0) (no_star (hex_text bytes) (hex_high bytes good.1)) ∙ hex_back bytes good.1
piece_back (Times n b) good =
    let small : n < 2 ^ 64 = omega arith in
    behind_star (decimal n) (hex_text (b ∷ [])) (no_star (decimal n) (decimal_high n small))
    ∙ repeated_says (decimal n) (hex_text (b ∷ [])) n b (number_of_decimal (most_bytes + 1) n (omega arith) small) (one_back b good.1)

-- ---- pieces that `+` joins

-- a digit, or `*`
piece_chars : (p : Piece) → IsGood p → All (λ c. 42 ≤ c) (piece_text p)
piece_chars (Digits bytes) good = All-weaker (λ c. 48 ≤ c) (λ c. 42 ≤ c) (λ c le. omega arith) (hex_text bytes) (hex_high bytes good.1)
piece_chars (Times n b) good =
    let small : n < 2 ^ 64 = omega arith in
    All-append (λ c. 42 ≤ c) (decimal n) (42 ∷ hex_text (b ∷ [])) (All-weaker (λ c. 48 ≤ c) (λ c. 42 ≤ c) (λ c le. omega arith) (decimal n) (decimal_high n small))
    (All-cons (λ c. 42 ≤ c) 42 (hex_text (b ∷ [])) (omega arith) (All-weaker (λ c. 48 ≤ c) (λ c. 42 ≤ c) (λ c le. omega arith) (hex_text (b ∷ [])) (hex_high (b ∷ []) (one b good.1))))

no_plus_high : (text : List ℕ) → All (λ c. 48 ≤ c) text → All (λ c. is_plus c ≡ false) text
no_plus_high text all = All-weaker (λ c. 48 ≤ c) (λ c. is_plus c ≡ false) (λ c le. ne_eqb c 43 (λ e. omega arith)) text all

no_plus : (p : Piece) → IsGood p → All (λ c. is_plus c ≡ false) (piece_text p)
no_plus (Digits bytes) good = no_plus_high (hex_text bytes) (hex_high bytes good.1)
no_plus (Times n b) good =
    let small : n < 2 ^ 64 = omega arith in
    All-append (λ c. is_plus c ≡ false) (decimal n) (42 ∷ hex_text (b ∷ [])) (no_plus_high (decimal n) (decimal_high n small))
    (All-cons (λ c. is_plus c ≡ false) 42 (hex_text (b ∷ [])) refl (no_plus_high (hex_text (b ∷ [])) (hex_high (b ∷ []) (one b good.1))))

pieces_split : (ps : List Piece) (p : Piece) → AreGood (p ∷ ps) → slice_split is_plus (pieces_text (p ∷ ps)) ≡ map piece_text (p ∷ ps)
unfolding pieces_text
pieces_split [] p good = slice_split_none is_plus (piece_text p) (no_plus p good.0)
pieces_split (q ∷ ps) p good =
    slice_split_at is_plus (piece_text p) 43 (pieces_text (q ∷ ps)) (no_plus p good.0) refl ∙ ap (λ rest. piece_text p ∷ rest) (pieces_split ps q good.1)

first_then : (first rest : Option (List ℕ)) (bs more : List ℕ) → first ≡ Some bs → rest ≡ Some more → (first >>= λ f. rest >>= λ r. Some (f ++ r)) ≡ Some (bs ++ more)
first_then first rest bs more p q = rw (p, q) refl

pieces_say : (ps : List Piece) → AreGood ps → pieces (map piece_text ps) ≡ Some (flat_map piece_bytes ps)
unfolding pieces
pieces_say [] good = refl
pieces_say (p ∷ ps) good =
    first_then (digits_or_repeated (piece_text p)) (pieces (map piece_text ps)) (piece_bytes p) (flat_map piece_bytes ps) (piece_back p good.0) (pieces_say ps good.1)

all_say : (ps : List Piece) → AreGood ps → 0 < length ps → pieces (slice_split is_plus (pieces_text ps)) ≡ Some (flat_map piece_bytes ps)
all_say [] good some = absurd (omega arith)
all_say (p ∷ ps) good some = ap pieces (pieces_split ps p good) ∙ pieces_say (p ∷ ps) good

pieces_chars : (ps : List Piece) → AreGood ps → All (λ c. 42 ≤ c) (pieces_text ps)
unfolding pieces_text
pieces_chars [] good = All-nil (λ c. 42 ≤ c)
pieces_chars (p ∷ []) good = piece_chars p good.0
pieces_chars (p ∷ q ∷ ps) good =
    All-append (λ c. 42 ≤ c) (piece_text p) (43 ∷ pieces_text (q ∷ ps)) (piece_chars p good.0)
    (All-cons (λ c. 42 ≤ c) 43 (pieces_text (q ∷ ps)) (omega arith) (pieces_chars (q ∷ ps) good.1))

-- ---- the pieces of bytes

abbrev run_bytes : ℕ × ℕ → List ℕ
run_bytes r = replicate r.0 r.1

abbrev IsRun : ℕ × ℕ → Type 0
IsRun r = (0 < r.0) × IsByte r.1

abbrev AreRuns : List (ℕ × ℕ) → Type 0
AreRuns [] = ⊤
AreRuns (r ∷ rs) = IsRun r × AreRuns rs

onto_flat_by : (c : ℕ) (r : ℕ × ℕ) (rs : List (ℕ × ℕ)) (b : Bool) → (c == r.1) ≡ b → flat_map run_bytes (cond b ((r.0 + 1, c) ∷ rs) ((1, c) ∷ r ∷ rs)) ≡ c ∷ flat_map run_bytes (r ∷ rs)
onto_flat_by c r rs true e = rw (eqb-true c r.1 e, add-one) refl
onto_flat_by c r rs false e = refl

onto_flat : (c : ℕ) (rs : List (ℕ × ℕ)) → flat_map run_bytes (onto_runs c rs) ≡ c ∷ flat_map run_bytes rs
onto_flat c [] = refl
onto_flat c (r ∷ rs) = onto_flat_by c r rs (c == r.1) refl

runs_flat : (bytes : List ℕ) → flat_map run_bytes (runs bytes) ≡ bytes
unfolding runs
runs_flat [] = refl
runs_flat (c ∷ cs) = onto_flat c (runs cs) ∙ ap (λ rest. c ∷ rest) (runs_flat cs)

onto_are_by : (c : ℕ) (r : ℕ × ℕ) (rs : List (ℕ × ℕ)) (b : Bool) → IsByte c → AreRuns (r ∷ rs) → AreRuns (cond b ((r.0 + 1, c) ∷ rs) ((1, c) ∷ r ∷ rs))
onto_are_by c r rs true byte are = ((omega arith, byte), are.1)
onto_are_by c r rs false byte are = ((omega arith, byte), are)

onto_are : (c : ℕ) (rs : List (ℕ × ℕ)) → IsByte c → AreRuns rs → AreRuns (onto_runs c rs)
onto_are c [] byte are = ((omega arith, byte), tt)
onto_are c (r ∷ rs) byte are = onto_are_by c r rs (c == r.1) byte are

runs_are : (bytes : List ℕ) → All IsByte bytes → AreRuns (runs bytes)
unfolding runs
runs_are [] all = tt
runs_are (c ∷ cs) all = onto_are c (runs cs) (All-head IsByte c cs all) (runs_are cs (All-tail IsByte c cs all))

digits_flat : (bytes : List ℕ) (ps : List Piece) → flat_map piece_bytes (onto_digits bytes ps) ≡ bytes ++ flat_map piece_bytes ps
digits_flat bytes [] = refl
digits_flat bytes (Digits more ∷ ps) = append_assoc bytes more (flat_map piece_bytes ps)
digits_flat bytes (Times n b ∷ ps) = refl

digits_good : (bytes : List ℕ) (ps : List Piece) → 0 < length bytes → All IsByte bytes → AreGood ps → AreGood (onto_digits bytes ps)
digits_good bytes [] some all good = ((some, all), tt)
digits_good bytes (Digits more ∷ ps) some all good = ((omega (arith, length-append bytes more), All-append IsByte bytes more all good.0.1), good.1)
digits_good bytes (Times n b ∷ ps) some all good = ((some, all), good)

piece_flat_by : (r : ℕ × ℕ) (ps : List Piece) (b : Bool) → flat_map piece_bytes (cond b (Times r.0 r.1 ∷ ps) (onto_digits (replicate r.0 r.1) ps)) ≡ run_bytes r ++ flat_map piece_bytes ps
piece_flat_by r ps true = refl
piece_flat_by r ps false = digits_flat (replicate r.0 r.1) ps

pieces_flat : (rs : List (ℕ × ℕ)) → flat_map piece_bytes (run_pieces rs) ≡ flat_map run_bytes rs
unfolding run_pieces
pieces_flat [] = refl
pieces_flat (r ∷ rs) = piece_flat_by r (run_pieces rs) (nat_le 4 r.0) ∙ ap (λ rest. run_bytes r ++ rest) (pieces_flat rs)

piece_good_by : (r : ℕ × ℕ) (ps : List Piece) (b : Bool) → IsRun r → r.0 ≤ most_bytes → AreGood ps → AreGood (cond b (Times r.0 r.1 ∷ ps) (onto_digits (replicate r.0 r.1) ps))
piece_good_by r ps true run few good = ((few, run.1), good)
piece_good_by r ps false run few good =
    digits_good (replicate r.0 r.1) ps (omega (arith, length-replicate r.0 r.1, run.0)) (All-replicate IsByte r.0 r.1 run.1) good

pieces_good : (rs : List (ℕ × ℕ)) → AreRuns rs → length (flat_map run_bytes rs) ≤ most_bytes → AreGood (run_pieces rs)
unfolding run_pieces
pieces_good [] are few = tt
pieces_good (r ∷ rs) are few =
    let total : length (run_bytes r ++ flat_map run_bytes rs) ≡ length (run_bytes r) + length (flat_map run_bytes rs) = length-append (run_bytes r) (flat_map run_bytes rs) in
    let front : length (run_bytes r) ≡ r.0 = length-replicate r.0 r.1 in
    piece_good_by r (run_pieces rs) (nat_le 4 r.0) are.0 (omega arith) (pieces_good rs are.1 (omega arith))

some_pieces : (c : ℕ) (cs : List ℕ) (ps : List Piece) → flat_map piece_bytes ps ≡ c ∷ cs → 0 < length ps
some_pieces c cs [] e = absurd (cc)
some_pieces c cs (p ∷ ps) e = omega arith

-- ---- the word of bytes

module _ (c : ℕ) (cs : List ℕ) (all : All IsByte (c ∷ cs)) (few : length (c ∷ cs) ≤ most_bytes) where
  flat : flat_map piece_bytes (run_pieces (runs (c ∷ cs))) ≡ c ∷ cs
  flat = pieces_flat (runs (c ∷ cs)) ∙ runs_flat (c ∷ cs)

  good : AreGood (run_pieces (runs (c ∷ cs)))
  good = pieces_good (runs (c ∷ cs)) (runs_are (c ∷ cs) all) (omega (arith, ap length (runs_flat (c ∷ cs))))

  runs_back : pieces_of Two (runs_text (c ∷ cs)) ≡ Some (c ∷ cs)
  runs_back = all_say (run_pieces (runs (c ∷ cs))) good (some_pieces c cs (run_pieces (runs (c ∷ cs))) flat) ∙ ap (λ x. Some x) flat

  runs_chars : All (λ c. 42 ≤ c) (runs_text (c ∷ cs))
  runs_chars = pieces_chars (run_pieces (runs (c ∷ cs))) good

dash_says_nothing : pieces_of Two (codes "-") ≡ None
unfolding pieces digits_or_repeated hex_bytes
dash_says_nothing = refl

nothing_says_nothing : pieces_of Two [] ≡ None
unfolding pieces digits_or_repeated hex_bytes
nothing_says_nothing = refl

some_bytes : (word bytes : List ℕ) → bytes_eq word (codes "-") ≡ false → pieces_of Two word ≡ Some bytes → length bytes ≤ most_bytes → bytes_of Two word ≡ Some bytes
unfolding bytes_of
some_bytes word bytes isnt says few = rw (isnt, says, le-leb (length bytes) most_bytes few) refl

pub bytes_back : (bytes : List ℕ) → All IsByte bytes → length bytes ≤ most_bytes → bytes_of Two (bytes_text Two bytes) ≡ Some bytes
unfolding bytes_of bytes_text
bytes_back [] all few = refl
bytes_back (c ∷ cs) all few =
    let says : pieces_of Two (runs_text (c ∷ cs)) ≡ Some (c ∷ cs) = runs_back c cs all few in
    some_bytes (runs_text (c ∷ cs)) (c ∷ cs) (not_this (pieces_of Two) (runs_text (c ∷ cs)) (codes "-") (c ∷ cs) says dash_says_nothing) says few

pub bytes_word : (bytes : List ℕ) → All IsByte bytes → length bytes ≤ most_bytes → IsWord (bytes_text Two bytes)
unfolding bytes_text
bytes_word [] all few = word_by (codes "-") refl
bytes_word (c ∷ cs) all few = record {
  some = not_empty (pieces_of Two) (runs_text (c ∷ cs)) (c ∷ cs) (runs_back c cs all few) nothing_says_nothing;
  black = All-weaker (λ c. 42 ≤ c) (λ c. 32 < c) (λ c le. omega arith) (runs_text (c ∷ cs)) (runs_chars c cs all few);
}
