-- The pieces of bytes, taken from their front.
use Rattle.std.proofs.Common.{◌≡◌, ℕ, suc, zero, ◌+◌, ◌<◌, ◌≤◌, Bool, true, false, List, [], ◌∷◌, ◌++◌, length, get_or, take, drop, replicate, add-one, refl, sym, ap, ◌∙◌, append_assoc, inl, inr, Result, Ok, arith}
use Rattle.std.specs.Prelude.{codes}
use Rattle.std.proofs.lemmas.Bool.{cases_eq, cases_lt, eq-eqb, ne_eqb, le-leb, lt-leb}
use Rattle.std.proofs.lemmas.List.{append-nil, get_or-drop, length-drop}
use Rattle.pl_model.specs.Shown.{runs, onto_runs, Piece, Digits, Times, onto_digits, onto_pieces, run_pieces, piece_text, pieces_text, runs_text}
use Rattle.pl_lines.specs.Pushed.{Pushes}
use Rattle.pl_lines.specs.Runs.{FourBegin, IsBeforeFour, IsFirstRun}
use Rattle.pl_lines.proofs.Pushing.{IsSoFar, one_more}

-- the pieces of bytes
abbrev pub pieces : List ℕ → List Piece
pieces bytes = run_pieces (runs bytes)

-- ---- the first run

-- what the first of its runs says of bytes
abbrev FirstRunSays : List ℕ → List (ℕ × ℕ) → Type 0
FirstRunSays bytes [] = bytes ≡ []
FirstRunSays bytes (r ∷ rs) = IsFirstRun bytes r.0 × (get_or bytes 0 0 ≡ r.1)

-- a byte before another
run_of_one : (c : ℕ) (cs : List ℕ) → (0 < length cs → get_or cs 0 0 ≡ c → ⊥) → IsFirstRun (c ∷ cs) 1
run_of_one c cs other = record {
  some = omega arith;
  within = omega arith;
  equal = λ k lt. let first : k ≡ 0 = omega arith in rw first refl;
  ends = λ lt. other (omega arith);
}

more_equal : (c : ℕ) (cs : List ℕ) (n : ℕ) → get_or cs 0 0 ≡ c → IsFirstRun cs n → (k : ℕ) → k < suc n → get_or (c ∷ cs) k 0 ≡ c
more_equal c cs n same run zero lt = refl
more_equal c cs n same run (suc k) lt = run.equal k (omega arith) ∙ same

-- a byte before a run of its kind
longer_run : (c : ℕ) (cs : List ℕ) (n : ℕ) → get_or cs 0 0 ≡ c → IsFirstRun cs n → IsFirstRun (c ∷ cs) (suc n)
longer_run c cs n same run = record {
  some = omega arith;
  within = omega (arith, run.within);
  equal = more_equal c cs n same run;
  ends = λ lt e. run.ends (omega arith) (e ∙ sym same);
}

onto_says : (c : ℕ) (cs : List ℕ) (rs : List (ℕ × ℕ)) → FirstRunSays cs rs → FirstRunSays (c ∷ cs) (onto_runs c rs)
onto_says c cs [] says = (run_of_one c cs (λ lt. absurd (omega (arith, ap length says))), refl)
onto_says c cs (r ∷ rs) says = elim (cases_eq c r.1) [
  | inl e ↦ rw (eq-eqb c r.1 e, add-one) (longer_run c cs r.0 (says.1 ∙ sym e) says.0, refl)
  | inr ne ↦ rw (ne_eqb c r.1 ne) (run_of_one c cs (λ lt same. ne (sym same ∙ says.1)), refl)
]

first_says : (bytes : List ℕ) → FirstRunSays bytes (runs bytes)
unfolding runs
first_says [] = refl
first_says (c ∷ cs) = onto_says c cs (runs cs) (first_says cs)

-- ---- a run of four bytes or more

-- a byte before a run of another
onto_other : (c : ℕ) (cs : List ℕ) (rs : List (ℕ × ℕ)) → FirstRunSays cs rs → (0 < length cs → get_or cs 0 0 ≡ c → ⊥) → onto_runs c rs ≡ (1, c) ∷ rs
onto_other c cs [] says other = refl
onto_other c cs (r ∷ rs) says other =
    let some : 0 < length cs = omega (arith, says.0.some, says.0.within) in
    rw (ne_eqb c r.1 (λ e. other some (says.1 ∙ sym e))) refl

onto_same : (c n : ℕ) (rs : List (ℕ × ℕ)) → onto_runs c ((n, c) ∷ rs) ≡ (suc n, c) ∷ rs
onto_same c n rs = rw (eq-eqb c c refl, add-one) refl

next_same : {c : ℕ} {cs : List ℕ} {n : ℕ} → IsFirstRun (c ∷ cs) (suc (suc n)) → get_or cs 0 0 ≡ c
next_same run = run.equal 1 (omega arith)

-- a run of two bytes or more without its first
shorter_run : {c : ℕ} {cs : List ℕ} {n : ℕ} → IsFirstRun (c ∷ cs) (suc (suc n)) → IsFirstRun cs (suc n)
shorter_run run = record {
  some = omega arith;
  within = omega (arith, run.within);
  equal = λ k lt. run.equal (suc k) (omega arith) ∙ sym (next_same run);
  ends = λ lt e. run.ends (omega arith) (e ∙ next_same run);
}

-- the first run, and then those of the bytes behind it
first_run : (bytes : List ℕ) (len : ℕ) → IsFirstRun bytes len → runs bytes ≡ (len, get_or bytes 0 0) ∷ runs (drop len bytes)
unfolding runs
first_run [] len run = absurd (omega (arith, run.some, run.within))
first_run (c ∷ cs) zero run = absurd (omega (arith, run.some))
first_run (c ∷ cs) (suc zero) run = onto_other c cs (runs cs) (first_says cs) (λ lt. run.ends (omega arith))
first_run (c ∷ cs) (suc (suc n)) run =
    let later = ap (onto_runs c) (first_run cs (suc n) (shorter_run run)) in
    later ∙ rw (next_same run) (onto_same c (suc n) (runs (drop (suc n) cs)))

four_in_front : (bytes : List ℕ) (len : ℕ) → IsFirstRun bytes len → 4 ≤ len → FourBegin bytes 0
four_in_front bytes len run le = record {
  within = omega (arith, run.within);
  second = run.equal 1 (omega arith);
  third = run.equal 2 (omega arith);
  fourth = run.equal 3 (omega arith);
}

four_or_more : (bytes : List ℕ) (len : ℕ) → IsFirstRun bytes len → FourBegin bytes 0 → 4 ≤ len
four_or_more bytes zero run four = absurd (omega (arith, run.some))
four_or_more bytes (suc zero) run four = absurd (run.ends (omega (arith, four.within)) four.second)
four_or_more bytes (suc (suc zero)) run four = absurd (run.ends (omega (arith, four.within)) four.third)
four_or_more bytes (suc (suc (suc zero))) run four = absurd (run.ends (omega (arith, four.within)) four.fourth)
four_or_more bytes (suc (suc (suc (suc n)))) run four = omega arith

-- a run of four bytes or more is the first piece
pub run_first : (bytes : List ℕ) (len : ℕ) → IsFirstRun bytes len → FourBegin bytes 0 → pieces bytes ≡ Times len (get_or bytes 0 0) ∷ pieces (drop len bytes)
unfolding run_pieces
run_first bytes len run four = ap run_pieces (first_run bytes len run) ∙ rw (le-leb 4 len (four_or_more bytes len run four)) refl

-- ---- digits

onto_both : (first second : List ℕ) (ps : List Piece) → onto_digits first (onto_digits second ps) ≡ onto_digits (first ++ second) ps
onto_both first second [] = refl
onto_both first second (Digits more ∷ ps) = ap (λ bytes. Digits bytes ∷ ps) (sym (append_assoc first second more))
onto_both first second (Times n b ∷ ps) = refl

short_onto : (c n : ℕ) (ps : List Piece) → n + 1 < 4 → onto_pieces (n + 1, c) ps ≡ onto_digits (c ∷ []) (onto_pieces (n, c) ps)
short_onto c n ps lt =
    let less : n < 4 = omega arith in
    rw (lt-leb 4 (n + 1) lt, lt-leb 4 n less, add-one) (sym (onto_both (c ∷ []) (replicate n c) ps))

-- a byte before runs is shown by digits, if it makes no run of four
digit_onto : (c : ℕ) (cs : List ℕ) (rs : List (ℕ × ℕ)) → FirstRunSays cs rs → (FourBegin (c ∷ cs) 0 → ⊥) → run_pieces (onto_runs c rs) ≡ onto_digits (c ∷ []) (run_pieces rs)
unfolding run_pieces
digit_onto c cs [] says none = refl
digit_onto c cs (r ∷ rs) says none = elim (cases_eq c r.1) [
  | inl e ↦
      let short : r.0 + 1 < 4 = elim (cases_lt (r.0 + 1) 4) [ inl lt ↦ lt | inr le ↦ absurd (none (four_in_front (c ∷ cs) (suc r.0) (longer_run c cs r.0 (says.1 ∙ sym e) says.0) (omega arith))) ] in
      rw (e, eq-eqb r.1 r.1 refl) (short_onto r.1 r.0 (run_pieces rs) short)
  | inr ne ↦ rw (ne_eqb c r.1 ne) refl
]

digit_first : (c : ℕ) (cs : List ℕ) → (FourBegin (c ∷ cs) 0 → ⊥) → pieces (c ∷ cs) ≡ onto_digits (c ∷ []) (pieces cs)
unfolding runs
digit_first c cs none = digit_onto c cs (runs cs) (first_says cs) none

-- what begins a place later where a byte stands in front
later_four : {c : ℕ} {cs : List ℕ} (k : ℕ) → FourBegin cs k → FourBegin (c ∷ cs) (suc k)
later_four {c = c} {cs = cs} k four =
    let one : suc k + 1 ≡ suc (k + 1) = omega arith in
    let two : suc k + 2 ≡ suc (k + 2) = omega arith in
    let three : suc k + 3 ≡ suc (k + 3) = omega arith in
    record {
      within = omega (arith, four.within);
      second = rw one four.second;
      third = rw two four.third;
      fourth = rw three four.fourth;
    }

-- bytes among which no four equal ones begin are digits before what follows
digits_onto : (bytes : List ℕ) (n : ℕ) → n < length bytes → ((k : ℕ) → k < suc n → FourBegin bytes k → ⊥)
    → pieces bytes ≡ onto_digits (take (suc n) bytes) (pieces (drop (suc n) bytes))
digits_onto [] n within none = absurd (omega arith)
digits_onto (c ∷ cs) zero within none = digit_first c cs (none 0 (omega arith))
digits_onto (c ∷ cs) (suc n) within none =
    let later = digits_onto cs n (omega arith) (λ k lt four. none (suc k) (omega arith) (later_four k four)) in
    digit_first c cs (none 0 (omega arith)) ∙ ap (onto_digits (c ∷ [])) later ∙ onto_both (c ∷ []) (take (suc n) cs) (pieces (drop (suc n) cs))

-- digits don't join a run of four or more
apart : (digits bytes : List ℕ) (rs : List (ℕ × ℕ)) → FirstRunSays bytes rs → (0 < length bytes → FourBegin bytes 0) → onto_digits digits (run_pieces rs) ≡ Digits digits ∷ run_pieces rs
unfolding run_pieces
apart digits bytes [] says four = refl
apart digits bytes (r ∷ rs) says four =
    let some : 0 < length bytes = omega (arith, says.0.some, says.0.within) in
    rw (le-leb 4 r.0 (four_or_more bytes r.0 says.0 (four some))) refl

four_behind : (bytes : List ℕ) (place : ℕ) → FourBegin bytes place → FourBegin (drop place bytes) 0
four_behind bytes place four =
    let none_more : place + 0 ≡ place = omega arith in
    let here : get_or bytes place 0 ≡ get_or (drop place bytes) 0 0 = rw (get_or-drop, none_more) refl in
    record {
      within = omega (arith, four.within, length-drop place bytes);
      second = get_or-drop place bytes 1 0 ∙ four.second ∙ here;
      third = get_or-drop place bytes 2 0 ∙ four.third ∙ here;
      fourth = get_or-drop place bytes 3 0 ∙ four.fourth ∙ here;
    }

-- what stands before the first four equal bytes is the first piece
pub digits_first : (bytes : List ℕ) (len : ℕ) → 0 < len → IsBeforeFour bytes len → pieces bytes ≡ Digits (take len bytes) ∷ pieces (drop len bytes)
digits_first bytes zero lt before = absurd (omega arith)
digits_first bytes (suc n) lt before =
    let rest = drop (suc n) bytes in
    digits_onto bytes n (omega (arith, before.within)) before.none_before
    ∙ apart (take (suc n) bytes) rest (runs rest) (first_says rest) (λ some. four_behind bytes (suc n) (before.there (omega (arith, length-drop (suc n) bytes))))

-- ---- what is put of them

-- the pieces that are still to come, behind others or none
abbrev pub pieces_left : Bool → List Piece → List ℕ
pieces_left others [] = []
pieces_left true (p ∷ ps) = codes "+" ++ pieces_text (p ∷ ps)
pieces_left false (p ∷ ps) = pieces_text (p ∷ ps)

all_left : (ps : List Piece) → pieces_text ps ≡ pieces_left false ps
unfolding pieces_text
all_left [] = refl
all_left (p ∷ ps) = refl

first_text : (p : Piece) (ps : List Piece) → pieces_text (p ∷ ps) ≡ piece_text p ++ pieces_left true ps
unfolding pieces_text
first_text p [] = sym (append-nil (piece_text p))
first_text p (q ∷ ps) = refl

-- the pieces of the rest are still to be put, and those before them were
abbrev pub ArePut : List ℕ → List ℕ → List ℕ → Bool → List ℕ → Type 0
ArePut bytes before now others rest = IsSoFar (runs_text bytes) before now (pieces_left others (pieces rest))

pub no_piece_yet : (bytes text : List ℕ) → ArePut bytes text text false bytes
no_piece_yet bytes text = record { put = []; added = sym (append-nil text); left = all_left (pieces bytes) }

pub sign_put : {X E : Type 0} {tried : Result X E} {before now after : List ℕ} {p : Piece} {ps : List Piece} (bytes rest : List ℕ) (x : X) → ArePut bytes before now true rest → pieces rest ≡ p ∷ ps
    → tried ≡ Ok x → Pushes tried now after (codes "+") → IsSoFar (runs_text bytes) before after (pieces_text (p ∷ ps))
sign_put bytes rest x so_far are is pushed = one_more so_far _ x is pushed (rw are refl)

pub no_sign : {before now : List ℕ} {p : Piece} {ps : List Piece} (bytes rest : List ℕ) → ArePut bytes before now false rest → pieces rest ≡ p ∷ ps
    → IsSoFar (runs_text bytes) before now (pieces_text (p ∷ ps))
no_sign bytes rest so_far are = rw are at so_far

pub piece_put : {X E : Type 0} {tried : Result X E} {before now after : List ℕ} (bytes : List ℕ) (p : Piece) (behind : List ℕ) (x : X) → IsSoFar (runs_text bytes) before now (pieces_text (p ∷ pieces behind))
    → tried ≡ Ok x → Pushes tried now after (piece_text p) → ArePut bytes before after true behind
piece_put bytes p behind x so_far is pushed = one_more so_far _ x is pushed (first_text p (pieces behind))

nothing_left : (bytes : List ℕ) (others : Bool) → length bytes ≡ 0 → pieces_left others (pieces bytes) ≡ []
unfolding runs run_pieces
nothing_left [] others e = refl
nothing_left (b ∷ bytes) others e = absurd (omega arith)

pub no_piece_left : {before now : List ℕ} (bytes : List ℕ) (others : Bool) (rest : List ℕ) → length rest ≡ 0 → ArePut bytes before now others rest → IsSoFar (runs_text bytes) before now []
no_piece_left bytes others rest none so_far = rw (nothing_left rest others none) at so_far
