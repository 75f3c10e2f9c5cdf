-- What a live run has answered behind one line more.
use Rattle.std.proofs.Common.{◌≡◌, ℕ, ◌+◌, Bool, true, false, cond, ◌&&◌, List, [], ◌∷◌, ◌++◌, length, drop, Option, Some, None, inl, inr, refl, ap, ◌∙◌, sym, append_assoc, arith}
use Rattle.std.specs.Prelude.{filter, nat_le, ◌==◌, is_some}
use Rattle.std.proofs.lemmas.List.{append-nil}
use Rattle.std.proofs.lemmas.List.Elements.{filter-append}
use Rattle.pl_model.specs.declared.calls.Limits.{Limits}
use Rattle.pl_model.specs.declared.script.Line.{Line}
use Rattle.pl_model.specs.declared.script.Version.{Version}
use Rattle.pl_model.specs.declared.script.Version.TheVariants.{One, Two}
use Rattle.pl_model.specs.Numbered.{State, opening}
use Rattle.pl_model.specs.Lines.{line}
use Rattle.pl_model.specs.Script.{version_of_lines, names_version_2, header_lines, asked, if_good, with_line, are_marks, answer, next_state}
use Rattle.pl_script.specs.Live.{most_line_bytes, is_good, behind_header, asked_live, number_unless, bad_among, bad_lines, bad_answer, answer_then, answers_live, AreAnswered}
use Rattle.pl_script.specs.LineByLine.{IsAnswered}
use Rattle.pl_script.specs.LiveText.{StandsBehind, IsRunLine}
use Rattle.pl_script.proofs.RunSteps.{are_marks-cons, are_marks-nil}

-- the line names the version behind these
abbrev pub is_header_line : List (List ℕ) → List ℕ → Bool
is_header_line ls l = (length ls == 0) && names_version_2 l

-- ---- the lines behind the header

first_alone : (b : Bool) → b ≡ false → cond b Two One ≡ One
first_alone true e = absurd cc
first_alone false e = refl

later_line : (w l : List ℕ) (ws : List (List ℕ)) (b : Bool) → drop (header_lines (cond b Two One)) (w ∷ (ws ++ l ∷ [])) ≡ drop (header_lines (cond b Two One)) (w ∷ ws) ++ l ∷ []
later_line w l ws true = refl
later_line w l ws false = refl

-- a line that doesn't name the version is one more behind the header
pub one_behind : (ls : List (List ℕ)) (l : List ℕ) → is_header_line ls l ≡ false → (version_of_lines (ls ++ l ∷ []) ≡ version_of_lines ls) × (drop (header_lines (version_of_lines ls)) (ls ++ l ∷ []) ≡ behind_header ls ++ l ∷ [])
one_behind [] l plain = (first_alone (names_version_2 l) plain, refl)
one_behind (w ∷ ws) l plain = (refl, later_line w l ws (names_version_2 w))

length_by : (w : List ℕ) (ws : List (List ℕ)) (b : Bool) → header_lines (cond b Two One) + length (drop (header_lines (cond b Two One)) (w ∷ ws)) ≡ length (w ∷ ws)
length_by w ws true = omega arith
length_by w ws false = omega arith

pub length_behind : (ls : List (List ℕ)) → header_lines (version_of_lines ls) + length (behind_header ls) ≡ length ls
length_behind [] = refl
length_behind (w ∷ ws) = length_by w ws (names_version_2 w)

-- ---- bad lines

joins_numbers : (b : Bool) (n : ℕ) (rest tail : List ℕ) → number_unless b n (rest ++ tail) ≡ number_unless b n rest ++ tail
joins_numbers true n rest tail = refl
joins_numbers false n rest tail = refl

bad_among-push : (A : Type 0) (v : Version) (n : ℕ) (xs : List (List ℕ)) (l : List ℕ) (m : ℕ) → m ≡ n + length xs → bad_among A v n (xs ++ l ∷ []) ≡ bad_among A v n xs ++ number_unless (is_good A v l) m []
unfolding bad_among
bad_among-push A v n [] l m e =
    let same : n ≡ m = omega (arith, e) in
    rw same refl
bad_among-push A v n (x ∷ xs) l m e =
    let next : m ≡ (n + 1) + length xs = omega (arith, e) in
    ap (number_unless (is_good A v x) n) (bad_among-push A v (n + 1) xs l m next) ∙ joins_numbers (is_good A v x) n (bad_among A v (n + 1) xs) (number_unless (is_good A v l) m [])

pub bad_lines-push : (A : Type 0) (ls : List (List ℕ)) (l : List ℕ) → is_header_line ls l ≡ false → bad_lines A (ls ++ l ∷ []) ≡ bad_lines A ls ++ number_unless (is_good A (version_of_lines ls) l) (length ls + 1) []
unfolding bad_lines
bad_lines-push A ls l plain =
    let one = one_behind ls l plain in
    rw (one.0, one.1) (bad_among-push A (version_of_lines ls) (header_lines (version_of_lines ls) + 1) (behind_header ls) l (length ls + 1) (omega (arith, length_behind ls)))

-- ---- what is asked

and_right : (a b : Bool) → (a && b) ≡ true → b ≡ true
and_right true b h = h
and_right false b h = absurd cc

one_filtered : (A : Type 0) (v : Version) (l : List ℕ) → is_good A v l ≡ true → filter (is_good A v) (l ∷ []) ≡ l ∷ []
one_filtered A v l e = rw e refl

none_filtered : (A : Type 0) (v : Version) (l : List ℕ) → is_good A v l ≡ false → filter (is_good A v) (l ∷ []) ≡ []
none_filtered A v l e = rw e refl

module _ {A : Type 0} where
  good_first : (v : Version) (x : List ℕ) (o : Option (Option (Line A))) → line v x ≡ o → is_some o ≡ true → (xs ys : List (List ℕ)) (zs : List (Line A)) → asked v (xs ++ ys) ≡ asked v xs ++ zs
      → if_good o (asked v (xs ++ ys)) ≡ if_good o (asked v xs) ++ zs
  good_first v x None e good xs ys zs h = absurd cc
  good_first v x (Some None) e good xs ys zs h = h
  good_first v x (Some (Some asks)) e good xs ys zs h = ap (λ t. asks ∷ t) h

  asked_filter : (v : Version) (x : List ℕ) (b : Bool) → is_good A v x ≡ b → (xs ys : List (List ℕ)) → asked {A = A} v (filter (is_good A v) xs ++ ys) ≡ asked v (filter (is_good A v) xs) ++ asked v ys
      → asked {A = A} v (cond b (x ∷ filter (is_good A v) xs) (filter (is_good A v) xs) ++ ys) ≡ asked v (cond b (x ∷ filter (is_good A v) xs) (filter (is_good A v) xs)) ++ asked v ys
  unfolding asked
  asked_filter v x true e xs ys h = good_first v x (line v x) refl (and_right (nat_le (length x) most_line_bytes) (is_some (line {A = A} v x)) e) (filter (is_good A v) xs) ys (asked v ys) h
  asked_filter v x false e xs ys h = h

  -- good lines, and others behind them
  asked-good : (v : Version) (xs ys : List (List ℕ)) → asked {A = A} v (filter (is_good A v) xs ++ ys) ≡ asked v (filter (is_good A v) xs) ++ asked v ys
  unfolding asked
  asked-good v [] ys = refl
  asked-good v (x ∷ xs) ys = asked_filter v x (is_good A v x) refl xs ys (asked-good v xs ys)

  asked-one : (v : Version) (l : List ℕ) (o : Option (Line A)) → line v l ≡ Some o → asked v (l ∷ []) ≡ with_line o []
  unfolding asked
  asked-one v l o e = rw e refl

  -- a good line asks what it asks
  pub asked-push : (ls : List (List ℕ)) (l : List ℕ) (o : Option (Line A)) → is_header_line ls l ≡ false → is_good A (version_of_lines ls) l ≡ true → line (version_of_lines ls) l ≡ Some o
      → asked_live A (ls ++ l ∷ []) ≡ asked_live A ls ++ with_line o []
  unfolding asked_live
  asked-push ls l o plain good is =
      let one = one_behind ls l plain in
      let v : Version = version_of_lines ls in
      rw (one.0, one.1)
      (ap (asked (version_of_lines ls)) (filter-append (is_good A (version_of_lines ls)) (behind_header ls) (l ∷ []) ∙ ap (λ t. filter (is_good A (version_of_lines ls)) (behind_header ls) ++ t) (one_filtered A (version_of_lines ls) l good))
      ∙ asked-good (version_of_lines ls) (behind_header ls) (l ∷ [])
      ∙ ap (λ t. asked (version_of_lines ls) (filter (is_good A (version_of_lines ls)) (behind_header ls)) ++ t) (asked-one (version_of_lines ls) l o is))

  -- a bad line asks nothing
  pub asked-bad : (ls : List (List ℕ)) (l : List ℕ) → is_header_line ls l ≡ false → is_good A (version_of_lines ls) l ≡ false → asked_live A (ls ++ l ∷ []) ≡ asked_live A ls
  unfolding asked_live
  asked-bad ls l plain bad =
      let one = one_behind ls l plain in
      rw (one.0, one.1)
      (ap (asked (version_of_lines ls)) (filter-append (is_good A (version_of_lines ls)) (behind_header ls) (l ∷ []) ∙ ap (λ t. filter (is_good A (version_of_lines ls)) (behind_header ls) ++ t) (none_filtered A (version_of_lines ls) l bad) ∙ append-nil (filter (is_good A (version_of_lines ls)) (behind_header ls))))

-- ---- the header

header_first : (ls : List (List ℕ)) (l : List ℕ) → is_header_line ls l ≡ true → (ls ≡ []) × (names_version_2 l ≡ true)
header_first [] l named = (refl, named)
header_first (w ∷ ws) l named = absurd (grind (arith, named))

header_by : (A : Type 0) (l : List ℕ) (b : Bool) → b ≡ true → (cond b Two One ≡ Two) × (asked {A = A} (cond b Two One) (filter (is_good A (cond b Two One)) (drop (header_lines (cond b Two One)) (l ∷ []))) ≡ [])
    × (bad_among A (cond b Two One) (header_lines (cond b Two One) + 1) (drop (header_lines (cond b Two One)) (l ∷ [])) ≡ [])
    × (drop (header_lines (cond b Two One)) (l ∷ []) ≡ [])
unfolding asked bad_among
header_by A l true e = (refl, refl, refl, refl)
header_by A l false e = absurd cc

-- a line that names the version asks nothing, and is good
pub header_alone : (A : Type 0) (ls : List (List ℕ)) (l : List ℕ) → is_header_line ls l ≡ true
    → (ls ≡ []) × (version_of_lines (ls ++ l ∷ []) ≡ Two) × (asked_live A (ls ++ l ∷ []) ≡ []) × (bad_lines A (ls ++ l ∷ []) ≡ [])
    × (behind_header (ls ++ l ∷ []) ≡ [])
unfolding asked_live bad_lines
header_alone A ls l named =
    let is = header_first ls l named in
    let by = header_by A l (names_version_2 l) is.1 in
    rw is.0 (refl, by.0, by.1, by.2, by.3)

not_empty : (ls : List (List ℕ)) (l : List ℕ) → ls ++ l ∷ [] ≡ [] → ⊥
not_empty [] l e = absurd cc
not_empty (w ∷ ws) l e = absurd cc

pub nothing_bad : (A : Type 0) → bad_lines A [] ≡ []
unfolding bad_lines bad_among
nothing_bad A = refl

nothing_asked : (A : Type 0) → asked_live A [] ≡ []
unfolding asked_live asked
nothing_asked A = refl

-- ---- the answers

module _ {A : Type 0} where
  answers-bad : (v : Version) (s : State A) (l : List ℕ) (ls : List (List ℕ)) (marks : List Bool) → is_good A v l ≡ false → answers_live v s (l ∷ ls) marks ≡ bad_answer ++ answers_live v s ls marks
  unfolding answers_live
  answers-bad v s l ls marks bad = ap (λ b. answer_then v b (line v l) s marks (λ next more. answers_live v next ls more)) bad

  answers-silent : (v : Version) (s : State A) (l : List ℕ) (ls : List (List ℕ)) (marks : List Bool) → is_good A v l ≡ true → line {A = A} v l ≡ Some None → answers_live v s (l ∷ ls) marks ≡ answers_live v s ls marks
  unfolding answers_live
  answers-silent v s l ls marks good is =
      ap (λ b. answer_then v b (line v l) s marks (λ next more. answers_live v next ls more)) good
      ∙ ap (λ o. answer_then v true o s marks (λ next more. answers_live v next ls more)) is

  answers-asked : (v : Version) (s : State A) (l : List ℕ) (ls : List (List ℕ)) (x : Line A) (mark : Bool) (marks : List Bool) → is_good A v l ≡ true → line v l ≡ Some (Some x)
      → answers_live v s (l ∷ ls) (mark ∷ marks) ≡ (answer v s x mark ++ 10 ∷ []) ++ answers_live v (next_state s x mark) ls marks
  unfolding answers_live
  answers-asked v s l ls x mark marks good is =
      ap (λ b. answer_then v b (line v l) s (mark ∷ marks) (λ next more. answers_live v next ls more)) good
      ∙ ap (λ o. answer_then v true o s (mark ∷ marks) (λ next more. answers_live v next ls more)) is

  answers-none : (v : Version) (s : State A) (marks : List Bool) → answers_live v s [] marks ≡ []
  unfolding answers_live
  answers-none v s marks = refl

module _ {A : Type 0} {limits : Limits} {Stood : State A → Type 0} where
  pub at_first : Stood (opening limits) → StandsBehind limits Stood [] []
  at_first stands = record {
    state = opening limits;
    marks = [];
    stands = stands;
    fresh = λ e. (stands, refl);
    texts = λ others more. refl;
    lawful = λ others more. rw (nothing_asked A) refl;
  }

  -- the line that names the version
  pub behind_version : (ls : List (List ℕ)) (l text : List ℕ) → is_header_line ls l ≡ true → StandsBehind limits Stood ls text → StandsBehind limits Stood (ls ++ l ∷ []) text
  behind_version ls l text named at =
      let is = header_alone A ls l named in
      let new = at.fresh is.0 in
      rw new.1 (record {
        state = opening limits;
        marks = [];
        stands = new.0;
        fresh = λ e. (new.0, refl);
        texts = λ others more. rw is.4 refl;
        lawful = λ others more. rw is.2 refl;
      })

  -- a line that isn't good, or asks nothing, with what comes of the text
  behind_same : (After : State A → Type 0) (ls : List (List ℕ)) (l text new : List ℕ) → is_header_line ls l ≡ false → asked_live A (ls ++ l ∷ []) ≡ asked_live A ls
      → ((s : State A) (others : List (List ℕ)) (more : List Bool) → text ++ answers_live (version_of_lines ls) s (l ∷ others) more ≡ new ++ answers_live (version_of_lines ls) s others more)
      → ((s : State A) → Stood s → After s) → StandsBehind limits Stood ls text → StandsBehind limits After (ls ++ l ∷ []) new
  behind_same After ls l text new plain same tells keeps at =
      let one = one_behind ls l plain in
      record {
        state = at.state;
        marks = at.marks;
        stands = keeps at.state at.stands;
        fresh = λ e. absurd (not_empty ls l e);
        texts = λ others more. rw (one.0, one.1, append_assoc (behind_header ls) (l ∷ []) others) (at.texts (l ∷ others) more ∙ tells at.state others more);
        lawful = λ others more. rw same (at.lawful others more);
      }

  pub behind_bad : (After : State A → Type 0) (ls : List (List ℕ)) (l text : List ℕ) → is_header_line ls l ≡ false → is_good A (version_of_lines ls) l ≡ false → ((s : State A) → Stood s → After s)
      → StandsBehind limits Stood ls text → StandsBehind limits After (ls ++ l ∷ []) (text ++ bad_answer)
  behind_bad After ls l text plain bad keeps at = behind_same After ls l text (text ++ bad_answer) plain (asked-bad ls l plain bad)
      (λ s others more. ap (λ t. text ++ t) (answers-bad (version_of_lines ls) s l others more bad) ∙ sym (append_assoc text bad_answer (answers_live (version_of_lines ls) s others more))) keeps at

  pub behind_silent : (After : State A → Type 0) (ls : List (List ℕ)) (l text : List ℕ) → is_header_line ls l ≡ false → is_good A (version_of_lines ls) l ≡ true → line {A = A} (version_of_lines ls) l ≡ Some None
      → ((s : State A) → Stood s → After s) → StandsBehind limits Stood ls text → StandsBehind limits After (ls ++ l ∷ []) text
  behind_silent After ls l text plain good is keeps at = behind_same After ls l text text plain (asked-push ls l None plain good is ∙ append-nil (asked_live A ls))
      (λ s others more. ap (λ t. text ++ t) (answers-silent (version_of_lines ls) s l others more good is)) keeps at

  pub behind_answered : (After : State A → Type 0) (ls : List (List ℕ)) (l front before new : List ℕ) (x : Line A) (mark : Bool) → is_header_line ls l ≡ false → is_good A (version_of_lines ls) l ≡ true
      → line {A = A} (version_of_lines ls) l ≡ Some (Some x) → IsAnswered (version_of_lines ls) Stood After x mark before new
      → StandsBehind limits Stood ls (front ++ before) → StandsBehind limits After (ls ++ l ∷ []) (front ++ new)
  behind_answered After ls l front before new x mark plain good is answered at =
      let one = one_behind ls l plain in
      let v : Version = version_of_lines ls in
      let done = answered at.state at.stands in
      let written : List ℕ = answer (version_of_lines ls) at.state x mark ++ 10 ∷ [] in
      let grown : front ++ new ≡ (front ++ before) ++ (answer (version_of_lines ls) at.state x mark ++ 10 ∷ []) = ap (λ t. front ++ t) done.text ∙ sym (append_assoc front before (answer (version_of_lines ls) at.state x mark ++ 10 ∷ [])) in
      let asks : (others : List (Line A)) → asked_live A (ls ++ l ∷ []) ++ others ≡ asked_live A ls ++ (x ∷ others) = λ others. ap (λ t. t ++ others) (asked-push ls l (Some x) plain good is) ∙ append_assoc (asked_live A ls) (x ∷ []) others in
      record {
        state = next_state at.state x mark;
        marks = at.marks ++ mark ∷ [];
        stands = done.stands;
        fresh = λ e. absurd (not_empty ls l e);
        texts = λ others more. rw (one.0, one.1, append_assoc (behind_header ls) (l ∷ []) others, append_assoc at.marks (mark ∷ []) more)
            (at.texts (l ∷ others) (mark ∷ more)
            ∙ ap (λ t. (front ++ before) ++ t) (answers-asked (version_of_lines ls) at.state l others x mark more good is)
            ∙ sym (append_assoc (front ++ before) (answer (version_of_lines ls) at.state x mark ++ 10 ∷ []) (answers_live (version_of_lines ls) (next_state at.state x mark) others more))
            ∙ ap (λ t. t ++ answers_live (version_of_lines ls) (next_state at.state x mark) others more) (sym grown));
        lawful = λ others more. rw (asks others, append_assoc at.marks (mark ∷ []) more) (at.lawful (x ∷ others) (mark ∷ more) ∙ are_marks-cons at.state x others mark more done.lawful);
      }

  -- a good line that was run
  pub behind_run : (After : State A → Type 0) (ls : List (List ℕ)) (l front before new : List ℕ) → is_header_line ls l ≡ false → is_good A (version_of_lines ls) l ≡ true
      → IsRunLine A (version_of_lines ls) Stood After l before new → StandsBehind limits Stood ls (front ++ before) → StandsBehind limits After (ls ++ l ∷ []) (front ++ new)
  behind_run After ls l front before new plain good (inl silent) at = rw silent.2 (behind_silent After ls l (front ++ before) plain good silent.0 silent.1 at)
  behind_run After ls l front before new plain good (inr run) at = behind_answered After ls l front before new run.0 run.1 plain good run.2 run.3 at

  -- what was answered is the whole text
  pub answered_so_far : (ls : List (List ℕ)) (text refused : List ℕ) → StandsBehind limits Stood ls text → refused ≡ bad_lines A ls → AreAnswered A limits ls text refused
  answered_so_far ls text refused at bad = record {
    marks = at.marks;
    lawful = ap (λ xs. are_marks (opening limits) xs at.marks) (sym (append-nil (asked_live A ls))) ∙ ap (are_marks (opening limits) (asked_live A ls ++ [])) (sym (append-nil at.marks)) ∙ at.lawful [] [] ∙ are_marks-nil at.state;
    answers =
        sym (ap (λ xs. answers_live (version_of_lines ls) (opening {A = A} limits) xs at.marks) (sym (append-nil (behind_header ls)))
        ∙ ap (answers_live (version_of_lines ls) (opening {A = A} limits) (behind_header ls ++ [])) (sym (append-nil at.marks))
        ∙ at.texts [] [] ∙ ap (λ t. text ++ t) (answers-none (version_of_lines ls) at.state []) ∙ append-nil text);
    bad = bad;
  }
