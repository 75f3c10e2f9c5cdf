-- From one line of a script to the next.
use Rattle.std.proofs.Common.{◌≡◌, ℕ, ◌+◌, ◌<◌, ◌≤◌, Bool, true, false, cond, ◌&&◌, List, [], ◌∷◌, ◌++◌, length, take, drop, Option, Some, None, Ok, Err, inr, refl, sym, ap, subst, ◌∙◌, append_assoc, add-zero, arith}
use Rattle.std.specs.Prelude.{ℤ, count_by, replicate, IfSome}
use Rattle.std.specs.Io.KnownBytes.{Appends}
use Rattle.std.proofs.KnownBytes.{Appends-nil, Appends-trans}
use Rattle.std.proofs.lemmas.List.{append-nil, take-append-drop, length-append, length-drop}
use Rattle.std.proofs.lemmas.List.Sums.{sum_by-cons, sum_by_push}
use Rattle.pl_model.specs.declared.calls.Limits.{Limits}
use Rattle.pl_model.specs.declared.calls.Call.TheVariants.{Write}
use Rattle.pl_model.specs.declared.calls.Step.{Step}
use Rattle.pl_model.specs.declared.calls.Step.TheVariants.{Begin}
use Rattle.pl_model.specs.declared.replies.Reply.{Reply}
use Rattle.pl_model.specs.declared.replies.Outcome.TheVariants.{Replied}
use Rattle.pl_model.specs.declared.script.Line.{Line}
use Rattle.pl_model.specs.declared.script.Line.TheVariants.{Do}
use Rattle.pl_model.specs.declared.script.Totals.{Totals}
use Rattle.pl_model.specs.declared.script.Version.{Version}
use Rattle.pl_model.specs.declared.script.Version.TheVariants.{One, Two}
use Rattle.pl_model.specs.Numbered.{State, opening, step}
use Rattle.pl_model.specs.Lines.{line}
use Rattle.pl_model.specs.Numbers.{most_script_bytes}
use Rattle.pl_model.specs.Shown.{outcome_text}
use Rattle.pl_model.specs.Script.{asked, answers, if_good, first_bad, number_if_bad, lines, version_of, version_of_lines, names_version_2, header_lines, body, bad_line, next_state, answer, are_marks, never_marked, is_step}
use Rattle.pl_script.specs.declared.fault.ScriptFault.TheVariants as faults
use Rattle.pl_script.specs.declared.fault.ScriptFault.{ScriptFault}
use Rattle.pl_script.specs.Running.{IsRun, IsCountedRun, Asks, WritesOutput, WritesFrontOfOutput, WritesAndCounts, WritesLinesBefore}
use Rattle.pl_script.specs.LineByLine.{IsAt, IsAnswered, IsRefused, Stops}
use Rattle.pl_words.specs.declared.fault.LineFault.{LineFault}
use Rattle.pl_words.specs.declared.fault.LineFault.TheVariants.{Bad, NoMemory}
use Rattle.pl_lines.specs.Parsed.{WritesSoMany}
use Rattle.pl_lines.proofs.LineLemmas.{length-lines}

-- ---- the definitions, one line at a time

pub first_bad-cons : (A : Type 0) (version : Version) (n : ℕ) (l : List ℕ) (ls : List (List ℕ)) (o : Option (Option (Line A))) → line version l ≡ o → first_bad A version n (l ∷ ls) ≡ number_if_bad o n (first_bad A version (n + 1) ls)
unfolding first_bad
first_bad-cons A version n l ls o e = ap (λ p. number_if_bad p n (first_bad A version (n + 1) ls)) e

pub first_bad-nil : (A : Type 0) (version : Version) (n : ℕ) → first_bad A version n [] ≡ None
unfolding first_bad
first_bad-nil A version n = refl

pub asked-nil : (A : Type 0) (version : Version) → asked {A = A} version [] ≡ []
unfolding asked
asked-nil A version = refl

at_most_one : (b : Bool) → cond b 1 0 ≤ 1
at_most_one true = omega arith
at_most_one false = omega arith

abbrev counts : ℕ → ℕ → ℕ → Totals
counts a b c = record { lines = a; steps = b; nomem = c }

same_counts : (a b c x y z : ℕ) → a ≡ x → b ≡ y → c ≡ z → counts a b c ≡ counts x y z
same_counts a b c x y z p q r = rw (p, q, r) refl

-- the line joins those before it
pub joins : (before : List (List ℕ)) (l : List ℕ) (others : List (List ℕ)) → (before ++ l ∷ []) ++ others ≡ before ++ (l ∷ others)
joins before l others = append_assoc before (l ∷ []) others

one_more : (before : List (List ℕ)) (l : List ℕ) (n h : ℕ) → n ≡ h + length before → n + 1 ≡ h + length (before ++ l ∷ [])
one_more before l n h e = omega (arith, e, length-append before (l ∷ []))

-- the line that names the version is one of the script's lines
header_within : (ls : List (List ℕ)) → header_lines (version_of_lines ls) ≤ length ls
header_within [] = omega arith
header_within (first ∷ rest) = by (names_version_2 first)
  where
    by : (b : Bool) → header_lines (cond b Two One) ≤ length (first ∷ rest)
    by true = omega arith
    by false = omega arith

module _ {A : Type 0} where
  pub asked-cons : (version : Version) (l : List ℕ) (ls : List (List ℕ)) (o : Option (Option (Line A))) → line version l ≡ o → asked version (l ∷ ls) ≡ if_good o (asked version ls)
  unfolding asked
  asked-cons version l ls o e = ap (λ p. if_good p (asked version ls)) e

  pub answers-cons : (version : Version) (s : State A) (x : Line A) (xs : List (Line A)) (m : Bool) (ms : List Bool) → answers version s (x ∷ xs) (m ∷ ms) ≡ (answer version s x m ++ 10 ∷ []) ++ answers version (next_state s x m) xs ms
  unfolding answers
  answers-cons version s x xs m ms = refl

  pub answers-nil : (version : Version) (s : State A) (ms : List Bool) → answers version s [] ms ≡ []
  unfolding answers
  answers-nil version s ms = refl

  pub are_marks-cons : (s : State A) (x : Line A) (xs : List (Line A)) (m : Bool) (ms : List Bool) → (m && never_marked s x) ≡ false → are_marks s (x ∷ xs) (m ∷ ms) ≡ are_marks (next_state s x m) xs ms
  unfolding are_marks
  are_marks-cons s x xs m ms e = rw e refl

  pub are_marks-nil : (s : State A) → are_marks s [] [] ≡ true
  unfolding are_marks
  are_marks-nil s = refl

  -- a line whose step was made
  pub replies : (version : Version) (old new : State A → Type 0) (asked : Line A) (x : Step A) (reply : Reply A) (before after : List ℕ) → asked ≡ Do x
      → ((s : State A) → old s → (reply ≡ (step s x).reply) × new (step s x).state) → after ≡ before ++ (outcome_text version (Replied reply) ++ 10 ∷ [])
      → IsAnswered version old new asked false before after
  replies version old new asked x reply before after is made text = λ s stood.
      let done = made s stood in
      rw is (record { stands = done.1; text = text ∙ ap (λ r. before ++ (outcome_text version (Replied r) ++ 10 ∷ [])) done.0; lawful = refl })

  -- a line that writes so many bytes, and is refused whatever they are
  pub is_refused : (version : Version) (Stands : State A → Type 0) (bytes : List ℕ) (pid : ℕ) (fd : ℤ) (n : ℕ) (told : Option (Reply A)) → WritesSoMany A version bytes pid fd n
      → IfSome told (λ reply. (written : List ℕ) → length written ≡ n → (s : State A) → Stands s → (reply ≡ (step s (Begin pid (Write fd written))).reply) × Stands (step s (Begin pid (Write fd written))).state)
      → IfSome told (IsRefused version Stands bytes)
  is_refused version Stands bytes pid fd n None writes makes = tt
  is_refused version Stands bytes pid fd n (Some reply) writes makes = record { asked = Begin pid (Write fd writes.0); asks = writes.1; made = makes writes.0 writes.2 }

  -- as many marks as there are lines, none of them set
  abbrev pub no_marks : List (Line A) → List Bool
  no_marks xs = replicate (length xs) false

  pub are_marks-no_marks : (s : State A) (xs : List (Line A)) → are_marks s xs (no_marks xs) ≡ true
  unfolding are_marks
  are_marks-no_marks s [] = refl
  are_marks-no_marks s (x ∷ xs) = are_marks-no_marks (next_state s x false) xs

  -- ---- the start, and each line

  at_start : (script : List ℕ) (limits : Limits) (Stands : State A → Type 0) → Stands (opening limits) → IsAt script limits Stands [] (counts (header_lines (version_of script)) 0 0) (body script)
  at_start script limits Stands stands = record {
    before = [];
    state = opening limits;
    marks = [];
    stands = stands;
    parts = refl;
    texts = λ others more. refl;
    lawful = λ others more. refl;
    bad = λ others. refl;
    lines_count = sym (add-zero (header_lines (version_of script)));
    steps_count = λ others. omega arith;
    nomem_count = refl;
    steps_below = omega arith;
    nomem_below = omega arith;
  }

  module _ (script text : List ℕ) (limits : Limits) (Stands : State A → Type 0) (counted : Totals) (l : List ℕ) (rest : List (List ℕ)) where
    -- a line that asks nothing
    pub skips : line {A = A} (version_of script) l ≡ Some None → IsAt script limits Stands text counted (l ∷ rest) → IsAt script limits Stands text (record counted { lines = counted.lines + 1 }) rest
    skips e at =
        let same = λ (others : List (List ℕ)). asked-cons (version_of script) l others (Some None) e in
        record {
          before = at.before ++ l ∷ [];
          state = at.state;
          marks = at.marks;
          stands = at.stands;
          parts = at.parts ∙ sym (joins at.before l rest);
          texts = λ others more. rw (joins at.before l others) (at.texts (l ∷ others) more ∙ ap (λ xs. text ++ answers (version_of script) at.state xs more) (same others));
          lawful = λ others more. rw (joins at.before l others) (at.lawful (l ∷ others) more ∙ ap (λ xs. are_marks at.state xs more) (same others));
          bad = λ others. rw (joins at.before l others) (at.bad (l ∷ others) ∙ first_bad-cons A (version_of script) (counted.lines + 1) l others (Some None) e);
          lines_count = one_more at.before l counted.lines (header_lines (version_of script)) at.lines_count;
          steps_count = λ others. rw (joins at.before l others) (ap (λ xs. counted.steps + count_by is_step xs) (sym (same others)) ∙ at.steps_count (l ∷ others));
          nomem_count = at.nomem_count;
          steps_below = omega (arith, at.steps_below);
          nomem_below = omega (arith, at.nomem_below);
        }

    -- a line that is answered
    pub runs : (x : Line A) (After : State A → Type 0) (before added new : List ℕ) (mark : Bool) → line {A = A} (version_of script) l ≡ Some (Some x) → IsAnswered (version_of script) Stands After x mark added new → text ≡ before ++ added
        → IsAt script limits Stands text counted (l ∷ rest)
        → IsAt script limits After (before ++ new) (record { lines = counted.lines + 1; steps = counted.steps + cond (is_step x) 1 0; nomem = counted.nomem + cond mark 1 0 }) rest
    runs x After before added new mark e answered split at =
        let done = answered at.state at.stands in
        let next : State A = next_state at.state x mark in
        let written : List ℕ = answer (version_of script) at.state x mark ++ 10 ∷ [] in
        let grown : before ++ new ≡ text ++ (answer (version_of script) at.state x mark ++ 10 ∷ []) =
        ap (λ t. before ++ t) done.text ∙ sym (append_assoc before added (answer (version_of script) at.state x mark ++ 10 ∷ [])) ∙ ap (λ t. t ++ (answer (version_of script) at.state x mark ++ 10 ∷ [])) (sym split) in
        let more_asked = λ (others : List (List ℕ)). asked-cons (version_of script) l others (Some (Some x)) e in
        record {
          before = at.before ++ l ∷ [];
          state = next;
          marks = at.marks ++ mark ∷ [];
          stands = done.stands;
          parts = at.parts ∙ sym (joins at.before l rest);
          texts = λ others more.
              rw (joins at.before l others)
              (ap (answers (version_of script) (opening limits) (asked (version_of script) (at.before ++ (l ∷ others)))) (append_assoc at.marks (mark ∷ []) more)
              ∙ at.texts (l ∷ others) (mark ∷ more)
              ∙ ap (λ xs. text ++ answers (version_of script) at.state xs (mark ∷ more)) (more_asked others)
              ∙ ap (λ t. text ++ t) (answers-cons (version_of script) at.state x (asked (version_of script) others) mark more)
              ∙ sym (append_assoc text written (answers (version_of script) next (asked (version_of script) others) more))
              ∙ ap (λ t. t ++ answers (version_of script) next (asked (version_of script) others) more) (sym grown));
          lawful = λ others more.
              rw (joins at.before l others)
              (ap (are_marks (opening limits) (asked (version_of script) (at.before ++ (l ∷ others)))) (append_assoc at.marks (mark ∷ []) more)
              ∙ at.lawful (l ∷ others) (mark ∷ more)
              ∙ ap (λ xs. are_marks at.state xs (mark ∷ more)) (more_asked others)
              ∙ are_marks-cons at.state x (asked (version_of script) others) mark more done.lawful);
          bad = λ others. rw (joins at.before l others) (at.bad (l ∷ others) ∙ first_bad-cons A (version_of script) (counted.lines + 1) l others (Some (Some x)) e);
          lines_count = one_more at.before l counted.lines (header_lines (version_of script)) at.lines_count;
          steps_count = λ others.
              let count : count_by is_step (asked {A = A} (version_of script) (l ∷ others)) ≡ cond (is_step x) 1 0 + count_by is_step (asked {A = A} (version_of script) others) =
              ap (count_by is_step) (more_asked others) ∙ sum_by-cons (λ y. cond (is_step y) 1 0) x (asked (version_of script) others) in
              rw (joins at.before l others) (omega (arith, count, at.steps_count (l ∷ others)));
          nomem_count = ap (λ n. n + cond mark 1 0) at.nomem_count ∙ sym (sum_by_push (λ m. cond m 1 0) at.marks mark);
          steps_below = omega (arith, at.steps_below, at_most_one (is_step x));
          nomem_below = omega (arith, at.nomem_below, at_most_one mark);
        }

    -- a line that is refused before its bytes are made
    pub refuses : (reply : Reply A) (before added new : List ℕ) → IsRefused (version_of script) Stands l reply → new ≡ added ++ (outcome_text (version_of script) (Replied reply) ++ 10 ∷ []) → text ≡ before ++ added
        → IsAt script limits Stands text counted (l ∷ rest)
        → IsAt script limits Stands (before ++ new) (record { lines = counted.lines + 1; steps = counted.steps + 1; nomem = counted.nomem }) rest
    refuses reply before added new is said split at =
        let same : counts (counted.lines + 1) (counted.steps + 1) (counted.nomem + 0) ≡ counts (counted.lines + 1) (counted.steps + 1) counted.nomem =
        same_counts (counted.lines + 1) (counted.steps + 1) (counted.nomem + 0) _ _ _ refl refl (add-zero counted.nomem) in
        let answered = replies (version_of script) Stands Stands (Do is.asked) is.asked reply added new refl is.made said in
        subst (λ t. IsAt script limits Stands (before ++ new) t rest) same (runs (Do is.asked) Stands before added new false is.asks answered split at)

    -- the counts fit
    below : length script ≤ most_script_bytes → IsAt script limits Stands text counted (l ∷ rest) → counted.lines < most_script_bytes
    below short at = omega (arith, at.lines_count, ap length at.parts, length-append at.before (l ∷ rest), length-drop (header_lines (version_of script)) (lines script), length-lines script)

  -- ---- the end

  module _ (script text : List ℕ) (limits : Limits) (Stands : State A → Type 0) (counted : Totals) (rest : List (List ℕ)) (at : IsAt script limits Stands text counted rest) where
    -- where none of the others asks anything before the first bad one, the marks and the text are those of the run
    marks_to : (others : List (List ℕ)) → asked {A = A} (version_of script) others ≡ [] → are_marks (opening {A = A} limits) (asked (version_of script) (at.before ++ others)) at.marks ≡ true
    marks_to others none =
        ap (are_marks (opening limits) (asked (version_of script) (at.before ++ others))) (sym (append-nil at.marks)) ∙ at.lawful others [] ∙ ap (λ xs. are_marks at.state xs []) none ∙ are_marks-nil at.state

    text_to : (others : List (List ℕ)) → asked {A = A} (version_of script) others ≡ [] → text ≡ answers (version_of script) (opening {A = A} limits) (asked (version_of script) (at.before ++ others)) at.marks
    text_to others none =
        sym (ap (answers (version_of script) (opening limits) (asked (version_of script) (at.before ++ others))) (sym (append-nil at.marks)) ∙ at.texts others [] ∙ ap (λ xs. text ++ answers (version_of script) at.state xs []) none ∙ ap (λ t. text ++ t) (answers-nil (version_of script) at.state []) ∙ append-nil text)

    -- no line is left
    at_end : rest ≡ [] → (bad_line A script ≡ None) × WritesAndCounts A script limits counted text
    at_end none =
        let all : body script ≡ at.before = at.parts ∙ ap (λ ls. at.before ++ ls) none ∙ append-nil at.before in
        let good : first_bad A (version_of script) (header_lines (version_of script) + 1) at.before ≡ None = ap (first_bad A (version_of script) (header_lines (version_of script) + 1)) (sym (append-nil at.before)) ∙ at.bad [] ∙ first_bad-nil A (version_of script) (counted.lines + 1) in
        let lawful : are_marks (opening {A = A} limits) (asked (version_of script) at.before) at.marks ≡ true = rw append-nil at (marks_to [] (asked-nil A (version_of script))) in
        let written : text ≡ answers (version_of script) (opening {A = A} limits) (asked (version_of script) at.before) at.marks = rw append-nil at (text_to [] (asked-nil A (version_of script))) in
        let steps : counted.steps ≡ count_by is_step (asked {A = A} (version_of script) at.before) = omega (arith, rw append-nil at (at.steps_count []), ap (count_by is_step) (asked-nil A (version_of script))) in
        let count : counted.lines ≡ length (lines script) = omega (arith, at.lines_count, ap length all, length-drop (header_lines (version_of script)) (lines script), header_within (lines script)) in
        (rw all good, (at.marks, rw all lawful, rw all written, same_counts counted.lines counted.steps counted.nomem _ _ _ count (rw all steps) at.nomem_count))

    -- the next line is bad
    is_bad : (l : List ℕ) (later : List (List ℕ)) → rest ≡ l ∷ later → line {A = A} (version_of script) l ≡ None → (bad_line A script ≡ Some (counted.lines + 1)) × WritesOutput A script limits text
    is_bad l later next e =
        let all : body script ≡ at.before ++ (l ∷ later) = at.parts ∙ ap (λ ls. at.before ++ ls) next in
        let none : asked {A = A} (version_of script) (l ∷ later) ≡ [] = asked-cons (version_of script) l later None e in
        rw all (at.bad (l ∷ later) ∙ first_bad-cons A (version_of script) (counted.lines + 1) l later None e, (at.marks, marks_to (l ∷ later) none, text_to (l ∷ later) none))

    -- memory is wanting at the next line
    is_wanting : (l : List ℕ) (later : List (List ℕ)) → rest ≡ l ∷ later → Asks A (version_of script) l → WritesLinesBefore A script limits counted.lines text
    is_wanting l later next asks = record {
      before = at.before;
      next = l;
      after = later;
      marks = at.marks;
      parts = at.parts ∙ ap (λ ls. at.before ++ ls) next;
      count = sym at.lines_count;
      asks = asks;
      good = ap (first_bad A (version_of script) (header_lines (version_of script) + 1)) (sym (append-nil at.before)) ∙ at.bad [] ∙ first_bad-nil A (version_of script) (counted.lines + 1);
      lawful = rw append-nil at (marks_to [] (asked-nil A (version_of script)));
      text = rw append-nil at (text_to [] (asked-nil A (version_of script)));
    }

    -- a front of the text is a front of some output
    at_front : (front more : List ℕ) → text ≡ front ++ more → WritesFrontOfOutput A script limits front
    at_front front more e =
        let marks : List Bool = no_marks (asked {A = A} (version_of script) rest) in
        let lawful : are_marks (opening {A = A} limits) (asked (version_of script) (at.before ++ rest)) (at.marks ++ no_marks (asked {A = A} (version_of script) rest)) ≡ true = at.lawful rest (no_marks (asked {A = A} (version_of script) rest)) ∙ are_marks-no_marks at.state (asked (version_of script) rest) in
        let all : answers (version_of script) (opening {A = A} limits) (asked (version_of script) (at.before ++ rest)) (at.marks ++ no_marks (asked {A = A} (version_of script) rest)) ≡ front ++ (more ++ answers (version_of script) at.state (asked (version_of script) rest) (no_marks (asked {A = A} (version_of script) rest))) =
        at.texts rest (no_marks (asked {A = A} (version_of script) rest)) ∙ ap (λ t. t ++ answers (version_of script) at.state (asked (version_of script) rest) (no_marks (asked {A = A} (version_of script) rest))) e ∙ append_assoc front more (answers (version_of script) at.state (asked (version_of script) rest) (no_marks (asked {A = A} (version_of script) rest))) in
        rw at.parts (at.marks ++ no_marks (asked {A = A} (version_of script) rest), more ++ answers (version_of script) at.state (asked (version_of script) rest) (no_marks (asked {A = A} (version_of script) rest)), lawful, all)

-- ---- between two lines, with what was written

-- Some of the text before the rest of the lines was written, and the rest of it waits.
pub record IsUnderway {A : Type 0} (script : List ℕ) (limits : Limits) (Stands : State A → Type 0) (waiting : List ℕ) (counted : Totals) (rest : List (List ℕ)) (old now : Option (List ℕ)) : Type 0 where
  pub flushed : List ℕ
  pub written : Appends old now flushed
  pub at : IsAt script limits Stands (flushed ++ waiting) counted rest

module _ {A : Type 0} {script waiting : List ℕ} {limits : Limits} {Stands : State A → Type 0} {counted : Totals} {rest : List (List ℕ)} {old now : Option (List ℕ)} where
  -- the writer took all that waited
  pub flushes : (new : Option (List ℕ)) → Appends now new waiting → IsUnderway script limits Stands waiting counted rest old now → IsUnderway script limits Stands [] counted rest old new
  flushes new took way = record {
    flushed = way.flushed ++ waiting;
    written = Appends-trans old now new way.flushed waiting way.written took;
    at = rw (append-nil (way.flushed ++ waiting)) way.at;
  }

  -- the writer took a front of what waited
  pub fails_to_write : (new : Option (List ℕ)) (left : Totals) → length script ≤ most_script_bytes → (count : ℕ) × (count ≤ length waiting) × Appends now new (take count waiting)
      → IsUnderway script limits Stands waiting counted rest old now → (text : List ℕ) × Appends old new text × IsCountedRun A script limits (Err faults.Write) left text
  fails_to_write new left short took way =
      let cut : way.flushed ++ waiting ≡ (way.flushed ++ take took.0 waiting) ++ drop took.0 waiting =
      ap (λ t. way.flushed ++ t) (sym (take-append-drop took.0 waiting)) ∙ sym (append_assoc way.flushed (take took.0 waiting) (drop took.0 waiting)) in (
        way.flushed ++ take took.0 waiting,
        Appends-trans old now new way.flushed (take took.0 waiting) way.written took.2,
        (short, at_front script (way.flushed ++ waiting) limits Stands counted rest way.at (way.flushed ++ take took.0 waiting) (drop took.0 waiting) cut),
      )

  -- no line was left, and the writer took all that waited
  pub ends : (new : Option (List ℕ)) → length script ≤ most_script_bytes → rest ≡ [] → Appends now new waiting
      → IsUnderway script limits Stands waiting counted rest old now → (text : List ℕ) × Appends old new text × IsCountedRun A script limits (Ok tt) counted text
  ends new short none took way =
      let whole = at_end script (way.flushed ++ waiting) limits Stands counted rest way.at none in
      (way.flushed ++ waiting, Appends-trans old now new way.flushed waiting way.written took, (short, whole.0, whole.1))

module _ {A : Type 0} {script waiting : List ℕ} {limits : Limits} {Stands : State A → Type 0} {counted : Totals} {l : List ℕ} {rest : List (List ℕ)} {old now : Option (List ℕ)} where
  -- the next line was run
  pub goes_on : (After : State A → Type 0) (left : List ℕ) (next : Totals)
      → ((front : List ℕ) → IsAt script limits Stands (front ++ waiting) counted (l ∷ rest) → IsAt script limits After (front ++ left) next rest)
      → IsUnderway script limits Stands waiting counted (l ∷ rest) old now → IsUnderway script limits After left next rest old now
  goes_on After left next run way = record { flushed = way.flushed; written = way.written; at = run way.flushed way.at }

  -- the next line is bad, and the writer took all that waited
  pub ends_at_bad : (new : Option (List ℕ)) (left : Totals) (n : ℕ) → length script ≤ most_script_bytes → line {A = A} (version_of script) l ≡ None → n ≡ counted.lines + 1 → Appends now new waiting
      → IsUnderway script limits Stands waiting counted (l ∷ rest) old now → (text : List ℕ) × Appends old new text × IsCountedRun A script limits (Err (faults.BadLine n)) left text
  ends_at_bad new left n short bad number took way =
      let stop = is_bad script (way.flushed ++ waiting) limits Stands counted (l ∷ rest) way.at l rest refl bad in
      (way.flushed ++ waiting, Appends-trans old now new way.flushed waiting way.written took, (short, rw number stop.0, stop.1))

  -- memory is wanting at the next line, and the writer took all that waited
  pub ends_at_want : (new : Option (List ℕ)) (left : Totals) → length script ≤ most_script_bytes → Asks A (version_of script) l → left ≡ counted → Appends now new waiting
      → IsUnderway script limits Stands waiting counted (l ∷ rest) old now → (text : List ℕ) × Appends old new text × IsCountedRun A script limits (Err faults.NoMemory) left text
  ends_at_want new left short asks same took way =
      let stop = is_wanting script (way.flushed ++ waiting) limits Stands counted (l ∷ rest) way.at l rest refl asks in
      (way.flushed ++ waiting, Appends-trans old now new way.flushed waiting way.written took, (short, rw same stop))

  -- the number of the next line fits
  pub number_fits : length script ≤ most_script_bytes → IsUnderway script limits Stands waiting counted (l ∷ rest) old now → counted.lines < most_script_bytes
  number_fits short way = below script (way.flushed ++ waiting) limits Stands counted l rest short way.at

-- before the lines behind the one that names the version, which was counted
pub starts : {A : Type 0} (script : List ℕ) (limits : Limits) (Stands : State A → Type 0) (old : Option (List ℕ)) (waiting behind : List ℕ) (counted steps nomem : ℕ) → Stands (opening limits)
    → waiting ≡ [] → lines behind ≡ body script → counted ≡ header_lines (version_of script) → steps ≡ 0 → nomem ≡ 0 → IsUnderway script limits Stands waiting (counts counted steps nomem) (lines behind) old old
starts script limits Stands old waiting behind counted steps nomem stands nothing parts header no-steps no-nomem =
    rw (nothing, parts, header, no-steps, no-nomem) (record { flushed = []; written = Appends-nil old; at = at_start script limits Stands stands })

-- a line that isn't run isn't counted and prints nothing
pub unchanged : (A : Type 0) (version : Version) (l : List ℕ) (old new : Totals) (before after : List ℕ) (fault : LineFault) → Stops A version l old new before after fault → (new ≡ old) × (after ≡ before)
unchanged A version l old new before after Bad stop = (stop.0, stop.1)
unchanged A version l old new before after NoMemory stop = (stop.0, stop.1)

-- what a run is that counted its lines, without its counts
pub uncounted : (A : Type 0) (script : List ℕ) (limits : Limits) (fault : ScriptFault) (counted : Totals) (text : List ℕ) → IsCountedRun A script limits (Err fault) counted text → IsRun A script limits (Err fault) text
uncounted A script limits faults.NoMemory counted text run = inr (run.0, (counted.lines, run.1))
uncounted A script limits faults.Read counted text run = run
uncounted A script limits faults.Write counted text run = run
uncounted A script limits faults.TooLong counted text run = run
uncounted A script limits (faults.BadLine n) counted text run = run

-- the same of what was read, where the reader told it
pub uncounted_known : (A : Type 0) (remaining old new : Option (List ℕ)) (held read : List ℕ) (limits : Limits) (fault : ScriptFault) (counted : Totals) → read ≡ held → IfSome remaining (λ script. held ≡ script)
    → (text : List ℕ) × Appends old new text × IsCountedRun A read limits (Err fault) counted text
    → IfSome remaining (λ script. (text : List ℕ) × Appends old new text × IsRun A script limits (Err fault) text)
uncounted_known A None old new held read limits fault counted all known run = tt
uncounted_known A (Some script) old new held read limits fault counted all known run =
    let Ran : List ℕ → Type 0 = λ bytes. IsRun A bytes limits (Err fault) run.0 in
    (run.0, run.1, subst Ran (all ∙ known) (uncounted A read limits fault counted run.0 run.2))
