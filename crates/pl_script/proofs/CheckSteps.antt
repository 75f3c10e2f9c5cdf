-- From one line of a script that is checked to the next.
use Rattle.std.proofs.Common.{◌≡◌, ℕ, ◌+◌, ◌<◌, ◌≤◌, Bool, true, false, List, [], ◌∷◌, ◌++◌, length, take, drop, Option, Some, None, Ok, Err, ◌⊎◌, inr, refl, sym, ap, ◌∙◌, append_assoc, add-zero, arith}
use Rattle.std.specs.Prelude.{IsSome}
use Rattle.std.specs.Io.KnownBytes.{Appends}
use Rattle.std.proofs.KnownBytes.{Appends-nil, Appends-trans}
use Rattle.std.proofs.lemmas.List.{append-nil, take-append-drop, length-append, length-drop}
use Rattle.std.proofs.lemmas.List.Sums.{count_by-le-length}
use Rattle.pl_model.specs.declared.calls.Limits.{Limits}
use Rattle.pl_model.specs.declared.replies.Reply.{Reply}
use Rattle.pl_model.specs.declared.replies.Outcome.TheVariants.{Replied}
use Rattle.pl_model.specs.declared.script.Line.{Line}
use Rattle.pl_model.specs.declared.script.Line.TheVariants.{Do}
use Rattle.pl_model.specs.declared.script.Version.{Version}
use Rattle.pl_model.specs.Numbered.{State, opening}
use Rattle.pl_model.specs.Numbers.{most_script_bytes}
use Rattle.pl_model.specs.Lines.{line}
use Rattle.pl_model.specs.Shown.{outcome_text}
use Rattle.pl_model.specs.Script.{asked, are_marks, first_bad, lines, version_of, header_lines, body, bad_line, next_state}
use Rattle.pl_lines.proofs.LineLemmas.{length-lines}
use Rattle.pl_words.specs.declared.fault.LineFault.{LineFault}
use Rattle.pl_words.specs.declared.fault.LineFault.TheVariants.{Bad, NoMemory}
use Rattle.pl_script.specs.Running.{Asks}
use Rattle.pl_script.specs.LineByLine.{IsAnswered, IsRefused}
use Rattle.pl_script.specs.Checked.{Comparison, expected, compared_at, at_line, comparisons, differs, told_text, counts_of, TellsDifferences, TellsFront, TellsAndCounts, TellsLinesBefore, IsCheck}
use Rattle.pl_script.specs.Comparing.{IsTally, IsAnsweredBy, IsDone, IsChecking, Ends, text_of}
use Rattle.pl_script.specs.declared.comparing.Checked.{Checked}
use Rattle.pl_script.specs.declared.fault.ScriptFault.TheVariants as faults
use Rattle.pl_script.proofs.RunSteps.{asked-cons, asked-nil, are_marks-cons, are_marks-nil, are_marks-no_marks, first_bad-cons, first_bad-nil, joins, no_marks, replies}
use Rattle.pl_script.proofs.ToldTexts.{text_of-said, told_text-front}

module _ {A : Type 0} where
  -- ---- the definition, one line at a time

  comparisons-nil : (version : Version) (n : ℕ) (s : State A) (last : List ℕ) (marks : List Bool) → comparisons version n s last [] marks ≡ []
  unfolding comparisons
  comparisons-nil version n s last marks = refl

  comparisons-cons : (version : Version) (n : ℕ) (s : State A) (last l : List ℕ) (ls : List (List ℕ)) (marks : List Bool) (o : Option (Option (Line A))) → line version l ≡ o
      → comparisons version n s last (l ∷ ls) marks ≡ at_line version n l o s last marks (λ next text more. comparisons version (n + 1) next text ls more)
  unfolding comparisons
  comparisons-cons version n s last l ls marks o e = ap (λ p. at_line version n l p s last marks (λ next text more. comparisons version (n + 1) next text ls more)) e

  -- ---- one line

  -- a line whose write is refused before its bytes are made
  pub is_refused_so : (version : Version) (Stands : State A → Type 0) (l : List ℕ) (reply : Reply A) (last before printed : List ℕ) → IsRefused version Stands l reply
      → printed ≡ before ++ (outcome_text version (Replied reply) ++ 10 ∷ []) → before ≡ [] → IsDone version Stands Stands l true last (text_of printed)
  is_refused_so version Stands l reply last before printed is said none = (
    Do is.asked,
    false,
    is.asks,
    λ s stood.
        let answered = replies version Stands Stands (Do is.asked) is.asked reply before printed refl is.made said s stood in
        record { stands = answered.stands; said = text_of-said printed before _ answered.text none; lawful = answered.lawful },
  )

  -- a line that is answered
  pub is_answered_so : (version : Version) (old new : State A → Type 0) (l : List ℕ) (x : Line A) (mark : Bool) (last before printed : List ℕ) → line version l ≡ Some (Some x)
      → IsAnswered version old new x mark before printed → before ≡ [] → IsDone version old new l true last (text_of printed)
  is_answered_so version old new l x mark last before printed asks answered none = (
    x,
    mark,
    asks,
    λ s stood.
        let made = answered s stood in
        record { stands = made.stands; said = text_of-said printed before _ made.text none; lawful = made.lawful },
  )

  module _ (all : Bool) (script last text : List ℕ) (limits : Limits) (Stands : State A → Type 0) (checked : Checked) (number : ℕ) (l : List ℕ) (rest : List (List ℕ)) where
    one_line_more : (before : List (List ℕ)) → number ≡ header_lines (version_of script) + 1 + length before → number + 1 ≡ header_lines (version_of script) + 1 + length (before ++ l ∷ [])
    one_line_more before e = omega (arith, e, length-append before (l ∷ []))

    -- a line that asks nothing, and at which this is found
    pub skips : (After : State A → Type 0) (told : List ℕ) (counted : Checked) (found : List Comparison) → line {A = A} (version_of script) l ≡ Some None → ((s : State A) → Stands s → After s)
        → compared_at number last (expected l) ≡ found → length found ≤ 1 → ((compared : List Comparison) → IsTally all compared text checked → IsTally all (compared ++ found) told counted)
        → IsChecking all script limits Stands last text checked number (l ∷ rest) → IsChecking all script limits After last told counted (number + 1) rest
    skips After told counted found e stays is one tallies at =
        let same_asked = λ (others : List (List ℕ)). asked-cons {A = A} (version_of script) l others (Some None) e in
        record {
          before = at.before ++ l ∷ [];
          state = at.state;
          marks = at.marks;
          compared = at.compared ++ found;
          stands = stays at.state at.stands;
          parts = at.parts ∙ sym (joins at.before l rest);
          same = λ others more.
              rw (joins at.before l others)
              (at.same (l ∷ others) more
              ∙ ap (λ cs. at.compared ++ cs) (comparisons-cons (version_of script) number at.state last l others more (Some None) e)
              ∙ ap (λ cs. at.compared ++ (cs ++ comparisons (version_of script) (number + 1) at.state last others more)) is
              ∙ sym (append_assoc at.compared found (comparisons (version_of script) (number + 1) at.state last others more)));
          lawful = λ others more. rw (joins at.before l others) (at.lawful (l ∷ others) more ∙ ap (λ xs. are_marks at.state xs more) (same_asked others));
          bad = λ others. rw (joins at.before l others) (at.bad (l ∷ others) ∙ first_bad-cons A (version_of script) number l others (Some None) e);
          count = one_line_more at.before at.count;
          few = omega (arith, at.few, one, length-append at.compared found);
          tally = tallies at.compared at.tally;
        }

    -- a line that is answered
    pub answers_it : (After : State A → Type 0) (x : Line A) (mark : Bool) (said : List ℕ) → line (version_of script) l ≡ Some (Some x)
        → ((s : State A) → Stands s → IsAnsweredBy (version_of script) s After x mark said)
        → IsChecking all script limits Stands last text checked number (l ∷ rest) → IsChecking all script limits After said text checked (number + 1) rest
    answers_it After x mark said e answered at =
        let done = answered at.state at.stands in
        let next : State A = next_state at.state x mark in
        let same_asked = λ (others : List (List ℕ)). asked-cons (version_of script) l others (Some (Some x)) e in
        record {
          before = at.before ++ l ∷ [];
          state = next;
          marks = at.marks ++ mark ∷ [];
          compared = at.compared;
          stands = done.stands;
          parts = at.parts ∙ sym (joins at.before l rest);
          same = λ others more.
              rw (joins at.before l others)
              (ap (comparisons (version_of script) (header_lines (version_of script) + 1) (opening limits) [] (at.before ++ (l ∷ others))) (append_assoc at.marks (mark ∷ []) more)
              ∙ at.same (l ∷ others) (mark ∷ more)
              ∙ ap (λ cs. at.compared ++ cs) (comparisons-cons (version_of script) number at.state last l others (mark ∷ more) (Some (Some x)) e)
              ∙ ap (λ t. at.compared ++ comparisons (version_of script) (number + 1) next t others more) (sym done.said));
          lawful = λ others more.
              rw (joins at.before l others)
              (ap (are_marks (opening limits) (asked (version_of script) (at.before ++ (l ∷ others)))) (append_assoc at.marks (mark ∷ []) more)
              ∙ at.lawful (l ∷ others) (mark ∷ more)
              ∙ ap (λ xs. are_marks at.state xs (mark ∷ more)) (same_asked others)
              ∙ are_marks-cons at.state x (asked (version_of script) others) mark more done.lawful);
          bad = λ others. rw (joins at.before l others) (at.bad (l ∷ others) ∙ first_bad-cons A (version_of script) number l others (Some (Some x)) e);
          count = one_line_more at.before at.count;
          few = omega (arith, at.few);
          tally = at.tally;
        }

    -- the number of the line fits
    below : length script ≤ most_script_bytes → IsChecking all script limits Stands last text checked number (l ∷ rest) → number ≤ most_script_bytes
    below short at = omega (arith, at.count, ap length at.parts, length-append at.before (l ∷ rest), length-drop (header_lines (version_of script)) (lines script), length-lines script)

  -- ---- the end

  module _ (all : Bool) (script last text : List ℕ) (limits : Limits) (Stands : State A → Type 0) (checked : Checked) (number : ℕ) (rest : List (List ℕ)) (at : IsChecking {A = A} all script limits Stands last text checked number rest) where
    -- where none of the others asks or expects anything before the first bad one, all is compared
    compared_to : (others : List (List ℕ)) → comparisons (version_of script) number at.state last others [] ≡ []
        → comparisons (version_of script) (header_lines (version_of script) + 1) (opening {A = A} limits) [] (at.before ++ others) at.marks ≡ at.compared
    compared_to others none =
        ap (comparisons (version_of script) (header_lines (version_of script) + 1) (opening limits) [] (at.before ++ others)) (sym (append-nil at.marks))
        ∙ at.same others [] ∙ ap (λ cs. at.compared ++ cs) none ∙ append-nil at.compared

    marks_to : (others : List (List ℕ)) → asked {A = A} (version_of script) others ≡ [] → are_marks (opening {A = A} limits) (asked (version_of script) (at.before ++ others)) at.marks ≡ true
    marks_to others none =
        ap (are_marks (opening limits) (asked (version_of script) (at.before ++ others))) (sym (append-nil at.marks)) ∙ at.lawful others [] ∙ ap (λ xs. are_marks at.state xs []) none ∙ are_marks-nil at.state

    -- what is compared of the lines before, whose marks are these, and of which none is bad
    before_it : (comparisons (version_of script) (header_lines (version_of script) + 1) (opening {A = A} limits) [] at.before at.marks ≡ at.compared)
        × (are_marks (opening {A = A} limits) (asked (version_of script) at.before) at.marks ≡ true)
        × (first_bad A (version_of script) (header_lines (version_of script) + 1) at.before ≡ None)
    before_it = (
      rw append-nil at (compared_to [] (comparisons-nil (version_of script) number at.state last [])),
      rw append-nil at (marks_to [] (asked-nil A (version_of script))),
      ap (first_bad A (version_of script) (header_lines (version_of script) + 1)) (sym (append-nil at.before)) ∙ at.bad [] ∙ first_bad-nil A (version_of script) number,
    )

    -- no line is left
    at_end : rest ≡ [] → (bad_line A script ≡ None) × TellsAndCounts A all script limits checked text
    at_end none =
        let whole : body script ≡ at.before = at.parts ∙ ap (λ ls. at.before ++ ls) none ∙ append-nil at.before in
        let all_of = before_it in
        let told : text ≡ told_text all (comparisons (version_of script) (header_lines (version_of script) + 1) (opening {A = A} limits) [] at.before at.marks) = at.tally.told ∙ ap (told_text all) (sym all_of.0) in
        let counted : checked ≡ counts_of (comparisons (version_of script) (header_lines (version_of script) + 1) (opening {A = A} limits) [] at.before at.marks) = at.tally.counted ∙ ap counts_of (sym all_of.0) in
        (rw whole all_of.2, (at.marks, rw whole all_of.1, rw whole told, rw whole counted))

    -- the next line is bad
    is_bad : (l : List ℕ) (later : List (List ℕ)) → rest ≡ l ∷ later → line {A = A} (version_of script) l ≡ None → (bad_line A script ≡ Some number) × TellsDifferences A all script limits text
    is_bad l later next e =
        let whole : body script ≡ at.before ++ (l ∷ later) = at.parts ∙ ap (λ ls. at.before ++ ls) next in
        let none : asked {A = A} (version_of script) (l ∷ later) ≡ [] = asked-cons (version_of script) l later None e in
        let found : comparisons (version_of script) (header_lines (version_of script) + 1) (opening {A = A} limits) [] (at.before ++ (l ∷ later)) at.marks ≡ at.compared =
        compared_to (l ∷ later) (comparisons-cons (version_of script) number at.state last l later [] None e) in
        rw whole (at.bad (l ∷ later) ∙ first_bad-cons A (version_of script) number l later None e, (at.marks, marks_to (l ∷ later) none, at.tally.told ∙ ap (told_text all) (sym found)))

    -- memory is wanting at the next line
    is_wanting : (l : List ℕ) (later : List (List ℕ)) (n : ℕ) → n + 1 ≡ number → rest ≡ l ∷ later → Asks A (version_of script) l ⊎ IsSome (expected l) → TellsLinesBefore A all script limits n text
    is_wanting l later n is next wants = record {
      before = at.before;
      next = l;
      after = later;
      marks = at.marks;
      parts = at.parts ∙ ap (λ ls. at.before ++ ls) next;
      count = omega (arith, is, at.count);
      wants = wants;
      good = before_it.2;
      lawful = before_it.1;
      text = at.tally.told ∙ ap (told_text all) (sym before_it.0);
    }

    -- a front of the text is a front of what is told of the whole, at some marks
    at_front : (front more : List ℕ) → text ≡ front ++ more → TellsFront A all script limits front
    at_front front more e =
        let marks : List Bool = no_marks (asked {A = A} (version_of script) rest) in
        let lawful : are_marks (opening {A = A} limits) (asked (version_of script) (at.before ++ rest)) (at.marks ++ no_marks (asked {A = A} (version_of script) rest)) ≡ true = at.lawful rest (no_marks (asked {A = A} (version_of script) rest)) ∙ are_marks-no_marks at.state (asked (version_of script) rest) in
        let others : List Comparison = comparisons (version_of script) number at.state last rest (no_marks (asked {A = A} (version_of script) rest)) in
        let grown = told_text-front all at.compared (comparisons (version_of script) number at.state last rest (no_marks (asked {A = A} (version_of script) rest))) in
        let whole : told_text all (comparisons (version_of script) (header_lines (version_of script) + 1) (opening {A = A} limits) [] (at.before ++ rest) (at.marks ++ no_marks (asked {A = A} (version_of script) rest))) ≡ front ++ (more ++ grown.0) =
        ap (told_text all) (at.same rest (no_marks (asked {A = A} (version_of script) rest))) ∙ grown.1 ∙ ap (λ t. t ++ grown.0) (sym at.tally.told ∙ e) ∙ append_assoc front more grown.0 in
        rw at.parts (at.marks ++ no_marks (asked {A = A} (version_of script) rest), more ++ grown.0, lawful, whole)

-- ---- between two lines, with what was written

-- Some of what is told of the lines before was written, and the rest of it waits.
pub record IsUnderCheck {A : Type 0} (all : Bool) (script : List ℕ) (limits : Limits) (Stands : State A → Type 0) (last waiting : List ℕ) (checked : Checked) (number : ℕ) (rest : List (List ℕ)) (old now : Option (List ℕ)) : Type 0 where
  pub flushed : List ℕ
  pub written : Appends old now flushed
  pub at : IsChecking all script limits Stands last (flushed ++ waiting) checked number rest

module _ {A : Type 0} {all : Bool} {script last waiting : List ℕ} {limits : Limits} {Stands : State A → Type 0} {checked : Checked} {number : ℕ} {rest : List (List ℕ)} {old now : Option (List ℕ)} where
  -- the writer took all that waited
  pub flushes : (new : Option (List ℕ)) → Appends now new waiting → IsUnderCheck all script limits Stands last waiting checked number rest old now → IsUnderCheck all script limits Stands last [] checked number rest old new
  flushes new took way = record {
    flushed = way.flushed ++ waiting;
    written = Appends-trans old now new way.flushed waiting way.written took;
    at = rw (append-nil (way.flushed ++ waiting)) way.at;
  }

  -- the writer took a front of what waited
  pub fails_to_write : (new : Option (List ℕ)) → length script ≤ most_script_bytes → (count : ℕ) × (count ≤ length waiting) × Appends now new (take count waiting)
      → IsUnderCheck all script limits Stands last waiting checked number rest old now → (text : List ℕ) × Appends old new text × IsCheck A all script limits (Err faults.Write) text
  fails_to_write new short took way =
      let cut : way.flushed ++ waiting ≡ (way.flushed ++ take took.0 waiting) ++ drop took.0 waiting =
      ap (λ t. way.flushed ++ t) (sym (take-append-drop took.0 waiting)) ∙ sym (append_assoc way.flushed (take took.0 waiting) (drop took.0 waiting)) in (
        way.flushed ++ take took.0 waiting,
        Appends-trans old now new way.flushed (take took.0 waiting) way.written took.2,
        (short, at_front all script last (way.flushed ++ waiting) limits Stands checked number rest way.at (way.flushed ++ take took.0 waiting) (drop took.0 waiting) cut),
      )

  -- no line was left, and the writer took all that waited
  pub ends : (new : Option (List ℕ)) → length script ≤ most_script_bytes → rest ≡ [] → Appends now new waiting
      → IsUnderCheck all script limits Stands last waiting checked number rest old now → (text : List ℕ) × Appends old new text × IsCheck A all script limits (Ok checked) text
  ends new short none took way =
      let whole = at_end all script last (way.flushed ++ waiting) limits Stands checked number rest way.at none in
      (way.flushed ++ waiting, Appends-trans old now new way.flushed waiting way.written took, (short, whole.0, whole.1))

  -- the counts fit one another
  pub counts_fit : IsUnderCheck all script limits Stands last waiting checked number rest old now → (checked.compared < number) × (checked.different ≤ checked.compared)
  counts_fit way =
      let compared = ap (λ (t : Checked). t.compared) way.at.tally.counted in
      let different = ap (λ (t : Checked). t.different) way.at.tally.counted in
      (omega (arith, compared, way.at.few), omega (arith, compared, different, count_by-le-length differs way.at.compared))

module _ {A : Type 0} {all : Bool} {script last waiting : List ℕ} {limits : Limits} {Stands : State A → Type 0} {checked : Checked} {number : ℕ} {l : List ℕ} {rest : List (List ℕ)} {old now : Option (List ℕ)} where
  -- the next line was checked
  pub goes_on : (After : State A → Type 0) (said left : List ℕ) (counted : Checked)
      → ((front : List ℕ) → IsChecking all script limits Stands last (front ++ waiting) checked number (l ∷ rest) → IsChecking all script limits After said (front ++ left) counted (number + 1) rest)
      → IsUnderCheck all script limits Stands last waiting checked number (l ∷ rest) old now → IsUnderCheck all script limits After said left counted (number + 1) rest old now
  goes_on After said left counted check way = record { flushed = way.flushed; written = way.written; at = check way.flushed way.at }

  -- the next line is bad, and the writer took all that waited
  pub ends_at_bad : (new : Option (List ℕ)) → length script ≤ most_script_bytes → line {A = A} (version_of script) l ≡ None → Appends now new waiting
      → IsUnderCheck all script limits Stands last waiting checked number (l ∷ rest) old now → (text : List ℕ) × Appends old new text × IsCheck A all script limits (Err (faults.BadLine number)) text
  ends_at_bad new short bad took way =
      let stop = is_bad all script last (way.flushed ++ waiting) limits Stands checked number (l ∷ rest) way.at l rest refl bad in
      (way.flushed ++ waiting, Appends-trans old now new way.flushed waiting way.written took, (short, stop.0, stop.1))

  -- memory is wanting at the next line, and the writer took all that waited
  pub ends_at_want : (new : Option (List ℕ)) → length script ≤ most_script_bytes → Asks A (version_of script) l ⊎ IsSome (expected l) → Appends now new waiting
      → IsUnderCheck all script limits Stands last waiting checked number (l ∷ rest) old now → (text : List ℕ) × Appends old new text × IsCheck A all script limits (Err faults.NoMemory) text
  ends_at_want new short wants took way =
      let before : ℕ = header_lines (version_of script) + length way.at.before in
      let stop = is_wanting all script last (way.flushed ++ waiting) limits Stands checked number (l ∷ rest) way.at l rest (header_lines (version_of script) + length way.at.before) (omega (arith, way.at.count)) refl wants in
      (way.flushed ++ waiting, Appends-trans old now new way.flushed waiting way.written took, inr (short, (header_lines (version_of script) + length way.at.before, stop)))

  -- the number of the next line fits
  pub number_fits : length script ≤ most_script_bytes → IsUnderCheck all script limits Stands last waiting checked number (l ∷ rest) old now → number ≤ most_script_bytes
  number_fits short way = below all script last (way.flushed ++ waiting) limits Stands checked number l rest short way.at

-- before the lines behind the one that names the version
pub starts : {A : Type 0} (all : Bool) (script : List ℕ) (limits : Limits) (Stands : State A → Type 0) (old : Option (List ℕ)) (last waiting behind : List ℕ) (checked : Checked) (number : ℕ) → Stands (opening limits)
    → last ≡ [] → waiting ≡ [] → lines behind ≡ body script → checked ≡ counts_of [] → number ≡ header_lines (version_of script) + 1 → IsUnderCheck all script limits Stands last waiting checked number (lines behind) old old
starts script-all script limits Stands old last waiting behind checked number stands none nothing parts counted is =
    rw (none, nothing, parts, counted, is) (record {
      flushed = [];
      written = Appends-nil old;
      at = record {
        before = [];
        state = opening limits;
        marks = [];
        compared = [];
        stands = stands;
        parts = refl;
        same = λ others more. refl;
        lawful = λ others more. refl;
        bad = λ others. refl;
        count = sym (add-zero (header_lines (version_of script) + 1));
        few = omega arith;
        tally = record { told = told-none script-all; counted = refl };
      };
    })
  where
    told-none : (all : Bool) → [] ≡ told_text all []
    told-none true = refl
    told-none false = refl

-- a line at which a check ends is told nothing of
pub unchanged : (A : Type 0) (version : Version) (l : List ℕ) (old new : Checked) (before after : List ℕ) (fault : LineFault) → Ends A version l old new before after fault → (new ≡ old) × (after ≡ before)
unchanged A version l old new before after Bad stop = (stop.0, stop.1)
unchanged A version l old new before after NoMemory stop = (stop.0, stop.1)
