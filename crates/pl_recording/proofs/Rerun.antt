-- A record as it is run.
use Rattle.std.proofs.Common.{◌≡◌, ℕ, suc, ◌+◌, ◌-◌, Bool, true, false, cond, List, [], ◌∷◌, ◌++◌, map, length, take, drop, get_or, append_assoc, refl, ap, ◌∙◌, arith}
use Rattle.std.specs.Prelude.{Some, None, ◌==◌, nat_lt, ◌&&◌, codes, filter}
use Rattle.std.specs.List.{All, flat_map, slice_split, onto_first}
use Rattle.std.proofs.lemmas.Bool.{ne_eqb}
use Rattle.std.proofs.lemmas.List.Elements.{All-head, All-tail, All-append}
use Rattle.pl_model.specs.declared.calls.Limits.{Limits}
use Rattle.pl_model.specs.declared.calls.Step.{Step}
use Rattle.pl_model.specs.declared.replies.Reply.{Reply}
use Rattle.pl_model.specs.declared.script.Line.{Line}
use Rattle.pl_model.specs.declared.script.Line.TheVariants.{Do}
use Rattle.pl_model.specs.declared.script.Version.TheVariants.{Two}
use Rattle.pl_model.specs.Numbered.{State, opening, step}
use Rattle.pl_model.specs.Run.{replies}
use Rattle.pl_model.specs.Words.{is_blank, is_nonempty, words, without_return}
use Rattle.pl_model.specs.Lines.{line_of_words, line}
use Rattle.pl_model.specs.Shown.{reply_text, outcome_text}
use Rattle.pl_model.specs.Script.{lines, asked, asked_of, answers, are_marks, first_bad}
use Rattle.pl_model.specs.Said.{said_step, is_sayable, StepFits}
use Rattle.pl_model.proofs.Versions.{first_line_names_version_2}
use Rattle.pl_model.proofs.saying.Law.{steps_read_back, steps_are_lines}
use Rattle.pl_recording.specs.Record.{ended, limits_text, comment_text, entry_text, recorded}
use Rattle.pl_recording.specs.Replay.{IsRun, no_marks, told, Replays, RecordsReplay}
use Rattle.pl_recording.proofs.OneLine.{NoFeed, literal, reply_line, limits_line}

-- ---- the lines of a text

lines_onto : (text rest : List ℕ) → All NoFeed text → lines (text ++ 10 ∷ rest) ≡ text ∷ lines rest
unfolding lines
lines_onto [] rest one = refl
lines_onto (c ∷ cs) rest one = rw (ne_eqb c 10 (All-head NoFeed c cs one), lines_onto cs rest (All-tail NoFeed c cs one)) refl

pub ended_lines : (text rest : List ℕ) → All NoFeed text → lines (ended text ++ rest) ≡ text ∷ lines rest
ended_lines text rest one = ap lines (append_assoc text (10 ∷ []) rest) ∙ lines_onto text rest one

two_lines : (first second rest : List ℕ) → All NoFeed first → All NoFeed second → lines ((ended first ++ ended second) ++ rest) ≡ first ∷ second ∷ lines rest
two_lines first second rest one two =
    ap lines (append_assoc (ended first) (ended second) rest) ∙ ended_lines first (ended second ++ rest) one ∙ ap (λ ls. first ∷ ls) (ended_lines second rest two)

-- ---- comments

-- a line that begins with `#` keeps it without its carriage return
kept_by : (c : ℕ) (cs : List ℕ) (b : Bool) → (rest : List ℕ) × (cond b (take (length (35 ∷ c ∷ cs) - 1) (35 ∷ c ∷ cs)) (35 ∷ c ∷ cs) ≡ 35 ∷ rest)
kept_by c cs true =
    let len : length (35 ∷ c ∷ cs) - 1 ≡ suc (length cs) = omega arith in
    (take (length cs) (c ∷ cs), ap (λ n. take n (35 ∷ c ∷ cs)) len)
kept_by c cs false = (c ∷ cs, refl)

kept : (text : List ℕ) → (rest : List ℕ) × (without_return (35 ∷ text) ≡ 35 ∷ rest)
unfolding without_return
kept [] = ([], refl)
kept (c ∷ cs) = kept_by c cs (nat_lt 0 (length (35 ∷ c ∷ cs)) && get_or (35 ∷ c ∷ cs) (length (35 ∷ c ∷ cs) - 1) 0 == 13)

onto_part : (parts : List (List ℕ)) → (p : List ℕ) × (ps : List (List ℕ)) × (filter is_nonempty (onto_first 35 parts) ≡ (35 ∷ p) ∷ ps)
onto_part [] = ([], [], refl)
onto_part (part ∷ parts) = (part, filter is_nonempty parts, refl)

first_part : (rest : List ℕ) → (p : List ℕ) × (ps : List (List ℕ)) × (words (35 ∷ rest) ≡ (35 ∷ p) ∷ ps)
unfolding words
first_part rest = onto_part (slice_split is_blank rest)

comment_by : (A : Type 0) (ws : List (List ℕ)) (p : List ℕ) (ps : List (List ℕ)) → ws ≡ (35 ∷ p) ∷ ps → line_of_words {A = A} Two ws ≡ Some None
unfolding line_of_words
comment_by A ws p ps is = rw is refl

comment : (A : Type 0) (text : List ℕ) → line {A = A} Two (35 ∷ text) ≡ Some None
unfolding line
comment A text =
    let stays = kept text in
    let first = first_part stays.0 in
    comment_by A (words (without_return (35 ∷ text))) first.0 first.1 (ap words stays.1 ∙ first.2)

-- ---- what a record asks

module _ {A : Type 0} where
  abbrev Sayable : Step A × Reply A → Type 0
  Sayable e = is_sayable e.0 ≡ true

  abbrev Fits : Step A × Reply A → Type 0
  Fits e = StepFits e.0

  abbrev asks : Step A × Reply A → Line A
  asks e = Do e.0

  abbrev lines_of : List (Step A × Reply A) → List (List ℕ)
  lines_of [] = []
  lines_of (e ∷ es) = said_step e.0 ∷ comment_text e.1 ∷ lines_of es

  comment_line : (reply : Reply A) → All NoFeed (comment_text reply)
  comment_line reply = All-append NoFeed (codes "# => ") (reply_text Two reply) (literal (codes "# => ") refl) (reply_line reply)

  entries_lines : (es : List (Step A × Reply A)) → All Sayable es → All Fits es → lines (flat_map entry_text es) ≡ lines_of es
  unfolding lines
  entries_lines [] sayable fit = refl
  entries_lines (e ∷ es) sayable fit =
      two_lines (said_step e.0) (comment_text e.1) (flat_map entry_text es) (steps_are_lines A e.0 (All-head Sayable e es sayable) (All-head Fits e es fit)) (comment_line e.1)
      ∙ ap (λ ls. said_step e.0 ∷ comment_text e.1 ∷ ls) (entries_lines es (All-tail Sayable e es sayable) (All-tail Fits e es fit))

  asked_next : (first second : List ℕ) (rest : List (List ℕ)) (x : Step A) → line Two first ≡ Some (Some (Do x)) → line {A = A} Two second ≡ Some None → asked Two (first ∷ second ∷ rest) ≡ Do x ∷ asked Two rest
  unfolding asked
  asked_next first second rest x p q = rw (p, q) refl

  good_next : (first second : List ℕ) (rest : List (List ℕ)) (x : Step A) (n : ℕ) → line Two first ≡ Some (Some (Do x)) → line {A = A} Two second ≡ Some None
      → ((m : ℕ) → first_bad A Two m rest ≡ None) → first_bad A Two n (first ∷ second ∷ rest) ≡ None
  unfolding first_bad
  good_next first second rest x n p q later = rw (p, q) (later (n + 1 + 1))

  entries_asked : (es : List (Step A × Reply A)) → All Sayable es → All Fits es → asked Two (lines_of es) ≡ map asks es
  unfolding asked
  entries_asked [] sayable fit = refl
  entries_asked (e ∷ es) sayable fit =
      asked_next (said_step e.0) (comment_text e.1) (lines_of es) e.0 (steps_read_back A e.0 (All-head Sayable e es sayable) (All-head Fits e es fit)) (comment A (codes " => " ++ reply_text Two e.1))
      ∙ ap (λ ls. Do e.0 ∷ ls) (entries_asked es (All-tail Sayable e es sayable) (All-tail Fits e es fit))

  entries_good : (es : List (Step A × Reply A)) → All Sayable es → All Fits es → (n : ℕ) → first_bad A Two n (lines_of es) ≡ None
  unfolding first_bad
  entries_good [] sayable fit n = refl
  entries_good (e ∷ es) sayable fit n =
      good_next (said_step e.0) (comment_text e.1) (lines_of es) e.0 n (steps_read_back A e.0 (All-head Sayable e es sayable) (All-head Fits e es fit)) (comment A (codes " => " ++ reply_text Two e.1))
      (entries_good es (All-tail Sayable e es sayable) (All-tail Fits e es fit))

  -- ---- what it prints

  entries_answers : (s : State A) (es : List (Step A × Reply A)) → map (λ e. e.1) es ≡ replies s (map (λ e. e.0) es) → answers Two s (map asks es) (no_marks es) ≡ told es
  unfolding answers outcome_text
  entries_answers s [] are = refl
  entries_answers s (e ∷ es) are =
      let first : e.1 ≡ (step s e.0).reply = cc in
      let rest : map (λ e. e.1) es ≡ replies (step s e.0).state (map (λ e. e.0) es) = cc in
      rw (← first) (ap (λ text. ended (reply_text Two e.1) ++ text) (entries_answers (step s e.0).state es rest))

  entries_marks : (s : State A) (es : List (Step A × Reply A)) → are_marks s (map asks es) (no_marks es) ≡ true
  unfolding are_marks
  entries_marks s [] = refl
  entries_marks s (e ∷ es) = entries_marks (step s e.0).state es

-- ---- the whole of it

version_line : All NoFeed (codes "piperun 2")
version_line = literal (codes "piperun 2") refl

asked_is : (A : Type 0) (script : List ℕ) (rest : List (List ℕ)) → lines script ≡ codes "piperun 2" ∷ rest → asked_of A script ≡ asked Two rest
unfolding without_return
asked_is A script rest parts = rw parts refl

names_it : without_return (codes "piperun 2") ≡ codes "piperun 2"
unfolding without_return
names_it = refl

limits_asked : (A : Type 0) (limits : Limits) (rest : List (List ℕ)) → asked {A = A} Two (limits_text limits ∷ rest) ≡ asked Two rest
unfolding asked
limits_asked A limits rest = rw (comment A (drop 1 (limits_text limits))) refl

limits_good : (A : Type 0) (limits : Limits) (rest : List (List ℕ)) (n : ℕ) → first_bad A Two n (limits_text limits ∷ rest) ≡ first_bad A Two (n + 1) rest
unfolding first_bad
limits_good A limits rest n = rw (comment A (drop 1 (limits_text limits))) refl

module _ (A : Type 0) (limits : Limits) (es : List (Step A × Reply A)) (run : IsRun limits es) where
  all_lines : lines (recorded limits es) ≡ codes "piperun 2" ∷ limits_text limits ∷ lines_of es
  all_lines =
      two_lines (codes "piperun 2") (limits_text limits) (flat_map entry_text es) version_line (limits_line limits)
      ∙ ap (λ ls. codes "piperun 2" ∷ limits_text limits ∷ ls) (entries_lines es run.sayable run.fit)

  all_asked : asked {A = A} Two (limits_text limits ∷ lines_of es) ≡ map asks es
  all_asked = limits_asked A limits (lines_of es) ∙ entries_asked es run.sayable run.fit

  replays : Replays limits es
  replays =
      let second = first_line_names_version_2 A (recorded limits es) (codes "piperun 2") (limits_text limits ∷ lines_of es) all_lines names_it in
      record {
        whole = second.bad ∙ limits_good A limits (lines_of es) 2 ∙ entries_good es run.sayable run.fit 3;
        marks = ap (λ ls. are_marks (opening limits) ls (no_marks es)) (asked_is A (recorded limits es) (limits_text limits ∷ lines_of es) all_lines ∙ all_asked) ∙ entries_marks (opening limits) es;
        prints = second.prints limits (no_marks es) ∙ ap (λ ls. answers Two (opening limits) ls (no_marks es)) all_asked ∙ entries_answers (opening limits) es run.are_replies;
      }

pub records_replay : (A : Type 0) → RecordsReplay A
records_replay A limits es run = replays A limits es run
