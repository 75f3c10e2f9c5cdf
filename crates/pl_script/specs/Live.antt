-- A live run: what it answers to the lines that it has heard, and when.
use Rattle.std.specs.Prelude.{◌≡◌, ⊤, ℕ, ◌+◌, List, [], ◌∷◌, ◌++◌, length, drop, filter, All, Bool, true, false, ◌==◌, ◌&&◌, nat_le, if◌then◌else◌, is_some, Option, Some, None, Result, Ok, Err, codes}
use Rattle.pl_model.specs.declared.calls.Limits.{Limits}
use Rattle.pl_model.specs.declared.script.Line.{Line}
use Rattle.pl_model.specs.declared.script.Version.{Version}
use Rattle.pl_model.specs.Numbered.{State, opening}
use Rattle.pl_model.specs.Lines.{line}
use Rattle.pl_model.specs.Script.{lines, version_of_lines, header_lines, asked, next_state, answer, are_marks}
use Rattle.pl_script.specs.Talk.{Talk, Moment}
use Rattle.pl_script.specs.declared.peer.LiveTotals.{LiveTotals}
use Rattle.pl_script.specs.declared.peer.LiveFault.{LiveFault}
use Rattle.pl_script.specs.declared.peer.LiveFault.TheVariants as faults

-- the most bytes of a line, without its line feed: a longer one is bad
abbrev pub most_line_bytes : ℕ
most_line_bytes = 33554500

-- the most reads of a live run
abbrev pub most_live_reads : ℕ
most_live_reads = 140737488355328

-- the byte, before the first of the lines, if there is one
abbrev pub onto_ended : ℕ → List (List ℕ) → List (List ℕ)
onto_ended c [] = []
onto_ended c (l ∷ ls) = (c ∷ l) ∷ ls

-- The lines that a line feed has ended: those of `lines`, without a last one that lacks its line feed.
unfoldable pub ended_lines : List ℕ → List (List ℕ)
ended_lines [] = []
ended_lines (c ∷ cs) = if c == 10 then [] ∷ ended_lines cs else onto_ended c (ended_lines cs)

-- In all of these A is the type of the allocator of the calls that the lines ask for.

-- the version has such a line, and it isn't too long
abbrev pub is_good : (A : Type 0) → Version → List ℕ → Bool
is_good A version l = nat_le (length l) most_line_bytes && is_some (line {A = A} version l)

-- the lines behind the one that names the version
abbrev pub behind_header : List (List ℕ) → List (List ℕ)
behind_header ls = drop (header_lines (version_of_lines ls)) ls

-- what these lines ask: those that aren't good are passed over
unfoldable pub asked_live : (A : Type 0) → List (List ℕ) → List (Line A)
asked_live A ls = asked (version_of_lines ls) (filter (is_good A (version_of_lines ls)) (behind_header ls))

abbrev pub number_unless : Bool → ℕ → List ℕ → List ℕ
number_unless true n later = later
number_unless false n later = n ∷ later

-- the numbers of those that aren't good, where the first has this number
unfoldable pub bad_among : (A : Type 0) → Version → ℕ → List (List ℕ) → List ℕ
bad_among A version n [] = []
bad_among A version n (l ∷ ls) = number_unless (is_good A version l) n (bad_among A version (n + 1) ls)

-- the numbers of the bad lines of these, from 1 on
unfoldable pub bad_lines : (A : Type 0) → List (List ℕ) → List ℕ
bad_lines A ls = bad_among A (version_of_lines ls) (header_lines (version_of_lines ls) + 1) (behind_header ls)

-- what a line that isn't good is answered
abbrev pub bad_answer : List ℕ
bad_answer = codes "bad line" ++ 10 ∷ []

module _ {A : Type 0} where
  -- What a line is answered, by whether it is good and what it asks, and behind that what the lines after it are, from the state and
  -- the marks that it leaves.
  abbrev pub answer_then : Version → Bool → Option (Option (Line A)) → State A → List Bool → (State A → List Bool → List ℕ) → List ℕ
  answer_then version false asks s marks rest = bad_answer ++ rest s marks
  answer_then version true None s marks rest = rest s marks
  answer_then version true (Some None) s marks rest = rest s marks
  answer_then version true (Some (Some x)) s [] rest = []
  answer_then version true (Some (Some x)) s (mark ∷ marks) rest = (answer version s x mark ++ 10 ∷ []) ++ rest (next_state s x mark) marks

  -- what these lines are answered, with one mark for each good one that asks
  unfoldable pub answers_live : Version → State A → List (List ℕ) → List Bool → List ℕ
  answers_live version s [] marks = []
  answers_live version s (l ∷ ls) marks =
      answer_then version (is_good A version l) (line version l) s marks (λ next more. answers_live version next ls more)

-- The text is what these lines are answered, from a new kernel, at some marks that say where memory was wanting. These numbers are
-- those of the bad lines among them.
pub record AreAnswered (A : Type 0) (limits : Limits) (ls : List (List ℕ)) (text refused : List ℕ) : Type 0 where
  pub marks : List Bool
  pub lawful : are_marks {A = A} (opening limits) (asked_live A ls) marks ≡ true
  pub answers : text ≡ answers_live (version_of_lines ls) (opening {A = A} limits) (behind_header ls) marks
  pub bad : refused ≡ bad_lines A ls

-- No answer was held back: whoever had said this had been told the answers of all lines that he had ended, and no more.
abbrev pub IsPrompt : (A : Type 0) → Limits → Moment → Type 0
IsPrompt A limits m = AreAnswered A limits (ended_lines m.heard) m.told m.refused

-- Why a run ended behind these lines and before these others, of all that were heard.
abbrev pub EndsBefore : (A : Type 0) → Bool → Talk → Result LiveTotals LiveFault → List (List ℕ) → List (List ℕ) → Type 0
EndsBefore A strict talk (Ok counted) ls later =
    (talk.is_over ≡ true) × (later ≡ []) × (counted.lines ≡ length ls) × (counted.bad ≡ length talk.refused) × (strict ≡ true → counted.bad ≡ 0)
EndsBefore A strict talk (Err (faults.BadLine n)) ls later =
    (strict ≡ true) × (n ≡ length ls + 1) × ((l : List ℕ) × (others : List (List ℕ)) × (later ≡ l ∷ others) × (bad_lines A (ls ++ l ∷ []) ≡ n ∷ []))
EndsBefore A strict talk (Err faults.Read) ls later = ls ≡ ended_lines talk.heard
EndsBefore A strict talk (Err faults.TooLong) ls later = (length talk.moments ≡ most_live_reads) × (ls ≡ ended_lines talk.heard)
EndsBefore A strict talk (Err faults.Write) ls later = ⊤
EndsBefore A strict talk (Err faults.NoMemory) ls later = ⊤

-- What was written and told: all that the lines before the end are answered. Where a write failed, what was written is a front of it.
abbrev pub IsToldAll : Result LiveTotals LiveFault → Talk → List ℕ → Type 0
IsToldAll (Err faults.Write) talk text = (more : List ℕ) × (text ≡ talk.written ++ more)
IsToldAll (Ok counted) talk text = (talk.written ≡ text) × (talk.told ≡ text)
IsToldAll (Err faults.Read) talk text = (talk.written ≡ text) × (talk.told ≡ text)
IsToldAll (Err faults.TooLong) talk text = (talk.written ≡ text) × (talk.told ≡ text)
IsToldAll (Err (faults.BadLine n)) talk text = (talk.written ≡ text) × (talk.told ≡ text)
IsToldAll (Err faults.NoMemory) talk text = (talk.written ≡ text) × (talk.told ≡ text)

-- A live run: at each moment at which it listened no answer was held back, and at its end some first lines of what it heard
-- were answered, and no others.
pub record IsLiveRun (A : Type 0) (limits : Limits) (strict : Bool) (result : Result LiveTotals LiveFault) (talk : Talk) : Type 0 where
  pub prompt : All (IsPrompt A limits) talk.moments
  pub before : List (List ℕ)
  pub later : List (List ℕ)
  pub parts : lines talk.heard ≡ before ++ later
  pub text : List ℕ
  pub answered : AreAnswered A limits before text talk.refused
  pub told : IsToldAll result talk text
  pub ends : EndsBefore A strict talk result before later
