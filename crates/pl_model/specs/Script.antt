-- What a script prints (our own).
use Rattle.std.specs.Prelude.{◌≡◌, ℕ, ◌+◌, List, [], ◌∷◌, ◌++◌, length, drop, Bool, true, false, not, ◌==◌, ◌&&◌, if◌then◌else◌, Option, Some, None, is_some, count_by, codes}
use Rattle.std.specs.Str.{bytes_eq}
use Rattle.pl_model.specs.declared.calls.Limits.{Limits}
use Rattle.pl_model.specs.declared.script.Line.{Line}
use Rattle.pl_model.specs.declared.script.Line.TheVariants.{Do, File}
use Rattle.pl_model.specs.declared.script.Totals.{Totals}
use Rattle.pl_model.specs.declared.script.Version.{Version}
use Rattle.pl_model.specs.declared.script.Version.TheVariants.{One, Two}
use Rattle.pl_model.specs.declared.replies.Outcome.TheVariants.{Replied, NoMemory}
use Rattle.pl_model.specs.State.{file_bytes}
use Rattle.pl_model.specs.Numbered.{State, opening, step}
use Rattle.pl_model.specs.Memory.{never_wants_memory}
use Rattle.pl_model.specs.Words.{without_return}
use Rattle.pl_model.specs.Lines.{line}
use Rattle.pl_model.specs.Shown.{outcome_text, file_text}

-- the byte, before the first line
abbrev pub onto_first : ℕ → List (List ℕ) → List (List ℕ)
onto_first c [] = (c ∷ []) ∷ []
onto_first c (l ∷ ls) = (c ∷ l) ∷ ls

-- each line is ended by a line feed, which the last may lack
unfoldable pub lines : List ℕ → List (List ℕ)
lines [] = []
lines (c ∷ cs) = if c == 10 then [] ∷ lines cs else onto_first c (lines cs)

-- the first line of a script of version 2: exactly this, but for one carriage return at its end
abbrev pub names_version_2 : List ℕ → Bool
names_version_2 l = bytes_eq (without_return l) (codes "piperun 2")

-- the version that the first of these lines names
abbrev pub version_of_lines : List (List ℕ) → Version
version_of_lines [] = One
version_of_lines (first ∷ rest) = if names_version_2 first then Two else One

-- how many lines name the version: they ask nothing
abbrev pub header_lines : Version → ℕ
header_lines One = 0
header_lines Two = 1

-- the version of a script
abbrev pub version_of : List ℕ → Version
version_of script = version_of_lines (lines script)

-- the lines behind those that name the version
abbrev pub body : List ℕ → List (List ℕ)
body script = drop (header_lines (version_of script)) (lines script)

module _ {A : Type 0} where
  -- what stands in a line, before what stands after it
  abbrev pub with_line : Option (Line A) → List (Line A) → List (Line A)
  with_line None rest = rest
  with_line (Some l) rest = l ∷ rest

  abbrev pub if_good : Option (Option (Line A)) → List (Line A) → List (Line A)
  if_good None rest = []
  if_good (Some l) rest = with_line l rest

  -- what the lines before the first bad one ask
  unfoldable pub asked : Version → List (List ℕ) → List (Line A)
  asked version [] = []
  asked version (l ∷ ls) = if_good (line version l) (asked version ls)

  abbrev pub number_if_bad : Option (Option (Line A)) → ℕ → Option ℕ → Option ℕ
  number_if_bad None n later = Some n
  number_if_bad (Some l) n later = later

  -- the state after what a line asks; a mark says that it found no memory
  abbrev pub next_state : State A → Line A → Bool → State A
  next_state s l true = s
  next_state s (Do x) false = (step s x).state
  next_state s (File name) false = s

  -- the text that it prints
  abbrev pub answer : Version → State A → Line A → Bool → List ℕ
  answer version s l true = outcome_text {A = A} version NoMemory
  answer version s (Do x) false = outcome_text version (Replied (step s x).reply)
  answer version s (File name) false = file_text version (file_bytes s.core name)

  -- the lines that are printed, with one mark for each
  unfoldable pub answers : Version → State A → List (Line A) → List Bool → List ℕ
  answers version s [] marks = []
  answers version s (l ∷ ls) [] = []
  answers version s (l ∷ ls) (mark ∷ marks) = (answer version s l mark ++ 10 ∷ []) ++ answers version (next_state s l mark) ls marks

  abbrev pub never_marked : State A → Line A → Bool
  never_marked s (Do x) = never_wants_memory s x
  never_marked s (File name) = not (is_some (file_bytes s.core name))

  -- one mark for each line that asks, none where memory is never wanted
  unfoldable pub are_marks : State A → List (Line A) → List Bool → Bool
  are_marks s [] [] = true
  are_marks s [] (mark ∷ marks) = false
  are_marks s (l ∷ ls) [] = false
  are_marks s (l ∷ ls) (mark ∷ marks) = not (mark && never_marked s l) && are_marks (next_state s l mark) ls marks

  abbrev pub is_step : Line A → Bool
  is_step (Do x) = true
  is_step (File name) = false

-- the number of the first bad line, where the first of these lines has this number
unfoldable pub first_bad : (A : Type 0) → Version → ℕ → List (List ℕ) → Option ℕ
first_bad A version n [] = None
first_bad A version n (l ∷ ls) = number_if_bad {A = A} (line version l) n (first_bad A version (n + 1) ls)

-- In all of these A is the type of the allocator of the script's calls.

-- what a script asks
abbrev pub asked_of : (A : Type 0) → List ℕ → List (Line A)
asked_of A script = asked (version_of script) (body script)

-- the number of the first bad line of a script
abbrev pub bad_line : (A : Type 0) → List ℕ → Option ℕ
bad_line A script = first_bad A (version_of script) (header_lines (version_of script) + 1) (body script)

-- A script's output, at marks that say where memory was wanting: the lines for all that stands before the first bad line.
abbrev pub output : (A : Type 0) → List ℕ → Limits → List Bool → List ℕ
output A script limits marks = answers (version_of script) (opening limits) (asked_of A script) marks

-- the marks are some of a run of the script
abbrev pub AreMarks : (A : Type 0) → List ℕ → Limits → List Bool → Type 0
AreMarks A script limits marks = are_marks (opening limits) (asked_of A script) marks ≡ true

-- what is counted of a script without a bad line
abbrev pub totals : (A : Type 0) → List ℕ → List Bool → Totals
totals A script marks =
    record { lines = length (lines script); steps = count_by is_step (asked_of A script); nomem = count_by (λ m. m) marks }
