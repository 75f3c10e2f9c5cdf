-- What a record is compared with. A record is a script whose comments `# => TEXT` say what was answered, each of the last line
-- before it that asks something.
use Rattle.std.specs.Prelude.{◌≡◌, ⊤, ℕ, ◌+◌, ◌<◌, List, [], ◌∷◌, ◌++◌, ◌⊎◌, length, take, drop, filter, count_by, Bool, true, false, not, if◌then◌else◌, Option, Some, None, IsSome, Result, Ok, Err, codes}
use Rattle.std.specs.List.{flat_map}
use Rattle.std.specs.Fmt.{decimal}
use Rattle.std.specs.Str.{bytes_eq}
use Rattle.std.specs.Io.KnownBytes.{IsAtEnd}
use Rattle.pl_model.specs.declared.calls.Limits.{Limits}
use Rattle.pl_model.specs.declared.script.Line.{Line}
use Rattle.pl_model.specs.declared.script.Version.{Version}
use Rattle.pl_model.specs.Numbered.{State, opening}
use Rattle.pl_model.specs.Numbers.{most_script_bytes}
use Rattle.pl_model.specs.Lines.{line}
use Rattle.pl_model.specs.Script.{asked, are_marks, first_bad, version_of, header_lines, body, bad_line, next_state, answer, AreMarks}
use Rattle.pl_model.specs.Words.{without_return}
use Rattle.pl_script.specs.Running.{Asks, Fits}
use Rattle.pl_script.specs.declared.comparing.Checked.{Checked}
use Rattle.pl_script.specs.declared.fault.ScriptFault.{ScriptFault}
use Rattle.pl_script.specs.declared.fault.ScriptFault.TheVariants as faults

-- the text that a line expects: TEXT of `# => TEXT`, with exactly this front, and without a carriage return at its end
abbrev pub expected : List ℕ → Option (List ℕ)
expected l = if bytes_eq (take 5 l) (codes "# => ") then Some (without_return (drop 5 l)) else None

-- A line that expects a text, by its number, and the text that was answered. Nothing was answered before the first line that asks.
pub record Comparison : Type 0 where
  pub number : ℕ
  pub expects : List ℕ
  pub answered : List ℕ

-- what is compared at a line that may expect a text
abbrev pub compared_at : ℕ → List ℕ → Option (List ℕ) → List Comparison
compared_at n last None = []
compared_at n last (Some text) = record { number = n; expects = text; answered = last } ∷ []

module _ {A : Type 0} where
  -- What is compared at a line of this number, and behind it: the rest is told the state, the last text and the marks to come.
  abbrev pub at_line : Version → ℕ → List ℕ → Option (Option (Line A)) → State A → List ℕ → List Bool
      → (State A → List ℕ → List Bool → List Comparison) → List Comparison
  at_line version n l None s last marks rest = []
  at_line version n l (Some None) s last marks rest = compared_at n last (expected l) ++ rest s last marks
  at_line version n l (Some (Some x)) s last [] rest = []
  at_line version n l (Some (Some x)) s last (mark ∷ marks) rest = rest (next_state s x mark) (answer version s x mark) marks

  -- what is compared before the first bad line, where the first of these lines has this number, and the last text was this
  unfoldable pub comparisons : Version → ℕ → State A → List ℕ → List (List ℕ) → List Bool → List Comparison
  comparisons version n s last [] marks = []
  comparisons version n s last (l ∷ ls) marks =
      at_line version n l (line version l) s last marks (λ next text more. comparisons version (n + 1) next text ls more)

-- In all of these A is the type of the allocator of the script's calls.

-- what is compared in a script, at marks that say where memory was wanting
abbrev pub comparisons_of : (A : Type 0) → List ℕ → Limits → List Bool → List Comparison
comparisons_of A script limits marks =
    comparisons {A = A} (version_of script) (header_lines (version_of script) + 1) (opening limits) [] (body script) marks

-- the line expects another text than was answered
abbrev pub differs : Comparison → Bool
differs c = not (bytes_eq c.expects c.answered)

-- the three lines that tell a difference
abbrev pub difference_text : Comparison → List ℕ
difference_text c =
    codes "line " ++ (decimal c.number ++ (10 ∷ codes "expected " ++ (c.expects ++ (10 ∷ codes "answered " ++ (c.answered ++ 10 ∷ [])))))

-- of the differences, all are told, or the first
abbrev pub told : Bool → List Comparison → List Comparison
told true differences = differences
told false differences = take 1 differences

-- what is written of the comparisons
abbrev pub told_text : Bool → List Comparison → List ℕ
told_text all compared = flat_map difference_text (told all (filter differs compared))

-- what is counted of them
abbrev pub counts_of : List Comparison → Checked
counts_of compared = record { compared = length compared; different = count_by differs compared }

-- what was written is what is told of the whole script, at some marks
abbrev pub TellsDifferences : (A : Type 0) → Bool → List ℕ → Limits → List ℕ → Type 0
TellsDifferences A all script limits written =
    (marks : List Bool) × AreMarks A script limits marks × (written ≡ told_text all (comparisons_of A script limits marks))

-- what was written is a front of that, at some marks
abbrev pub TellsFront : (A : Type 0) → Bool → List ℕ → Limits → List ℕ → Type 0
TellsFront A all script limits written =
    (marks : List Bool) × (more : List ℕ) × AreMarks A script limits marks × (told_text all (comparisons_of A script limits marks) ≡ written ++ more)

-- what was written is all of it, at marks at which it is counted so
abbrev pub TellsAndCounts : (A : Type 0) → Bool → List ℕ → Limits → Checked → List ℕ → Type 0
TellsAndCounts A all script limits checked written =
    (marks : List Bool) × AreMarks A script limits marks × (written ≡ told_text all (comparisons_of A script limits marks))
    × (checked ≡ counts_of (comparisons_of A script limits marks))

-- Memory was wanting at the line behind the first n, which asks for something or expects a text: what was written is what is told of
-- those n lines, at some marks, and none of them is bad.
pub record TellsLinesBefore (A : Type 0) (all : Bool) (script : List ℕ) (limits : Limits) (n : ℕ) (written : List ℕ) : Type 0 where
  pub before : List (List ℕ)
  pub next : List ℕ
  pub after : List (List ℕ)
  pub marks : List Bool
  pub parts : body script ≡ before ++ (next ∷ after)
  pub count : header_lines (version_of script) + length before ≡ n
  pub wants : Asks A (version_of script) next ⊎ IsSome (expected next)
  pub good : first_bad A (version_of script) (header_lines (version_of script) + 1) before ≡ None
  pub lawful : are_marks {A = A} (opening limits) (asked (version_of script) before) marks ≡ true
  pub text : written ≡ told_text all (comparisons {A = A} (version_of script) (header_lines (version_of script) + 1) (opening limits) [] before marks)

-- what a check of the script answers, and what it writes
abbrev pub IsCheck : (A : Type 0) → Bool → List ℕ → Limits → Result Checked ScriptFault → List ℕ → Type 0
IsCheck A all script limits (Ok checked) written =
    Fits script × (bad_line A script ≡ None) × TellsAndCounts A all script limits checked written
IsCheck A all script limits (Err (faults.BadLine n)) written =
    Fits script × (bad_line A script ≡ Some n) × TellsDifferences A all script limits written
IsCheck A all script limits (Err faults.Write) written = Fits script × TellsFront A all script limits written
IsCheck A all script limits (Err faults.NoMemory) written =
    (written ≡ []) ⊎ (Fits script × ((n : ℕ) × TellsLinesBefore A all script limits n written))
IsCheck A all script limits (Err faults.TooLong) written = (most_script_bytes < length script) × (written ≡ [])
IsCheck A all script limits (Err faults.Read) written = written ≡ []

-- where a script was checked, and where what was told couldn't be written, it was read to its end
abbrev pub IsCheckedToEnd : Result Checked ScriptFault → Option (List ℕ) → Type 0
IsCheckedToEnd (Ok checked) remaining = IsAtEnd remaining
IsCheckedToEnd (Err (faults.BadLine n)) remaining = IsAtEnd remaining
IsCheckedToEnd (Err faults.Write) remaining = IsAtEnd remaining
IsCheckedToEnd (Err faults.NoMemory) remaining = ⊤
IsCheckedToEnd (Err faults.TooLong) remaining = ⊤
IsCheckedToEnd (Err faults.Read) remaining = ⊤
