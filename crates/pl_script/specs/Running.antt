-- What a run of a script comes to.
use Rattle.std.specs.Prelude.{◌≡◌, ⊤, ℕ, ◌+◌, ◌<◌, ◌≤◌, List, [], ◌∷◌, ◌++◌, ◌⊎◌, length, Bool, true, Option, Some, None, IsSome, IsSomeAnd, Result, Ok, Err}
use Rattle.std.specs.Io.KnownBytes.{IsAtEnd}
use Rattle.pl_model.specs.declared.calls.Limits.{Limits}
use Rattle.pl_model.specs.declared.script.Totals.{Totals}
use Rattle.pl_model.specs.declared.script.Version.{Version}
use Rattle.pl_model.specs.Numbered.{opening}
use Rattle.pl_model.specs.Lines.{line}
use Rattle.pl_model.specs.Script.{asked, answers, are_marks, first_bad, version_of, header_lines, body, bad_line, output, AreMarks, totals}
use Rattle.pl_model.specs.Numbers.{most_script_bytes}
use Rattle.pl_script.specs.declared.fault.ScriptFault.{ScriptFault}
use Rattle.pl_script.specs.declared.fault.ScriptFault.TheVariants as faults

-- In all of these A is the type of the allocator of the script's calls.

-- what was written is the whole output, at some marks
abbrev pub WritesOutput : (A : Type 0) → List ℕ → Limits → List ℕ → Type 0
WritesOutput A script limits written =
    (marks : List Bool) × AreMarks A script limits marks × (written ≡ output A script limits marks)

-- what was written is a front of the output, at some marks
abbrev pub WritesFrontOfOutput : (A : Type 0) → List ℕ → Limits → List ℕ → Type 0
WritesFrontOfOutput A script limits written =
    (marks : List Bool) × (more : List ℕ) × AreMarks A script limits marks
    × (output A script limits marks ≡ written ++ more)

-- what was written is the whole output, at marks that the counts count
abbrev pub WritesAndCounts : (A : Type 0) → List ℕ → Limits → Totals → List ℕ → Type 0
WritesAndCounts A script limits counted written =
    (marks : List Bool) × AreMarks A script limits marks × (written ≡ output A script limits marks)
    × (counted ≡ totals A script marks)

-- the line asks for something
abbrev pub Asks : (A : Type 0) → Version → List ℕ → Type 0
Asks A version bytes = IsSomeAnd (line {A = A} version bytes) (λ asked. IsSome asked)

-- Memory was wanting at the line behind the first n, which asks for something: what was written is the output of those n lines,
-- at some marks, and none of them is bad. Its step may have been made, but its text isn't written. A line that names the version is
-- one of the n.
pub record WritesLinesBefore (A : Type 0) (script : List ℕ) (limits : Limits) (n : ℕ) (written : List ℕ) : Type 0 where
  pub before : List (List ℕ)
  pub next : List ℕ
  pub after : List (List ℕ)
  pub marks : List Bool
  pub parts : body script ≡ before ++ (next ∷ after)
  pub count : header_lines (version_of script) + length before ≡ n
  pub asks : Asks A (version_of script) next
  pub good : first_bad A (version_of script) (header_lines (version_of script) + 1) before ≡ None
  pub lawful : are_marks {A = A} (opening limits) (asked (version_of script) before) marks ≡ true
  pub text : written ≡ answers {A = A} (version_of script) (opening limits) (asked (version_of script) before) marks

-- the script isn't too long to be run
abbrev pub Fits : List ℕ → Type 0
Fits script = length script ≤ most_script_bytes

-- what a run of the script answers, and what it writes; at want of memory either the script wasn't read, or a line wasn't run
abbrev pub IsRun : (A : Type 0) → List ℕ → Limits → Result Totals ScriptFault → List ℕ → Type 0
IsRun A script limits (Ok counted) written =
    Fits script × (bad_line A script ≡ None) × WritesAndCounts A script limits counted written
IsRun A script limits (Err (faults.BadLine n)) written =
    Fits script × (bad_line A script ≡ Some n) × WritesOutput A script limits written
IsRun A script limits (Err faults.Write) written = Fits script × WritesFrontOfOutput A script limits written
IsRun A script limits (Err faults.NoMemory) written =
    (written ≡ []) ⊎ (Fits script × ((n : ℕ) × WritesLinesBefore A script limits n written))
IsRun A script limits (Err faults.TooLong) written = (most_script_bytes < length script) × (written ≡ [])
IsRun A script limits (Err faults.Read) written = written ≡ []

-- The same of a run that counts its lines as it goes: where memory was wanting, the lines that it counted are those before.
abbrev pub IsCountedRun : (A : Type 0) → List ℕ → Limits → Result (Unit {0}) ScriptFault → Totals → List ℕ → Type 0
IsCountedRun A script limits (Ok x) counted written = IsRun A script limits (Ok counted) written
IsCountedRun A script limits (Err faults.NoMemory) counted written =
    Fits script × WritesLinesBefore A script limits counted.lines written
IsCountedRun A script limits (Err fault) counted written = IsRun A script limits (Err fault) written

-- where a script was run, and where its output couldn't be written, it was read to its end
abbrev pub IsReadToEnd : Result Totals ScriptFault → Option (List ℕ) → Type 0
IsReadToEnd (Ok counted) remaining = IsAtEnd remaining
IsReadToEnd (Err (faults.BadLine n)) remaining = IsAtEnd remaining
IsReadToEnd (Err faults.Write) remaining = IsAtEnd remaining
IsReadToEnd (Err faults.NoMemory) remaining = ⊤
IsReadToEnd (Err faults.TooLong) remaining = ⊤
IsReadToEnd (Err faults.Read) remaining = ⊤

-- A run fails to write exactly where the writer failed or took nothing, and doesn't fail to read. The two Bools say
-- whether the writer had stopped before, and has stopped now.
abbrev pub WritingEnds : {X : Type 0} → Bool → Bool → Result X ScriptFault → Type 0
WritingEnds before after (Ok x) = after ≡ before
WritingEnds before after (Err faults.Write) = after ≡ true
WritingEnds before after (Err (faults.BadLine n)) = after ≡ before
WritingEnds before after (Err faults.NoMemory) = after ≡ before
WritingEnds before after (Err faults.Read) = ⊥
WritingEnds before after (Err faults.TooLong) = ⊥
