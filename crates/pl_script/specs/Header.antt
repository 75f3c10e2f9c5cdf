-- The limits that a record names, in a comment `# piperun OPTION NUMBER ..`: its first line, or the one behind the line that names the
-- version.
use Rattle.std.specs.Prelude.{◌≡◌, ℕ, ◌+◌, ◌<◌, ◌^◌, List, [], ◌∷◌, length, Bool, ◌&&◌, if◌then◌else◌, nat_le, Option, Some, None, Result, Ok, Err, codes}
use Rattle.std.specs.Str.{bytes_eq}
use Rattle.pl_model.specs.declared.calls.Limits.{Limits}
use Rattle.pl_model.specs.Numbers.{most_file_bytes, most_capacity, most_descriptors, most_descriptions, most_processes, most_script_bytes}
use Rattle.pl_model.specs.Words.{◌>>=◌, words, without_return, number}
use Rattle.pl_model.specs.Script.{lines, version_of, header_lines, body}
use Rattle.pl_script.specs.Running.{Fits}
use Rattle.pl_script.specs.Checked.{IsCheck}
use Rattle.pl_script.specs.Misspelt.{first_misspelt}
use Rattle.pl_script.specs.declared.comparing.Checked.{Checked}
use Rattle.pl_script.specs.declared.fault.ScriptFault.{ScriptFault}
use Rattle.pl_script.specs.declared.fault.ScriptFault.TheVariants as faults

-- the limits with one of them set: each option names one, within its range
unfoldable pub with_limit : Limits → List ℕ → ℕ → Option Limits
with_limit limits option n =
    if bytes_eq option (codes "--first-call") then Some (record limits { first_call = n })
    else if bytes_eq option (codes "--file-max") then (if nat_le n most_file_bytes then Some (record limits { file_max = n }) else None)
    else if bytes_eq option (codes "--names-max") then Some (record limits { names_max = n })
    else if bytes_eq option (codes "--waiting-max") then Some (record limits { waiting_max = n })
    else if bytes_eq option (codes "--waiting-of-each") then Some (record limits { waiting_of_each = n })
    else if bytes_eq option (codes "--capacity-max") then (if nat_le n most_capacity then Some (record limits { capacity_max = n }) else None)
    else if bytes_eq option (codes "--descriptors-max") then (if nat_le n most_descriptors then Some (record limits { descriptors_max = n }) else None)
    else if bytes_eq option (codes "--descriptions-max") then (if nat_le n most_descriptions then Some (record limits { descriptions_max = n }) else None)
    else if bytes_eq option (codes "--processes-max") then (if nat_le n most_processes then Some (record limits { processes_max = n }) else None)
    else None

-- `OPTION NUMBER ..`, any number of them, each number below 2^64; of an option that stands twice the last one counts
unfoldable pub with_limits : Limits → List (List ℕ) → Option Limits
with_limits limits [] = Some limits
with_limits limits (option ∷ []) = None
with_limits limits (option ∷ word ∷ rest) = do
  n ← number (2 ^ 64) word
  more ← with_limit limits option n
  with_limits more rest

-- the words of a line that names limits: those behind `# piperun`
abbrev pub header_words : List (List ℕ) → Option (List (List ℕ))
header_words (hash ∷ program ∷ rest) = if bytes_eq hash (codes "#") && bytes_eq program (codes "piperun") then Some rest else None
header_words _ = None

-- the limits after what they were before a line that may name some
abbrev pub limits_if_named : Limits → Option (List (List ℕ)) → Option Limits
limits_if_named limits None = Some limits
limits_if_named limits (Some options) = with_limits limits options

-- the same of the first of these lines
abbrev pub limits_of_lines : Limits → List (List ℕ) → Option Limits
limits_of_lines limits [] = Some limits
limits_of_lines limits (l ∷ ls) = limits_if_named limits (header_words (words (without_return l)))

-- The limits of a record that is checked within these: `None` where its header says what it can't.
abbrev pub limits_of_header : Limits → List ℕ → Option Limits
limits_of_header limits script = limits_of_lines limits (body script)

-- what the check of a record answers whose line of this number is bad for a check alone, if it doesn't end before: nothing is run
abbrev pub IsBadRecord : ℕ → List ℕ → Result Checked ScriptFault → List ℕ → Type 0
IsBadRecord bad script (Err (faults.BadLine n)) written = Fits script × (n ≡ bad) × (written ≡ [])
IsBadRecord bad script (Err faults.TooLong) written = (most_script_bytes < length script) × (written ≡ [])
IsBadRecord bad script (Err faults.NoMemory) written = written ≡ []
IsBadRecord bad script (Err faults.Read) written = written ≡ []
IsBadRecord bad script (Err faults.Write) written = ⊥
IsBadRecord bad script (Ok checked) written = ⊥

-- the same of any record within these limits, which may have a misspelt line, of this number
abbrev pub IsCheckSpelt : (A : Type 0) → Bool → Limits → Option ℕ → List ℕ → Result Checked ScriptFault → List ℕ → Type 0
IsCheckSpelt A all limits None script result written = IsCheck A all script limits result written
IsCheckSpelt A all limits (Some n) script result written = IsBadRecord n script result written

-- What the check of a record answers, and what it writes, within the limits that it names. The line of a header that names them wrongly is
-- the first bad one, and else the first misspelt line is.
abbrev pub IsCheckWithin : (A : Type 0) → Bool → Option Limits → List ℕ → Result Checked ScriptFault → List ℕ → Type 0
IsCheckWithin A all None script result written = IsBadRecord (header_lines (version_of script) + 1) script result written
IsCheckWithin A all (Some limits) script result written = IsCheckSpelt A all limits (first_misspelt 1 (lines script)) script result written
