-- What the program answers (our own).
use Rattle.std.specs.Prelude.{◌≡◌, ◌⊎◌, ⊤, ℕ, ◌<◌, ◌==◌, List, [], ◌∷◌, ◌++◌, Bool, if◌then◌else◌, Option, Some, None, Result, Ok, Err, codes, option_map, string_bytes}
use Rattle.std.specs.Fmt.{decimal}
use Rattle.std.specs.Borrow.{Bor}
use Rattle.std.specs.Global.{Global}
use Rattle.pl_budget.specs.declared.Budget.{Budget}
use Rattle.pl_lines.specs.declared.explain.Explanation.{Explanation}
use Rattle.pl_model.specs.declared.calls.Limits.{Limits}
use Rattle.pl_model.specs.declared.script.Totals.{Totals}
use Rattle.pl_script.specs.declared.fault.ScriptFault.{ScriptFault}
use Rattle.pl_script.specs.Running.{IsRun}
use Rattle.pl_script.specs.Header.{limits_of_header, IsCheckWithin}
use Rattle.pl_script.specs.declared.comparing.Checked.{Checked}
use Rattle.pl_script.specs.Talk.{Talk}
use Rattle.pl_script.specs.Live.{IsLiveRun}
use Rattle.pl_script.specs.declared.peer.LiveTotals.{LiveTotals}
use Rattle.pl_script.specs.declared.peer.LiveFault.{LiveFault}
use Rattle.pl_run.specs.declared.choice.LiveChoice.{LiveChoice}
use Rattle.pl_run.specs.declared.fault.Fault.{Fault}
use Rattle.pl_run.specs.declared.fault.Fault.TheVariants.{CannotWrite, BadLines, NoMemory, NothingExpected, Differs}
use Rattle.pl_run.specs.Fault.{fault_of, fault_of_live, told_of_script, told_of_heard, status_of}

abbrev pub as_fault : (ℕ → Option Explanation) → Result Totals ScriptFault → Result (Unit {0}) Fault
as_fault why (Ok counted) = Ok tt
as_fault why (Err fault) = Err (fault_of why fault)

-- what a run takes its memory by: a reference to a budget
abbrev pub InBudget : Type 0
InBudget = Bor (Budget Global)

-- what a run of the script within the limits answers, with what is wrong with a bad line or without it, and what it writes
abbrev pub IsRunWithin : (explain : Bool) → Limits → List ℕ → Result (Unit {0}) Fault → List ℕ → Type 0
IsRunWithin explain limits script result written =
    (ran : Result Totals ScriptFault) × (result ≡ as_fault (told_of_script explain script) ran) × IsRun InBudget script limits ran written

-- the line of the version
abbrev pub version_line : List ℕ
version_line = codes "piperun 0.8.0" ++ 10 ∷ []

-- the line that is written where no reply differs
abbrev pub line_of_same : ℕ → List ℕ
line_of_same compared = decimal compared ++ (codes " replies as recorded" ++ 10 ∷ [])

-- What a check answers that compared replies and found none that differs, and what is written after what it told: the line that says so, as
-- far as it goes.
abbrev pub EndsSame : ℕ → Result (Unit {0}) Fault → List ℕ → Type 0
EndsSame compared (Ok done) line = line ≡ line_of_same compared
EndsSame compared (Err CannotWrite) line = (more : List ℕ) × (line_of_same compared ≡ line ++ more)
EndsSame compared (Err fault) line = ⊥

-- what a check that came to its end answers: it is a fault if no reply is expected, or if one differs
abbrev pub EndsCheck : (ℕ → Option Explanation) → Result Checked ScriptFault → Result (Unit {0}) Fault → List ℕ → Type 0
EndsCheck why (Ok checked) result line =
    ((checked.different ≡ 0) × (checked.compared ≡ 0) × (result ≡ Err NothingExpected) × (line ≡ []))
    ⊎ (((checked.different ≡ 0) × (0 < checked.compared) × EndsSame checked.compared result line)
    ⊎ ((0 < checked.different) × (result ≡ Err (Differs checked.different checked.compared)) × (line ≡ [])))
EndsCheck why (Err fault) result line = (result ≡ Err (fault_of why fault)) × (line ≡ [])

-- what a check of the record within the limits answers, and what it writes: what it tells of the differences, and the line behind that
abbrev pub IsCheckedWithin : (all explain : Bool) → Limits → List ℕ → Result (Unit {0}) Fault → List ℕ → Type 0
IsCheckedWithin all explain limits script result written =
    (checked : Result Checked ScriptFault) × (told : List ℕ) × (line : List ℕ) × (written ≡ told ++ line)
    × IsCheckWithin InBudget all (limits_of_header limits script) script checked told × EndsCheck (told_of_script explain script) checked result line

-- what a live run ends with: a fault also where it came to its end and some lines were bad
abbrev pub as_live : (ℕ → Option Explanation) → Result LiveTotals LiveFault → Result (Unit {0}) Fault
as_live why (Ok counted) = if counted.bad == 0 then Ok tt else Err (BadLines counted.bad)
as_live why (Err fault) = Err (fault_of_live why fault)

-- what a live run within the limits answers, and what was said
abbrev pub IsLiveWithin : (strict explain : Bool) → Limits → Result (Unit {0}) Fault → Talk → Type 0
IsLiveWithin strict explain limits result talk =
    (ran : Result LiveTotals LiveFault) × (result ≡ as_live (told_of_heard explain talk.heard) ran) × IsLiveRun InBudget limits strict ran talk

-- what came of the words, whether a live run is left to do or not
abbrev pub as_done : Result (Option LiveChoice) Fault → Result (Unit {0}) Fault
as_done (Ok left) = Ok tt
as_done (Err fault) = Err fault

-- such a live run of the input is left to do, or there was no memory to read the words
abbrev pub IsLeft : (strict explain : Bool) → Limits → Option ℕ → Result (Option LiveChoice) Fault → Type 0
IsLeft strict explain limits bytes (Ok None) = ⊥
IsLeft strict explain limits bytes (Ok (Some asked)) =
    (asked.strict ≡ strict) × (asked.explain ≡ explain) × (asked.limits ≡ limits) × (asked.memory ≡ bytes) × (option_map string_bytes asked.file ≡ None)
IsLeft strict explain limits bytes (Err NoMemory) = ⊤
IsLeft strict explain limits bytes (Err fault) = ⊥

-- the status that a run ends with
abbrev pub ends_with : Result (Unit {0}) Fault → ℕ
ends_with (Ok done) = 0
ends_with (Err fault) = status_of fault
