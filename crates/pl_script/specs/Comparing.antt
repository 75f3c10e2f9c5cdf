-- A script that is checked line by line.
use Rattle.std.specs.Prelude.{◌≡◌, ℕ, ◌+◌, ◌-◌, ◌<◌, List, [], ◌∷◌, ◌++◌, ◌⊎◌, length, take, Bool, true, false, ◌&&◌, Some, None, IsSome, Result, Ok, Err}
use Rattle.pl_model.specs.declared.calls.Limits.{Limits}
use Rattle.pl_model.specs.declared.script.Line.{Line}
use Rattle.pl_model.specs.declared.script.Version.{Version}
use Rattle.pl_model.specs.Numbered.{State, opening}
use Rattle.pl_model.specs.Lines.{line}
use Rattle.pl_model.specs.Script.{asked, are_marks, first_bad, version_of, header_lines, body, next_state, answer, never_marked}
use Rattle.pl_script.specs.Checked.{Comparison, expected, comparisons, told_text, counts_of}
use Rattle.pl_script.specs.Running.{Asks}
use Rattle.pl_script.specs.declared.comparing.Checked.{Checked}
use Rattle.pl_script.specs.declared.fault.ScriptFault.{ScriptFault}
use Rattle.pl_words.specs.declared.fault.LineFault.{LineFault}
use Rattle.pl_words.specs.declared.fault.LineFault.TheVariants.{Bad, NoMemory}

-- the text of a line that was printed, without the line feed behind it
abbrev pub text_of : List ℕ → List ℕ
text_of printed = take (length printed - 1) printed

-- these comparisons were told so, and counted so
pub record IsTally (all : Bool) (compared : List Comparison) (text : List ℕ) (checked : Checked) : Type 0 where
  pub told : text ≡ told_text all compared
  pub counted : checked ≡ counts_of compared

-- a comparison more was told and counted, whatever was before
abbrev pub Tallies : Bool → Comparison → (before after : List ℕ) → (old new : Checked) → Type 0
Tallies all c before after old new =
    (front : List ℕ) (compared : List Comparison) → IsTally all compared (front ++ before) old → IsTally all (compared ++ c ∷ []) (front ++ after) new

module _ {A : Type 0} where
  -- the line was answered by this text from the state, and is marked only where memory may be wanting
  pub record IsAnsweredBy (version : Version) (s : State A) (Stands : State A → Type 0) (x : Line A) (mark : Bool) (text : List ℕ) : Type 0 where
    pub stands : Stands (next_state s x mark)
    pub said : text ≡ answer version s x mark
    pub lawful : (mark && never_marked s x) ≡ false

  -- A line that asks something is answered by the text behind it, from each state for which the kernel stood. One that asks nothing
  -- leaves the kernel and the last text as they were.
  abbrev pub IsDone : Version → (old new : State A → Type 0) → List ℕ → Bool → (before after : List ℕ) → Type 0
  IsDone version old new bytes true before after =
      (x : Line A) × (mark : Bool) × (line version bytes ≡ Some (Some x)) × ((s : State A) → old s → IsAnsweredBy version s new x mark after)
  IsDone version old new bytes false before after =
      (line {A = A} version bytes ≡ Some None) × ((s : State A) → old s → new s) × (after ≡ before)

  -- The kernel, the last text, what was told and what was counted are those after the lines before, and before the rest, of which the
  -- first has this number: what is compared in the lines before and any others, with whatever marks are to come, goes on from here.
  pub record IsChecking (all : Bool) (script : List ℕ) (limits : Limits) (Stands : State A → Type 0) (last text : List ℕ) (checked : Checked) (number : ℕ) (rest : List (List ℕ)) : Type 0 where
    pub before : List (List ℕ)
    pub state : State A
    pub marks : List Bool
    pub compared : List Comparison
    pub stands : Stands state
    pub parts : body script ≡ before ++ rest
    pub same : (others : List (List ℕ)) (more : List Bool) →
        comparisons (version_of script) (header_lines (version_of script) + 1) (opening {A = A} limits) [] (before ++ others) (marks ++ more)
        ≡ compared ++ comparisons (version_of script) number state last others more
    pub lawful : (others : List (List ℕ)) (more : List Bool) →
        are_marks (opening {A = A} limits) (asked (version_of script) (before ++ others)) (marks ++ more) ≡ are_marks state (asked (version_of script) others) more
    pub bad : (others : List (List ℕ)) →
        first_bad A (version_of script) (header_lines (version_of script) + 1) (before ++ others) ≡ first_bad A (version_of script) number others
    pub count : number ≡ header_lines (version_of script) + 1 + length before
    pub few : length compared < number
    pub tally : IsTally all compared text checked

-- why a line wasn't answered
abbrev pub IsStopped : (A : Type 0) → Version → List ℕ → LineFault → Type 0
IsStopped A version bytes Bad = line {A = A} version bytes ≡ None
IsStopped A version bytes NoMemory = Asks A version bytes

-- A line at which a check ends is told nothing of, and counted nothing. Memory is wanting only for one that asks something, or expects
-- a text.
abbrev pub Ends : (A : Type 0) → Version → List ℕ → (old new : Checked) → (before after : List ℕ) → LineFault → Type 0
Ends A version bytes old new before after Bad = (new ≡ old) × (after ≡ before) × (line {A = A} version bytes ≡ None)
Ends A version bytes old new before after NoMemory = (new ≡ old) × (after ≡ before) × (Asks A version bytes ⊎ IsSome (expected bytes))

-- what was counted, where a check came to its end
abbrev pub with_counts : Result (Unit {0}) ScriptFault → Checked → Result Checked ScriptFault
with_counts (Ok x) checked = Ok checked
with_counts (Err fault) checked = Err fault
