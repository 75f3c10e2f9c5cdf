-- A script that is run line by line.
use Rattle.std.specs.Prelude.{◌≡◌, ℕ, ◌+◌, ◌≤◌, List, [], ◌∷◌, ◌++◌, length, Bool, false, ◌&&◌, Some, None, count_by}
use Rattle.pl_model.specs.declared.calls.Limits.{Limits}
use Rattle.pl_model.specs.declared.calls.Step.{Step}
use Rattle.pl_model.specs.declared.replies.Reply.{Reply}
use Rattle.pl_model.specs.declared.script.Line.{Line}
use Rattle.pl_model.specs.declared.script.Line.TheVariants.{Do}
use Rattle.pl_model.specs.declared.script.Totals.{Totals}
use Rattle.pl_model.specs.declared.script.Version.{Version}
use Rattle.pl_model.specs.Numbered.{State, opening, step}
use Rattle.pl_model.specs.Lines.{line}
use Rattle.pl_model.specs.Script.{asked, answers, first_bad, version_of, header_lines, body, next_state, answer, never_marked, are_marks, is_step}
use Rattle.pl_script.specs.Running.{Asks}
use Rattle.pl_words.specs.declared.fault.LineFault.{LineFault}
use Rattle.pl_words.specs.declared.fault.LineFault.TheVariants.{Bad, NoMemory}

abbrev pub none_counted : Totals
none_counted = record { lines = 0; steps = 0; nomem = 0 }

module _ {A : Type 0} where
  -- The line was answered from the state: the kernel stands for what it leaves, its text and a line feed came after the
  -- text before, and it is marked only where memory may be wanting. `Stands` tells for which states the kernel stands.
  pub record IsAnsweredFrom (version : Version) (s : State A) (Stands : State A → Type 0) (x : Line A) (mark : Bool) (before after : List ℕ) : Type 0 where
    pub stands : Stands (next_state s x mark)
    pub text : after ≡ before ++ (answer version s x mark ++ 10 ∷ [])
    pub lawful : (mark && never_marked s x) ≡ false

  -- the same from each state for which the kernel stood
  abbrev pub IsAnswered : Version → (old new : State A → Type 0) → Line A → Bool → (before after : List ℕ) → Type 0
  IsAnswered version old new x mark before after = (s : State A) → old s → IsAnsweredFrom version s new x mark before after

  -- The line asks for a step that is answered so, from each state for which the kernel stands, and after which it stands for
  -- what the step leaves.
  pub record IsRefused (version : Version) (Stands : State A → Type 0) (bytes : List ℕ) (reply : Reply A) : Type 0 where
    pub asked : Step A
    pub asks : line version bytes ≡ Some (Some (Do asked))
    pub made : (s : State A) → Stands s → (reply ≡ (step s asked).reply) × Stands (step s asked).state

  -- The kernel, the text and the counts are those after the lines before, and before the rest: a run of the lines before and
  -- any others, with whatever marks are to come, goes on from here as a run of the others.
  pub record IsAt (script : List ℕ) (limits : Limits) (Stands : State A → Type 0) (text : List ℕ) (counted : Totals) (rest : List (List ℕ)) : Type 0 where
    pub before : List (List ℕ)
    pub state : State A
    pub marks : List Bool
    pub stands : Stands state
    pub parts : body script ≡ before ++ rest
    pub texts : (others : List (List ℕ)) (more : List Bool) →
        answers (version_of script) (opening {A = A} limits) (asked (version_of script) (before ++ others)) (marks ++ more)
        ≡ text ++ answers (version_of script) state (asked (version_of script) others) more
    pub lawful : (others : List (List ℕ)) (more : List Bool) →
        are_marks (opening {A = A} limits) (asked (version_of script) (before ++ others)) (marks ++ more) ≡ are_marks state (asked (version_of script) others) more
    pub bad : (others : List (List ℕ)) →
        first_bad A (version_of script) (header_lines (version_of script) + 1) (before ++ others) ≡ first_bad A (version_of script) (counted.lines + 1) others
    pub lines_count : counted.lines ≡ header_lines (version_of script) + length before
    pub steps_count : (others : List (List ℕ)) →
        counted.steps + count_by is_step (asked {A = A} (version_of script) others) ≡ count_by is_step (asked {A = A} (version_of script) (before ++ others))
    pub nomem_count : counted.nomem ≡ count_by (λ m. m) marks
    pub steps_below : counted.steps ≤ counted.lines
    pub nomem_below : counted.nomem ≤ counted.lines

-- A line that isn't run isn't counted and prints nothing. Memory is wanting only for one that asks something, whose step may
-- have been made.
abbrev pub Stops : (A : Type 0) → Version → List ℕ → (old new : Totals) → (before after : List ℕ) → LineFault → Type 0
Stops A version bytes old new before after Bad = (new ≡ old) × (after ≡ before) × (line {A = A} version bytes ≡ None)
Stops A version bytes old new before after NoMemory = (new ≡ old) × (after ≡ before) × Asks A version bytes
