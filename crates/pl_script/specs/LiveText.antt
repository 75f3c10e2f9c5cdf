-- What a live run has answered, between two bytes of its input.
use Rattle.std.specs.Prelude.{◌≡◌, ⊤, ◌⊎◌, ℕ, List, [], ◌∷◌, ◌++◌, Bool, true, false, ◌==◌, Some, None}
use Rattle.pl_model.specs.declared.calls.Limits.{Limits}
use Rattle.pl_model.specs.declared.script.Line.{Line}
use Rattle.pl_model.specs.declared.script.Version.{Version}
use Rattle.pl_model.specs.Numbered.{State, opening}
use Rattle.pl_model.specs.Lines.{line}
use Rattle.pl_model.specs.Script.{version_of_lines, are_marks}
use Rattle.pl_words.specs.declared.fault.LineFault.{LineFault}
use Rattle.pl_words.specs.declared.fault.LineFault.TheVariants as stops
use Rattle.pl_script.specs.LineByLine.{IsAnswered}
use Rattle.pl_script.specs.Live.{asked_live, answers_live, behind_header, bad_answer}

-- no line feed is among the bytes
abbrev pub HasNoFeed : List ℕ → Type 0
HasNoFeed [] = ⊤
HasNoFeed (c ∷ cs) = ((c == 10) ≡ false) × HasNoFeed cs

-- A line was run: it asks nothing and nothing changes, or it was answered.
abbrev pub IsRunLine : (A : Type 0) → Version → (old new : State A → Type 0) → List ℕ → (before after : List ℕ) → Type 0
IsRunLine A version old new bytes before after =
    ((line {A = A} version bytes ≡ Some None) × ((s : State A) → old s → new s) × (after ≡ before))
    ⊎ ((x : Line A) × (mark : Bool) × (line version bytes ≡ Some (Some x)) × IsAnswered version old new x mark before after)

-- the text, and behind it the answer of a line that isn't good
abbrev pub with_answer : Bool → List ℕ → List ℕ
with_answer true text = text
with_answer false text = text ++ bad_answer

-- A line wasn't run, and prints nothing. A bad one changes nothing.
abbrev pub IsNotRun : (A : Type 0) → Version → (old new : State A → Type 0) → List ℕ → (before after : List ℕ) → LineFault → Type 0
IsNotRun A version old new bytes before after stops.Bad = (line {A = A} version bytes ≡ None) × ((s : State A) → old s → new s) × (after ≡ before)
IsNotRun A version old new bytes before after stops.NoMemory = after ≡ before

module _ {A : Type 0} where
  -- The kernel stands for what these lines leave, and the text is what they are answered: a run of them and of anything more goes on
  -- from here.
  pub record StandsBehind (limits : Limits) (Stood : State A → Type 0) (ls : List (List ℕ)) (text : List ℕ) : Type 0 where
    pub state : State A
    pub marks : List Bool
    pub stands : Stood state
    pub fresh : ls ≡ [] → Stood (opening limits) × (text ≡ [])
    pub texts : (others : List (List ℕ)) (more : List Bool) →
        answers_live (version_of_lines ls) (opening {A = A} limits) (behind_header ls ++ others) (marks ++ more)
        ≡ text ++ answers_live (version_of_lines ls) state others more
    pub lawful : (others : List (Line A)) (more : List Bool) →
        are_marks (opening {A = A} limits) (asked_live A ls ++ others) (marks ++ more) ≡ are_marks state others more
