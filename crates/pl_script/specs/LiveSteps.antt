-- How a live run stands between two bytes of its input.
use Rattle.std.specs.Prelude.{◌≡◌, ◌≢◌, ◌≤◌, ◌<◌, ⊤, ℕ, ◌+◌, List, [], ◌∷◌, ◌++◌, length, All, Bool, true, false, Option, Result, Ok, Err, string_bytes}
use Rattle.pl_model.specs.declared.calls.Limits.{Limits}
use Rattle.pl_model.specs.Script.{lines, version_of_lines}
use Rattle.pl_state.specs.Makes.{Stands}
use Rattle.pl_script.specs.Talk.{Talk, Side, WasSaid}
use Rattle.pl_lines.specs.declared.explain.Explanation.{Explanation}
use Rattle.pl_script.specs.Explaining.{IsWhy}
use Rattle.pl_script.specs.LiveText.{HasNoFeed, StandsBehind, with_answer}
use Rattle.pl_script.specs.Live.{most_line_bytes, ended_lines, bad_lines, AreAnswered, IsPrompt, EndsBefore, number_unless}
use Rattle.pl_script.specs.declared.live_lines.Live.{Live}
use Rattle.pl_script.specs.declared.peer.LiveTotals.{LiveTotals}
use Rattle.pl_script.specs.declared.peer.LiveFault.{LiveFault}
use Rattle.pl_script.specs.declared.peer.LiveFault.TheVariants as faults

-- what is held of a line so far: all of its bytes, or none because it is too long
abbrev pub IsHeld : Bool → List ℕ → List ℕ → Type 0
IsHeld false held bytes = (held ≡ bytes) × (length bytes ≤ most_line_bytes)
IsHeld true held bytes = most_line_bytes < length bytes

-- ---- the writing

-- all of the bytes were written, or a front of them
abbrev pub WritesInFull : (first new : Side) → Talk → List ℕ → Type 0
WritesInFull first new t bytes = WasSaid first new (record t { written = t.written ++ bytes })

abbrev pub WritesInPart : (first new : Side) → Talk → List ℕ → LiveFault → Type 0
WritesInPart first new t bytes fault =
    (fault ≡ faults.Write) × ((front : List ℕ) × (more : List ℕ) × (bytes ≡ front ++ more) × WasSaid first new (record t { written = t.written ++ front }))

-- A fault of writing comes exactly where a write or a flush failed or took nothing. The two Bools say whether one had before, and has now.
abbrev pub WritingComesTo : {X : Type 0} → Bool → Bool → Result X LiveFault → Type 0
WritingComesTo before after (Ok x) = after ≡ before
WritingComesTo before after (Err faults.Write) = after ≡ true
WritingComesTo before after (Err (faults.BadLine n)) = after ≡ before
WritingComesTo before after (Err faults.NoMemory) = after ≡ before
WritingComesTo before after (Err faults.Read) = after ≡ before
WritingComesTo before after (Err faults.TooLong) = after ≡ before

-- the same of a fault of reading
abbrev pub ReadingComesTo : {X : Type 0} → Bool → Bool → Result X LiveFault → Type 0
ReadingComesTo before after (Ok x) = after ≡ before
ReadingComesTo before after (Err faults.Read) = after ≡ true
ReadingComesTo before after (Err (faults.BadLine n)) = after ≡ before
ReadingComesTo before after (Err faults.NoMemory) = after ≡ before
ReadingComesTo before after (Err faults.Write) = after ≡ before
ReadingComesTo before after (Err faults.TooLong) = after ≡ before

-- The same of a whole run. A write may fail after a read did, and then its fault is told.
abbrev pub ReadingEnds : Bool → Bool → Result LiveTotals LiveFault → Type 0
ReadingEnds before after (Ok x) = after ≡ before
ReadingEnds before after (Err faults.Read) = after ≡ true
ReadingEnds before after (Err (faults.BadLine n)) = after ≡ before
ReadingEnds before after (Err faults.NoMemory) = after ≡ before
ReadingEnds before after (Err faults.Write) = ⊤
ReadingEnds before after (Err faults.TooLong) = after ≡ before

-- a write failed
abbrev pub is_unwritable : Result LiveTotals LiveFault → Bool
is_unwritable (Err faults.Write) = true
is_unwritable (Ok x) = false
is_unwritable (Err faults.Read) = false
is_unwritable (Err faults.TooLong) = false
is_unwritable (Err faults.NoMemory) = false
is_unwritable (Err (faults.BadLine n)) = false

-- a fault that is none of reading
abbrev pub NoReadFault : {X : Type 0} → Result X LiveFault → Type 0
NoReadFault (Ok x) = ⊤
NoReadFault (Err fault) = fault ≢ faults.Read

-- a fault that is none of reading or writing
abbrev pub OtherFault : {X : Type 0} → Result X LiveFault → Type 0
OtherFault (Ok x) = ⊤
OtherFault (Err fault) = (fault ≢ faults.Read) × (fault ≢ faults.Write)

module _ {A : Type 0} where
  -- ---- the lines

  -- the run stands behind these lines and the front of another, with this text
  pub record IsBehind (limits : Limits) (live : Live A) (text refused : List ℕ) (ls : List (List ℕ)) (line : List ℕ) : Type 0 where
    pub behind : StandsBehind limits (Stands live.kernel) ls text
    pub version : live.version ≡ version_of_lines ls
    pub held : IsHeld live.is_too_long live.line.items line
    pub count : live.lines ≡ length ls
    pub refusals : refused ≡ bad_lines A ls
    pub bad : live.bad ≡ length refused

  -- nothing was done yet
  abbrev pub IsNewLive : Limits → Live A → Type 0
  IsNewLive limits live = IsBehind limits live (string_bytes live.out) [] [] [] × (string_bytes live.out ≡ [])

  -- a line was run behind these, and was good, or not and its answer isn't added yet
  pub record IsJudged (limits : Limits) (live : Live A) (front : List ℕ) (ls : List (List ℕ)) (line : List ℕ) (good : Bool) : Type 0 where
    pub behind : StandsBehind limits (Stands live.kernel) (ls ++ line ∷ []) (with_answer good (front ++ string_bytes live.out))
    pub version : live.version ≡ version_of_lines (ls ++ line ∷ [])
    pub bad : bad_lines A (ls ++ line ∷ []) ≡ bad_lines A ls ++ number_unless good (length ls + 1) []

  -- ---- the run

  -- The run has answered these lines, of all that was heard, and stands amid the next one, before these others. What was written and
  -- what waits is the answers. No answer was held back at a moment before.
  pub record IsAmid (limits : Limits) (strict : Bool) (live : Live A) (talk : Talk) (ls : List (List ℕ)) (line : List ℕ) (others : List (List ℕ)) : Type 0 where
    pub prompt : All (IsPrompt A limits) talk.moments
    pub behind : IsBehind limits live (talk.written ++ string_bytes live.out) talk.refused ls line
    pub none_bad : strict ≡ true → live.bad ≡ 0
    pub parts : lines talk.heard ≡ ls ++ others

  -- the same, where these bytes of what was heard aren't taken in yet
  pub record IsUnderway (limits : Limits) (strict : Bool) (live : Live A) (talk : Talk) (pending : List ℕ) : Type 0 where
    pub before : List (List ℕ)
    pub line : List ℕ
    pub prompt : All (IsPrompt A limits) talk.moments
    pub behind : IsBehind limits live (talk.written ++ string_bytes live.out) talk.refused before line
    pub none_bad : strict ≡ true → live.bad ≡ 0
    pub no_feed : HasNoFeed line
    pub ended : (others : List ℕ) → ended_lines (talk.heard ++ others) ≡ before ++ ended_lines (line ++ (pending ++ others))
    pub whole : (others : List ℕ) → lines (talk.heard ++ others) ≡ before ++ lines (line ++ (pending ++ others))

-- What was written so far, where the run ends: all but what waits, or what the writer took.
abbrev pub IsWrittenAll : Result LiveTotals LiveFault → Talk → List ℕ → List ℕ → Type 0
IsWrittenAll (Err faults.Write) talk waiting text = (more : List ℕ) × (text ≡ talk.written ++ more)
IsWrittenAll (Ok counted) talk waiting text = talk.written ++ waiting ≡ text
IsWrittenAll (Err faults.Read) talk waiting text = talk.written ++ waiting ≡ text
IsWrittenAll (Err faults.TooLong) talk waiting text = talk.written ++ waiting ≡ text
IsWrittenAll (Err (faults.BadLine n)) talk waiting text = talk.written ++ waiting ≡ text
IsWrittenAll (Err faults.NoMemory) talk waiting text = talk.written ++ waiting ≡ text

-- the run has ended, but for the text that waits
pub record IsEnding (A : Type 0) (limits : Limits) (strict : Bool) (waiting : List ℕ) (talk : Talk) (result : Result LiveTotals LiveFault) : Type 0 where
  pub prompt : All (IsPrompt A limits) talk.moments
  pub before : List (List ℕ)
  pub later : List (List ℕ)
  pub parts : lines talk.heard ≡ before ++ later
  pub text : List ℕ
  pub answered : AreAnswered A limits before text talk.refused
  pub written : IsWrittenAll result talk waiting text
  pub ends : EndsBefore A strict talk result before later

-- what came of a part of a run, which keeps why its line is bad, if it ended at one
abbrev pub GoesOnOrEnds : {X : Type 0} (A : Type 0) → Limits → Bool → List ℕ → Option Explanation → Result X LiveFault → (first new : Side) → (Talk → Type 0) → Type 0
GoesOnOrEnds A limits strict waiting why (Ok x) first new Goes = (t : Talk) × WasSaid first new t × Goes t
GoesOnOrEnds A limits strict waiting why (Err fault) first new Goes =
    (t : Talk) × WasSaid first new t × IsEnding A limits strict waiting t (Err fault) × IsWhy t fault why
