-- What a record prints as it is run.
use Rattle.std.specs.Prelude.{◌≡◌, ℕ, List, map, length, replicate, Bool, true, false, None, All}
use Rattle.std.specs.List.{flat_map}
use Rattle.pl_model.specs.declared.calls.Limits.{Limits}
use Rattle.pl_model.specs.declared.calls.Step.{Step}
use Rattle.pl_model.specs.declared.history.Entry.{Entry}
use Rattle.pl_model.specs.declared.replies.Reply.{Reply}
use Rattle.pl_model.specs.History.{IsLegal}
use Rattle.pl_model.specs.declared.script.Version.TheVariants.{Two}
use Rattle.pl_model.specs.Numbered.{opening}
use Rattle.pl_model.specs.Run.{replies}
use Rattle.pl_model.specs.Shown.{reply_text}
use Rattle.pl_model.specs.Script.{output, bad_line, AreMarks}
use Rattle.pl_model.specs.Said.{is_sayable, StepFits}
use Rattle.pl_recording.specs.Record.{ended, made_in, recorded}

module _ {A : Type 0} where
  -- Steps that lines can say, each with the reply that the machine gives it, from the opening within these limits on.
  pub record IsRun (limits : Limits) (entries : List (Step A × Reply A)) : Type 0 where
    pub sayable : All (λ e. is_sayable e.0 ≡ true) entries
    pub fit : All (λ e. StepFits e.0) entries
    pub are_replies : map (λ e. e.1) entries ≡ replies (opening limits) (map (λ e. e.0) entries)

  -- no step found that memory was wanting
  abbrev pub no_marks : List (Step A × Reply A) → List Bool
  no_marks entries = replicate (length entries) false

  -- the replies, each as a line
  abbrev pub told : List (Step A × Reply A) → List ℕ
  told entries = flat_map (λ e. ended (reply_text Two e.1)) entries

  -- The record runs to its end, and prints these replies and nothing else, if no step finds that memory is wanting.
  pub record Replays (limits : Limits) (entries : List (Step A × Reply A)) : Type 0 where
    pub whole : bad_line A (recorded limits entries) ≡ None
    pub marks : AreMarks A (recorded limits entries) limits (no_marks entries)
    pub prints : output A (recorded limits entries) limits (no_marks entries) ≡ told entries

-- A record of a run, run again within the limits that it tells, prints the replies that it has in its comments, line by line.
abbrev pub RecordsReplay : Type 0 → Type 0
RecordsReplay A = (limits : Limits) (entries : List (Step A × Reply A)) → IsRun limits entries → Replays limits entries

-- The record of a journal that some run of the machine gives does so, if lines can say its steps.
abbrev pub JournalsReplay : Type 0 → Type 0
JournalsReplay A = (limits : Limits) (entries : List (Entry A)) → IsLegal limits entries → All (λ e. is_sayable e.step ≡ true) entries → All (λ e. StepFits e.step) entries → Replays limits (made_in entries)
