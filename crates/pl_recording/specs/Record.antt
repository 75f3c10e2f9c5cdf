-- A record (our own): a script of version 2 that asks for each step that was made, and tells the reply of each in a comment behind it.
use Rattle.std.specs.Prelude.{ℕ, List, [], ◌∷◌, ◌++◌, map, codes, ◌==◌, if◌then◌else◌}
use Rattle.std.specs.List.{flat_map}
use Rattle.std.specs.Fmt.{decimal}
use Rattle.pl_model.specs.declared.calls.Limits.{Limits}
use Rattle.pl_model.specs.declared.calls.Step.{Step}
use Rattle.pl_model.specs.declared.history.Entry.{Entry}
use Rattle.pl_model.specs.declared.replies.Reply.{Reply}
use Rattle.pl_model.specs.declared.script.Version.TheVariants.{Two}
use Rattle.pl_model.specs.Shown.{reply_text}
use Rattle.pl_model.specs.Numbers.{usual_descriptions, usual_processes, no_limit}
use Rattle.pl_model.specs.Said.{said_step}

-- a line and its line feed
abbrev pub ended : List ℕ → List ℕ
ended text = text ++ 10 ∷ []

-- a limit behind its name, and nothing where it is the usual one
abbrev pub told_unless : (usual n : ℕ) → (name : List ℕ) → List ℕ
told_unless usual n name = if n == usual then [] else name ++ decimal n

-- the limits on descriptions, on processes and on the waiting calls of each, of which a record tells those that aren't the usual ones
abbrev pub unusual_text : Limits → List ℕ
unusual_text limits =
    told_unless usual_descriptions limits.descriptions_max (codes " --descriptions-max ")
    ++ (told_unless usual_processes limits.processes_max (codes " --processes-max ")
    ++ told_unless no_limit limits.waiting_of_each (codes " --waiting-of-each "))

-- the comment that tells the limits within which the steps were made, as options of the program
abbrev pub limits_text : Limits → List ℕ
limits_text limits =
    codes "# piperun --first-call " ++ (decimal limits.first_call
    ++ (codes " --file-max " ++ (decimal limits.file_max
    ++ (codes " --names-max " ++ (decimal limits.names_max
    ++ (codes " --waiting-max " ++ (decimal limits.waiting_max
    ++ (codes " --capacity-max " ++ (decimal limits.capacity_max
    ++ (codes " --descriptors-max " ++ (decimal limits.descriptors_max
    ++ unusual_text limits)))))))))))

-- the lines in front of all steps
abbrev pub header : Limits → List ℕ
header limits = ended (codes "piperun 2") ++ ended (limits_text limits)

module _ {A : Type 0} where
  -- the comment behind a step
  abbrev pub comment_text : Reply A → List ℕ
  comment_text reply = codes "# => " ++ reply_text Two reply

  -- the lines of a step with its reply
  abbrev pub entry_text : Step A × Reply A → List ℕ
  entry_text e = ended (said_step e.0) ++ ended (comment_text e.1)

  -- the record of steps with their replies
  abbrev pub recorded : Limits → List (Step A × Reply A) → List ℕ
  recorded limits entries = header limits ++ flat_map entry_text entries

  -- the steps of a journal, each with its reply
  abbrev pub made_in : List (Entry A) → List (Step A × Reply A)
  made_in entries = map (λ e. (e.step, e.reply)) entries
