-- What the words of the command line ask for, by the kit's clap (our own).
use Rattle.std.specs.Prelude.{◌≡◌, ◌≢◌, ◌⊎◌, ⊤, ℕ, ◌<◌, ◌≤◌, ◌^◌, List, [], Option, Some, None, Result, Ok, Err, Bool, true, false, not, ◌&&◌, ◌||◌, codes, option_map, string_bytes}
use Rattle.std.specs.Str.Parse.{IsNumeral, digits_value, without_leading_plus}
use Rattle.clap.specs.Words.{App, Row, Rule, Text, IsAmong, new_app, new_rule, with_rule, matches_of, one_of, first_of, fault_of}
use Rattle.clap.specs.Simple.{on_top}
use Rattle.clap.specs.declared.builder.action.ArgAction.TheVariants.{SetTrue}
use Rattle.clap.specs.declared.error.kind.ErrorKind.{ErrorKind}
use Rattle.clap.specs.declared.error.kind.ErrorKind.TheVariants.{DisplayHelp, DisplayVersion, OutOfMemory}
use Rattle.pl_model.specs.declared.calls.Limits.{Limits}
use Rattle.pl_model.specs.Numbers.{most_file_bytes, most_capacity, no_limit, open_max, most_descriptors, usual_descriptions, most_descriptions, usual_processes, most_processes, usual_spare}
use Rattle.pl_run.specs.declared.choice.Choice.{Choice}
use Rattle.pl_run.specs.declared.choice.Choice.TheVariants.{Run, Check, Live, Help, Version}
use Rattle.pl_run.specs.declared.fault.Fault.{Fault}
use Rattle.pl_run.specs.declared.fault.Fault.TheVariants.{CommandLine, NoMemory}

-- an option of this name that has a value
abbrev pub valued_rule : Text → Rule
valued_rule name = record (new_rule name) { long = Some name }

-- one that has none
abbrev pub flag_rule : Text → Rule
flag_rule name = record (new_rule name) { long = Some name; action = Some SetTrue }

-- the command with `--first-call N` and `--memory BYTES`, whose own name isn't among the words
abbrev pub with_numbers : App
with_numbers = with_rule (with_rule (on_top (λ s. record s { no_binary_name = true; has_version = true }) (new_app (codes "piperun"))) (valued_rule (codes "first-call"))) (valued_rule (codes "memory"))

-- `--descriptors-max N`, `--descriptions-max N` and `--processes-max N`
abbrev pub with_table_limits : App → App
with_table_limits app =
    with_rule (with_rule (with_rule app (valued_rule (codes "descriptors-max"))) (valued_rule (codes "descriptions-max"))) (valued_rule (codes "processes-max"))

-- `--file-max N`, `--names-max N`, `--waiting-max N`, `--waiting-of-each N` and `--capacity-max N`, these, and `--spare-max BYTES`
abbrev pub with_limits : App → App
with_limits app =
    with_rule (with_table_limits (with_rule (with_rule (with_rule (with_rule (with_rule app (valued_rule (codes "file-max"))) (valued_rule (codes "names-max"))) (valued_rule (codes "waiting-max")))
    (valued_rule (codes "waiting-of-each"))) (valued_rule (codes "capacity-max")))) (valued_rule (codes "spare-max"))

-- `--check` and `--all`
abbrev pub with_flags : App → App
with_flags app = with_rule (with_rule app (flag_rule (codes "check"))) (flag_rule (codes "all"))

-- `--live` and `--strict`
abbrev pub with_live_flags : App → App
with_live_flags app = with_rule (with_rule app (flag_rule (codes "live"))) (flag_rule (codes "strict"))

-- `--explain`
abbrev pub with_explain : App → App
with_explain app = with_rule app (flag_rule (codes "explain"))

-- the command `piperun [OPTION ..] [FILE]`, with all of these options
abbrev pub piperun : App
piperun = with_rule (with_explain (with_live_flags (with_flags (with_limits with_numbers)))) (new_rule (codes "file"))

-- what words tell of each option, and of FILE
pub record Told : Type 0 where
  pub check : Option Text
  pub all : Option Text
  pub live : Option Text
  pub strict : Option Text
  pub explain : Option Text
  pub first_call : Option Text
  pub file_max : Option Text
  pub names_max : Option Text
  pub waiting_max : Option Text
  pub waiting_of_each : Option Text
  pub capacity_max : Option Text
  pub descriptors_max : Option Text
  pub descriptions_max : Option Text
  pub processes_max : Option Text
  pub spare_max : Option Text
  pub memory : Option Text
  pub file : Option Text

-- the same, where the values of a name are told so, and the first of several so
abbrev pub told_of : (value : Text → Option Text) (first : Text → Option Text) → Told
told_of value first = record {
  check = value (codes "check");
  all = value (codes "all");
  live = value (codes "live");
  strict = value (codes "strict");
  explain = value (codes "explain");
  first_call = value (codes "first-call");
  file_max = value (codes "file-max");
  names_max = value (codes "names-max");
  waiting_max = value (codes "waiting-max");
  waiting_of_each = value (codes "waiting-of-each");
  capacity_max = value (codes "capacity-max");
  descriptors_max = value (codes "descriptors-max");
  descriptions_max = value (codes "descriptions-max");
  processes_max = value (codes "processes-max");
  spare_max = value (codes "spare-max");
  memory = value (codes "memory");
  file = first (codes "file");
}

-- the number that decimal digits say, before which a plus may stand
abbrev pub value_of : Text → ℕ
value_of text = digits_value 10 (without_leading_plus text)

-- the text says a number below 2^64 so
abbrev pub IsWord64 : Text → Type 0
IsWord64 text = IsNumeral 10 (without_leading_plus text) × (value_of text < 2 ^ 64)

-- the number that an option's value gives, which is at most this, and another one where the option has no value
abbrev pub IsLimit : (most none : ℕ) → Option Text → ℕ → Type 0
IsLimit most none None n = n ≡ none
IsLimit most none (Some text) n = IsWord64 text × (value_of text ≤ most) × (n ≡ value_of text)

-- a value gives no such number
abbrev pub IsNoLimit : (most : ℕ) → Option Text → Type 0
IsNoLimit most None = ⊥
IsNoLimit most (Some text) = ¬ (IsWord64 text × (value_of text ≤ most))

-- the most bytes that a value of `--memory` lets a run hold, without one any number
abbrev pub most_held : Option Text → ℕ
most_held None = no_limit
most_held (Some text) = value_of text

-- the limits that the options give on what tables hold: the descriptors of a process, the descriptions and the processes
abbrev pub AreTableLimits : Told → Limits → Type 0
AreTableLimits told limits = IsLimit most_descriptors open_max told.descriptors_max limits.descriptors_max
    × IsLimit most_descriptions usual_descriptions told.descriptions_max limits.descriptions_max
    × IsLimit most_processes usual_processes told.processes_max limits.processes_max

-- one of these options gives none
abbrev pub AreNoTableLimits : Told → Type 0
AreNoTableLimits told = IsNoLimit most_descriptors told.descriptors_max ⊎ (IsNoLimit most_descriptions told.descriptions_max ⊎ IsNoLimit most_processes told.processes_max)

-- the limits that the options give: calls are numbered from 1, and each limit is the usual one, where no option says otherwise
abbrev pub AreLimits : Told → Limits → Type 0
AreLimits told limits = IsLimit no_limit 1 told.first_call limits.first_call × IsLimit most_file_bytes most_file_bytes told.file_max limits.file_max
    × IsLimit no_limit no_limit told.names_max limits.names_max × IsLimit no_limit no_limit told.waiting_max limits.waiting_max
    × IsLimit no_limit no_limit told.waiting_of_each limits.waiting_of_each
    × IsLimit most_capacity most_capacity told.capacity_max limits.capacity_max × AreTableLimits told limits
    × IsLimit no_limit (usual_spare (most_held told.memory)) told.spare_max limits.spare_max

-- one of the options gives none
abbrev pub AreNoLimits : Told → Type 0
AreNoLimits told = IsNoLimit no_limit told.first_call ⊎ (IsNoLimit most_file_bytes told.file_max ⊎ (IsNoLimit no_limit told.names_max
    ⊎ (IsNoLimit no_limit told.waiting_max ⊎ (IsNoLimit no_limit told.waiting_of_each ⊎ (IsNoLimit most_capacity told.capacity_max
    ⊎ (AreNoTableLimits told ⊎ IsNoLimit no_limit told.spare_max))))))

-- the limit that a value of `--memory` gives, and none where there is no value
abbrev pub IsMemory : Option Text → Option ℕ → Type 0
IsMemory None bytes = bytes ≡ None
IsMemory (Some text) bytes = IsWord64 text × (bytes ≡ Some (value_of text))

-- a value gives no number
abbrev pub IsNoNumber : Option Text → Type 0
IsNoNumber None = ⊥
IsNoNumber (Some text) = ¬ (IsWord64 text)

-- the option, which has no value of its own, is found to be given or not
abbrev pub IsGiven : Option Text → Bool → Type 0
IsGiven told given = (told ≡ None → given ≡ false) × (told ≡ Some (codes "true") → given ≡ true) × (told ≡ Some (codes "false") → given ≡ false)

-- the words tell whether it is given
abbrev pub IsSet : Option Text → Bool → Type 0
IsSet told true = told ≡ Some (codes "true")
IsSet told false = (told ≡ None) ⊎ (told ≡ Some (codes "false"))

-- `--all` is given without `--check`, `--strict` without `--live`, or `--check` beside `--live`
abbrev pub are_at_odds : (check all live strict : Bool) → Bool
are_at_odds check all live strict = (all && not check) || ((strict && not live) || (check && live))

abbrev pub AreAtOdds : Told → Type 0
AreAtOdds told = (IsGiven told.check false × IsGiven told.all true)
    ⊎ ((IsGiven told.live false × IsGiven told.strict true) ⊎ (IsGiven told.check true × IsGiven told.live true))

-- what the options come to that have no value and choose what is done
abbrev pub AreGiven : Told → (check all live strict : Bool) → Type 0
AreGiven told check all live strict = IsGiven told.check check × IsGiven told.all all × IsGiven told.live live × IsGiven told.strict strict

-- what those that have one and FILE come to
abbrev pub GiveValues : Told → Limits → Option ℕ → Option Text → Type 0
GiveValues told limits bytes file = AreLimits told limits × IsMemory told.memory bytes × (file ≡ told.file)

-- what all of them come to
abbrev pub HoldsMatches : Told → Result Choice Fault → Type 0
HoldsMatches told (Ok (Run explain limits bytes file)) =
    AreGiven told false false false false × GiveValues told limits bytes (option_map string_bytes file) × IsGiven told.explain explain
HoldsMatches told (Ok (Check every explain limits bytes file)) =
    AreGiven told true every false false × GiveValues told limits bytes (option_map string_bytes file) × IsGiven told.explain explain
HoldsMatches told (Ok (Live asked)) = AreGiven told false false true asked.strict
    × GiveValues told asked.limits asked.memory (option_map string_bytes asked.file) × IsGiven told.explain asked.explain
HoldsMatches told (Ok Help) = ⊥
HoldsMatches told (Ok Version) = ⊥
HoldsMatches told (Err CommandLine) = AreAtOdds told ⊎ (AreNoLimits told ⊎ IsNoNumber told.memory)
HoldsMatches told (Err NoMemory) = ⊤
HoldsMatches told (Err fault) = ⊥

-- what a refusal of clap's of a kind comes to
abbrev pub Refuses : ErrorKind → Result Choice Fault → Type 0
Refuses kind (Ok Help) = kind ≡ DisplayHelp
Refuses kind (Ok Version) = kind ≡ DisplayVersion
Refuses kind (Ok choice) = ⊥
Refuses kind (Err CommandLine) = (kind ≢ DisplayHelp) × (kind ≢ DisplayVersion) × (kind ≢ OutOfMemory)
Refuses kind (Err NoMemory) = kind ≡ OutOfMemory
Refuses kind (Err fault) = ⊥

-- the matches of the words
unfoldable pub rows : List Text → List Row
rows words = matches_of piperun words

-- the kinds of fault that the command finds with the words
unfoldable pub faults : List Text → List ErrorKind
faults words = fault_of piperun words

-- what the words tell
abbrev pub told_by : List Text → Told
told_by words = told_of (λ id. one_of id (rows words)) (λ id. first_of id (rows words))

-- the words are refused: by the command, neither for help nor for the version, or as options are at odds, or because a number is none
abbrev pub AreBad : List Text → Type 0
AreBad words = ((kind : ErrorKind) × IsAmong kind (faults words) × (kind ≢ DisplayHelp) × (kind ≢ DisplayVersion))
    ⊎ ((faults words ≡ []) × HoldsMatches (told_by words) (Err CommandLine))

-- what the words ask for
abbrev pub Chooses : List Text → Result Choice Fault → Type 0
Chooses words (Ok (Run explain limits bytes file)) = (faults words ≡ []) × HoldsMatches (told_by words) (Ok (Run explain limits bytes file))
Chooses words (Ok (Check every explain limits bytes file)) = (faults words ≡ []) × HoldsMatches (told_by words) (Ok (Check every explain limits bytes file))
Chooses words (Ok (Live asked)) = (faults words ≡ []) × HoldsMatches (told_by words) (Ok (Live asked))
Chooses words (Ok Help) = IsAmong DisplayHelp (faults words)
Chooses words (Ok Version) = IsAmong DisplayVersion (faults words)
Chooses words (Err CommandLine) = AreBad words
Chooses words (Err NoMemory) = ⊤
Chooses words (Err fault) = ⊥

-- the words give these limits, and no FILE
abbrev pub AskOfInput : List Text → Limits → Option ℕ → Type 0
AskOfInput words limits bytes = (faults words ≡ []) × GiveValues (told_by words) limits bytes None

-- the words tell which of the four options are there
abbrev pub AskWith : List Text → (check all live strict : Bool) → Type 0
AskWith words check all live strict = IsSet (told_by words).check check × IsSet (told_by words).all all
    × IsSet (told_by words).live live × IsSet (told_by words).strict strict

-- they tell whether it is told what is wrong with a bad line
abbrev pub AskToExplain : List Text → Bool → Type 0
AskToExplain words explain = IsSet (told_by words).explain explain

-- the words ask for a run of the script of the input within these limits, and this one on its memory, if any
abbrev pub AskForInput : List Text → (explain : Bool) → Limits → Option ℕ → Type 0
AskForInput words explain limits bytes = AskOfInput words limits bytes × AskWith words false false false false × AskToExplain words explain

-- the words ask for a check of the record of the input, of which all differences are told, or the first
abbrev pub AskForCheck : List Text → (every explain : Bool) → Limits → Option ℕ → Type 0
AskForCheck words every explain limits bytes = AskOfInput words limits bytes × AskWith words true every false false × AskToExplain words explain

-- the words ask for a live run of the lines of the input, which ends at its first bad line if it is a strict one
abbrev pub AskForLive : List Text → (strict explain : Bool) → Limits → Option ℕ → Type 0
AskForLive words strict explain limits bytes = AskOfInput words limits bytes × AskWith words false false true strict × AskToExplain words explain
