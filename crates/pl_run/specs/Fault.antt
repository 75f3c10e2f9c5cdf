-- The lines and statuses of faults (our own).
use Rattle.std.specs.Prelude.{ℕ, ◌≤◌, List, [], ◌∷◌, ◌++◌, length, take, codes, Bool, true, false, Option, Some, None}
use Rattle.std.specs.Fmt.{decimal}
use Rattle.std.specs.Io.KnownBytes.{Appends}
use Rattle.pl_lines.specs.declared.explain.Explanation.{Explanation}
use Rattle.pl_words.specs.declared.reasons.Reason.{Reason}
use Rattle.pl_words.specs.Reasons.{reason_text}
use Rattle.pl_script.specs.Explaining.{why_bad, why_live}
use Rattle.pl_script.specs.declared.fault.ScriptFault.{ScriptFault}
use Rattle.pl_script.specs.declared.fault.ScriptFault.TheVariants as script
use Rattle.pl_script.specs.declared.peer.LiveFault.{LiveFault}
use Rattle.pl_script.specs.declared.peer.LiveFault.TheVariants as live
use Rattle.pl_run.specs.declared.fault.Fault.{Fault}
use Rattle.pl_run.specs.declared.fault.Fault.TheVariants.{CannotRead, CannotWrite, CommandLine, BadLine, BadLines, TooLong, Endless, NoMemory, NothingExpected, Differs}

-- what is told beside the number of a line that isn't a command: nothing
abbrev pub nothing_more : ℕ → Option Explanation
nothing_more n = None

-- with `--explain` it is what is wrong with that line of a script
abbrev pub told_of_script : (explain : Bool) → List ℕ → ℕ → Option Explanation
told_of_script true script n = why_bad script n
told_of_script false script n = None

-- the same of a live run that heard these lines
abbrev pub told_of_heard : (explain : Bool) → List ℕ → ℕ → Option Explanation
told_of_heard true heard n = why_live heard n
told_of_heard false heard n = None

-- a fault of a script as the program's, where this is told of a bad line
abbrev pub fault_of : (ℕ → Option Explanation) → ScriptFault → Fault
fault_of why script.Read = CannotRead
fault_of why script.Write = CannotWrite
fault_of why script.TooLong = TooLong
fault_of why (script.BadLine n) = BadLine n (why n)
fault_of why script.NoMemory = NoMemory

abbrev pub fault_of_live : (ℕ → Option Explanation) → LiveFault → Fault
fault_of_live why live.Read = CannotRead
fault_of_live why live.Write = CannotWrite
fault_of_live why live.TooLong = Endless
fault_of_live why (live.BadLine n) = BadLine n (why n)
fault_of_live why live.NoMemory = NoMemory

-- the fault with this told of a bad line
abbrev pub explained_by : Option Explanation → Fault → Fault
explained_by why CannotRead = CannotRead
explained_by why CannotWrite = CannotWrite
explained_by why CommandLine = CommandLine
explained_by why (BadLine n old) = BadLine n why
explained_by why (BadLines count) = BadLines count
explained_by why TooLong = TooLong
explained_by why Endless = Endless
explained_by why NoMemory = NoMemory
explained_by why NothingExpected = NothingExpected
explained_by why (Differs n compared) = Differs n compared

abbrev pub status_of : Fault → ℕ
status_of CannotRead = 1
status_of CannotWrite = 1
status_of CommandLine = 2
status_of (BadLine n why) = 3
status_of (BadLines count) = 3
status_of TooLong = 3
status_of Endless = 3
status_of NoMemory = 4
status_of NothingExpected = 5
status_of (Differs n compared) = 5

-- what is wrong with a word, and a line feed
abbrev pub text_of_reason : Reason → List ℕ
text_of_reason reason = (reason_text reason).0 ++ ((reason_text reason).1 ++ 10 ∷ [])

-- the line that tells what is wrong with a word of the line of this number, with its line feed; none where nothing is told
abbrev pub line_of_why : ℕ → Option Explanation → List ℕ
line_of_why n None = []
line_of_why n (Some why) =
    codes "line " ++ (decimal n ++ (codes ", word " ++ (decimal why.word ++ (codes ": " ++ text_of_reason why.reason))))

-- the line of a fault, with its line feed, and the line behind it that tells why a line is bad
abbrev pub line_of : Fault → List ℕ
line_of CannotRead = codes "piperun: cannot read" ++ 10 ∷ []
line_of CannotWrite = codes "piperun: cannot write" ++ 10 ∷ []
line_of CommandLine = codes "piperun: bad command line" ++ 10 ∷ []
line_of (BadLine n why) = codes "piperun: line " ++ (decimal n ++ ((codes ": not a command" ++ 10 ∷ []) ++ line_of_why n why))
line_of (BadLines count) = codes "piperun: " ++ (decimal count ++ (codes " bad lines" ++ 10 ∷ []))
line_of TooLong = codes "piperun: script longer than 16777216 bytes" ++ 10 ∷ []
line_of Endless = codes "piperun: input without end" ++ 10 ∷ []
line_of NoMemory = codes "piperun: no memory" ++ 10 ∷ []
line_of NothingExpected = codes "piperun: no reply is expected" ++ 10 ∷ []
line_of (Differs n compared) = codes "piperun: " ++ (decimal n ++ (codes " of " ++ (decimal compared ++ (codes " replies differ" ++ 10 ∷ []))))

-- what came of a line: all of it was written, or a front of it
abbrev pub WritesLine : Bool → Option (List ℕ) → Option (List ℕ) → List ℕ → Type 0
WritesLine true old new line = Appends old new line
WritesLine false old new line = (count : ℕ) × (count ≤ length line) × Appends old new (take count line)
