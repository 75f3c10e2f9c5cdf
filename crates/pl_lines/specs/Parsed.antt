-- Which lines take memory, and what parts of a line say.
use Rattle.std.specs.Prelude.{◌≡◌, ℕ, ℤ, length, List, ◌∷◌, Option, Some, None, IsSomeAnd, if◌then◌else◌, codes}
use Rattle.std.specs.Str.{bytes_eq}
use Rattle.pl_model.specs.declared.calls.Call.{Call}
use Rattle.pl_model.specs.declared.calls.Call.TheVariants as call
use Rattle.pl_model.specs.declared.calls.Step.TheVariants as step
use Rattle.pl_model.specs.declared.script.Line.{Line}
use Rattle.pl_model.specs.declared.script.Line.TheVariants.{Do, File}
use Rattle.pl_model.specs.declared.script.Version.{Version}
use Rattle.pl_model.specs.Lines.{line, side_of, dup_of, dup2_of, dup_fd_of, close_of, lseek_of, get_fl_of, set_fl_of, get_pipe_sz_of, set_pipe_sz_of, unlink_of, fork_of, exit_of}
use Rattle.pl_model.specs.Words.{◌>>=◌}
use Rattle.pl_words.specs.Parsed.{BytesTake, EntriesTake}

-- of calls, those with bytes, a name or entries alone
abbrev pub CallTakes : {A : Type 0} → Call A → Type 0
CallTakes (call.Write fd bytes) = BytesTake bytes
CallTakes (call.Mkfifo name) = BytesTake name
CallTakes (call.OpenName name mode flags) = BytesTake name
CallTakes (call.Unlink name) = BytesTake name
CallTakes (call.Poll entries wait) = EntriesTake entries
CallTakes _ = ⊥

-- of lines, one that begins such a call, or asks for the file of a name
abbrev pub LineTakes : {A : Type 0} → Line A → Type 0
LineTakes (Do (step.Begin pid begun)) = CallTakes begun
LineTakes (Do _) = ⊥
LineTakes (File name) = BytesTake name

-- the same of a line that may ask nothing
abbrev pub LineAskedTakes : {A : Type 0} → Option (Line A) → Type 0
LineAskedTakes asked = IsSomeAnd asked LineTakes

-- the line asks that the process writes so many bytes to its descriptor
abbrev pub WritesSoMany : (A : Type 0) → Version → List ℕ → (pid : ℕ) → (fd : ℤ) → (count : ℕ) → Type 0
WritesSoMany A version bytes pid fd count =
    (written : List ℕ) × (line {A = A} version bytes ≡ Some (Some (Do (step.Begin pid (call.Write fd written))))) × (length written ≡ count)

-- the first two words as a side of a splice, and the words behind them
abbrev pub first_side : List (List ℕ) → Option (ℤ × Option ℕ × List (List ℕ))
first_side (fd ∷ offset ∷ rest) = side_of fd offset >>= λ x. Some (x.0, x.1, rest)
first_side _ = None

-- what `call_of` says from `dup` on
unfoldable pub later_call_of : {A : Type 0} → List ℕ → List (List ℕ) → Option (Call A)
later_call_of name rest =
    if bytes_eq name (codes "dup") then dup_of rest
    else if bytes_eq name (codes "dup2") then dup2_of rest
    else if bytes_eq name (codes "dupfd") then dup_fd_of rest
    else if bytes_eq name (codes "close") then close_of rest
    else if bytes_eq name (codes "lseek") then lseek_of rest
    else if bytes_eq name (codes "getfl") then get_fl_of rest
    else if bytes_eq name (codes "setfl") then set_fl_of rest
    else if bytes_eq name (codes "getsz") then get_pipe_sz_of rest
    else if bytes_eq name (codes "setsz") then set_pipe_sz_of rest
    else if bytes_eq name (codes "unlink") then unlink_of rest
    else if bytes_eq name (codes "fork") then fork_of rest
    else if bytes_eq name (codes "exit") then exit_of rest
    else None
