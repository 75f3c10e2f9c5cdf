-- The line that says a step (our own): of all lines of version 2 that ask for it, the one that a record has. Its words are those that
-- Words reads, and its numbers, flags and bytes are written as Shown writes them in replies.
use Rattle.std.specs.Prelude.{ℕ, ◌^◌, ◌<◌, ◌≤◌, ◌++◌, List, [], ◌∷◌, map, length, ℤ, Bool, true, false, ◌==◌, if◌then◌else◌, Option, Some, None, IfSome, All, sum, codes, FitsSigned, ⊤}
use Rattle.std.specs.Int.{w32, w64}
use Rattle.std.specs.List.{list_all, flat_map, join_with_byte}
use Rattle.std.specs.Str.{bytes_eq}
use Rattle.std.specs.Fmt.{decimal, signed_decimal}
use Rattle.pl_model.specs.declared.calls.Call.{Call}
use Rattle.pl_model.specs.declared.calls.Call.TheVariants.{Pipe, Mkfifo, OpenName, Read, Write, Splice, Tee, Poll, Dup, Dup2, DupFd, Close, Lseek, GetFl, SetFl, GetPipeSz, SetPipeSz, Unlink, Fork, Exit}
use Rattle.pl_model.specs.declared.calls.Step.{Step}
use Rattle.pl_model.specs.declared.calls.Step.TheVariants.{Start, Begin, Resume, Interrupt}
use Rattle.pl_model.specs.declared.calls.Whence.{Whence}
use Rattle.pl_model.specs.declared.flags.PollMask.{PollMask}
use Rattle.pl_model.specs.declared.script.Version.TheVariants.{Two}
use Rattle.pl_model.specs.Numbers.{most_bytes}
use Rattle.pl_model.specs.Flags.{has, open_names, pipe_names, splice_names, mask_names, write_end_flags}
use Rattle.pl_model.specs.Words.{is_plain}
use Rattle.pl_model.specs.Shown.{hex_text, bytes_text, mode_text, names_within, mask_text}

-- a byte of a name: itself, or `%hh`
abbrev pub said_byte : ℕ → List ℕ
said_byte c = if is_plain c then c ∷ [] else 37 ∷ hex_text (c ∷ [])

-- NAME: `-` for the empty name, and so `%2d` for the name that is one `-`
unfoldable pub said_name : List ℕ → List ℕ
said_name [] = codes "-"
said_name (c ∷ bytes) = if bytes_eq (c ∷ bytes) (codes "-") then codes "%2d" else flat_map said_byte (c ∷ bytes)

-- OFF: `-` for none
abbrev pub said_offset : Option ℕ → List ℕ
said_offset None = codes "-"
said_offset (Some n) = decimal n

-- WHENCE
abbrev pub said_whence : Whence → List ℕ
said_whence Whence.Set = codes "set"
said_whence Whence.Cur = codes "cur"
said_whence Whence.End = codes "end"

-- whether a poll waits
abbrev pub said_wait : Bool → List ℕ
said_wait false = codes "now"
said_wait true = codes "wait"

-- FLAGS that may be left out, and are where there are none
abbrev pub said_flags : ℕ → List (ℕ × List ℕ) → List (List ℕ)
said_flags set table = if set == 0 then [] else names_within set table ∷ []

-- ENTRY
abbrev pub said_entry : ℤ × PollMask → List ℕ
said_entry e = signed_decimal e.0 ++ (codes ":" ++ mask_text e.1)

-- the words joined by one blank
abbrev pub spaced : List (List ℕ) → List ℕ
spaced words = join_with_byte 32 words

module _ {A : Type 0} where
  -- CALL, and the words after it
  unfoldable pub call_words : Call A → List (List ℕ)
  call_words (Pipe nonblock direct) = codes "pipe" ∷ said_flags (write_end_flags nonblock direct).0 pipe_names
  call_words (Mkfifo name) = codes "mkfifo" ∷ said_name name ∷ []
  call_words (OpenName name mode flags) = codes "open" ∷ said_name name ∷ mode_text mode ∷ said_flags flags.0 open_names
  call_words (Read fd n) = codes "read" ∷ signed_decimal fd ∷ decimal n ∷ []
  call_words (Write fd bytes) = codes "write" ∷ signed_decimal fd ∷ bytes_text Two bytes ∷ []
  call_words (Splice from from_offset to to_offset len flags) =
      codes "splice" ∷ signed_decimal from ∷ said_offset from_offset ∷ signed_decimal to ∷ said_offset to_offset ∷ decimal len ∷ said_flags flags.0 splice_names
  call_words (Tee from to len flags) = codes "tee" ∷ signed_decimal from ∷ signed_decimal to ∷ decimal len ∷ said_flags flags.0 splice_names
  call_words (Poll entries wait) = codes "poll" ∷ said_wait wait ∷ map said_entry entries
  call_words (Dup fd) = codes "dup" ∷ signed_decimal fd ∷ []
  call_words (Dup2 fd target) = codes "dup2" ∷ signed_decimal fd ∷ signed_decimal target ∷ []
  call_words (DupFd fd least) = codes "dupfd" ∷ signed_decimal fd ∷ signed_decimal least ∷ []
  call_words (Close fd) = codes "close" ∷ signed_decimal fd ∷ []
  call_words (Lseek fd offset whence) = codes "lseek" ∷ signed_decimal fd ∷ signed_decimal offset ∷ said_whence whence ∷ []
  call_words (GetFl fd) = codes "getfl" ∷ signed_decimal fd ∷ []
  call_words (SetFl fd flags) = codes "setfl" ∷ signed_decimal fd ∷ names_within flags.0 open_names ∷ []
  call_words (GetPipeSz fd) = codes "getsz" ∷ signed_decimal fd ∷ []
  call_words (SetPipeSz fd size) = codes "setsz" ∷ signed_decimal fd ∷ decimal size ∷ []
  call_words (Unlink name) = codes "unlink" ∷ said_name name ∷ []
  call_words Fork = codes "fork" ∷ []
  call_words Exit = codes "exit" ∷ []

  -- the words of a step
  unfoldable pub step_words : Step A → List (List ℕ)
  step_words Start = codes "start" ∷ []
  step_words (Begin pid call) = decimal pid ∷ call_words call
  step_words (Resume call) = codes "resume" ∷ decimal call ∷ []
  step_words (Interrupt call) = codes "interrupt" ∷ decimal call ∷ []

  -- the line of a step, without its line feed
  unfoldable pub said_step : Step A → List ℕ
  said_step x = spaced (step_words x)

-- the line that asks for the bytes of a file, without its line feed
unfoldable pub said_file : List ℕ → List ℕ
said_file name = spaced (codes "file" ∷ said_name name ∷ [])

-- whether the set has bits of the table alone
abbrev pub are_named : List (ℕ × List ℕ) → ℕ → Bool
are_named table set = has (sum (map (λ n. n.0) table)) set

module _ {A : Type 0} where
  -- A line of version 2 says a call but where it has flags without a name: it has names alone.
  abbrev pub is_call_sayable : Call A → Bool
  is_call_sayable (OpenName name mode flags) = are_named open_names flags.0
  is_call_sayable (Splice from from_offset to to_offset len flags) = are_named splice_names flags.0
  is_call_sayable (Tee from to len flags) = are_named splice_names flags.0
  is_call_sayable (Poll entries wait) = list_all (λ e. are_named mask_names e.1.0) entries
  is_call_sayable (SetFl fd flags) = are_named open_names flags.0
  is_call_sayable _ = true

  -- whether a line of version 2 says the step
  unfoldable pub is_sayable : Step A → Bool
  is_sayable (Begin pid call) = is_call_sayable call
  is_sayable _ = true

-- a byte of Rust
abbrev pub IsByte : ℕ → Type 0
IsByte b = b < 2 ^ 8

module _ {A : Type 0} where
  -- The numbers of a call fit their types in Rust, and one write takes its bytes.
  abbrev pub CallFits : Call A → Type 0
  CallFits (Pipe nonblock direct) = ⊤
  CallFits (Mkfifo name) = All IsByte name
  CallFits (OpenName name mode flags) = All IsByte name
  CallFits (Read fd n) = FitsSigned w32 fd × (n < 2 ^ 32)
  CallFits (Write fd bytes) = FitsSigned w32 fd × All IsByte bytes × (length bytes ≤ most_bytes)
  CallFits (Splice from from_offset to to_offset len flags) =
      FitsSigned w32 from × IfSome from_offset (λ n. n < 2 ^ 64) × FitsSigned w32 to × IfSome to_offset (λ n. n < 2 ^ 64) × (len < 2 ^ 32)
  CallFits (Tee from to len flags) = FitsSigned w32 from × FitsSigned w32 to × (len < 2 ^ 32)
  CallFits (Poll entries wait) = All (λ e. FitsSigned w32 e.0) entries
  CallFits (Dup fd) = FitsSigned w32 fd
  CallFits (Dup2 fd target) = FitsSigned w32 fd × FitsSigned w32 target
  CallFits (DupFd fd least) = FitsSigned w32 fd × FitsSigned w32 least
  CallFits (Close fd) = FitsSigned w32 fd
  CallFits (Lseek fd offset whence) = FitsSigned w32 fd × FitsSigned w64 offset
  CallFits (GetFl fd) = FitsSigned w32 fd
  CallFits (SetFl fd flags) = FitsSigned w32 fd
  CallFits (GetPipeSz fd) = FitsSigned w32 fd
  CallFits (SetPipeSz fd size) = FitsSigned w32 fd × (size < 2 ^ 32)
  CallFits (Unlink name) = All IsByte name
  CallFits Fork = ⊤
  CallFits Exit = ⊤

  -- The numbers of a step fit their types in Rust.
  unfoldable pub StepFits : Step A → Type 0
  StepFits Start = ⊤
  StepFits (Begin pid call) = (pid < 2 ^ 32) × CallFits call
  StepFits (Resume call) = call < 2 ^ 64
  StepFits (Interrupt call) = call < 2 ^ 64
