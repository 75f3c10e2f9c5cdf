-- What is wrong with a bad line: its first word that isn't of its kind, is missing, or is one too many. A table of the kinds of words.
use Rattle.std.specs.Prelude.{ℕ, ◌+◌, ◌^◌, List, [], ◌∷◌, Bool, if◌then◌else◌, Option, Some, None, is_some, codes}
use Rattle.std.specs.Option.{option_or}
use Rattle.std.specs.Str.{bytes_eq}
use Rattle.pl_model.specs.declared.script.Version.{Version}
use Rattle.pl_model.specs.declared.script.Version.TheVariants.{One, Two}
use Rattle.pl_model.specs.Lines.{is_comment}
use Rattle.pl_model.specs.Words.{number, signed, signed_long, offset_of, whence_of, bytes_of, name_of, mode_of, flags_of, open_flag, pipe_flag, splice_flag, flags_or_none, wait_of, entry_of}
use Rattle.pl_words.specs.declared.reasons.Wanted.{Wanted}
use Rattle.pl_words.specs.declared.reasons.Wanted.TheVariants.{First, CallName, CallNumber, Descriptor, Size, Offset, SeekOffset, Whence, Bytes, Name, Mode, OpenFlags, PipeFlags, SpliceFlags, StatusFlags, Nonblock, When, Entry}
use Rattle.pl_words.specs.declared.reasons.Reason.{Reason}
use Rattle.pl_words.specs.declared.reasons.Reason.TheVariants.{Surplus, Missing, Not}
use Rattle.pl_words.specs.Reasons.{bytes_reason}
use Rattle.pl_lines.specs.declared.kinds.Expected.{Expected}
use Rattle.pl_lines.specs.declared.kinds.Expected.TheVariants.{Needed, Optional, Repeated}
use Rattle.pl_lines.specs.declared.explain.Explanation.{Explanation}

-- `pipe [nonblock]`, and in version 2 `pipe [FLAGS]`
abbrev pub pipe_kinds : Version → List Expected
pipe_kinds One = Optional Nonblock ∷ []
pipe_kinds Two = Optional PipeFlags ∷ []

-- the words behind the name of a call, of those from `dup` on
unfoldable pub later_call_kinds : List ℕ → Option (List Expected)
later_call_kinds name =
    if bytes_eq name (codes "dup") then Some (Needed Descriptor ∷ [])
    else if bytes_eq name (codes "dup2") then Some (Needed Descriptor ∷ Needed Descriptor ∷ [])
    else if bytes_eq name (codes "dupfd") then Some (Needed Descriptor ∷ Needed Descriptor ∷ [])
    else if bytes_eq name (codes "close") then Some (Needed Descriptor ∷ [])
    else if bytes_eq name (codes "lseek") then Some (Needed Descriptor ∷ Needed SeekOffset ∷ Needed Whence ∷ [])
    else if bytes_eq name (codes "getfl") then Some (Needed Descriptor ∷ [])
    else if bytes_eq name (codes "setfl") then Some (Needed Descriptor ∷ Needed StatusFlags ∷ [])
    else if bytes_eq name (codes "getsz") then Some (Needed Descriptor ∷ [])
    else if bytes_eq name (codes "setsz") then Some (Needed Descriptor ∷ Needed Size ∷ [])
    else if bytes_eq name (codes "unlink") then Some (Needed Name ∷ [])
    else if bytes_eq name (codes "fork") then Some []
    else if bytes_eq name (codes "exit") then Some []
    else None

-- the words behind the name of a call; no call has another name
unfoldable pub call_kinds : Version → List ℕ → Option (List Expected)
call_kinds version name =
    if bytes_eq name (codes "pipe") then Some (pipe_kinds version)
    else if bytes_eq name (codes "mkfifo") then Some (Needed Name ∷ [])
    else if bytes_eq name (codes "open") then Some (Needed Name ∷ Needed Mode ∷ Optional OpenFlags ∷ [])
    else if bytes_eq name (codes "read") then Some (Needed Descriptor ∷ Needed Size ∷ [])
    else if bytes_eq name (codes "write") then Some (Needed Descriptor ∷ Needed Bytes ∷ [])
    else if bytes_eq name (codes "splice") then Some (Needed Descriptor ∷ Needed Offset ∷ Needed Descriptor ∷ Needed Offset ∷ Needed Size ∷ Optional SpliceFlags ∷ [])
    else if bytes_eq name (codes "tee") then Some (Needed Descriptor ∷ Needed Descriptor ∷ Needed Size ∷ Optional SpliceFlags ∷ [])
    else if bytes_eq name (codes "poll") then Some (Needed When ∷ Repeated Entry ∷ [])
    else later_call_kinds name

-- whether a word is of this kind; `First` is the first word of a line in which a process begins a call
abbrev pub says : Version → Wanted → List ℕ → Bool
says version First word = is_some (number (2 ^ 32) word)
says version CallName word = is_some (call_kinds version word)
says version CallNumber word = is_some (number (2 ^ 64) word)
says version Descriptor word = is_some (signed word)
says version Size word = is_some (number (2 ^ 32) word)
says version Offset word = is_some (offset_of word)
says version SeekOffset word = is_some (signed_long word)
says version Whence word = is_some (whence_of word)
says version Bytes word = is_some (bytes_of version word)
says version Name word = is_some (name_of word)
says version Mode word = is_some (mode_of word)
says version OpenFlags word = is_some (flags_of open_flag word)
says version PipeFlags word = is_some (flags_of pipe_flag word)
says version SpliceFlags word = is_some (flags_of splice_flag word)
says version StatusFlags word = is_some (flags_or_none word)
says version Nonblock word = bytes_eq word (codes "nonblock")
says version When word = is_some (wait_of word)
says version Entry word = is_some (entry_of word)

-- why a word isn't of this kind
abbrev pub why : Version → Wanted → List ℕ → Reason
why version Bytes word = bytes_reason version word
why version kind word = Not kind

-- the fault of the word of this number
abbrev pub at_fault : ℕ → Reason → Option Explanation
at_fault number reason = Some (record { word = number; reason = reason })

-- what is wrong with a word that is to be of this kind
abbrev pub word_fault : Version → ℕ → Wanted → List ℕ → Option Explanation
word_fault version number kind word = if says version kind word then None else at_fault number (why version kind word)

-- the kind of the next word, and what is expected behind it; none where no word may stand
abbrev pub next_expected : List Expected → Option (Wanted × List Expected)
next_expected [] = None
next_expected (Needed kind ∷ others) = Some (kind, others)
next_expected (Optional kind ∷ others) = Some (kind, others)
next_expected (Repeated kind ∷ others) = Some (kind, Repeated kind ∷ others)

-- what is wrong at the end of a line
abbrev pub end_fault : ℕ → List Expected → Option Explanation
end_fault number (Needed kind ∷ others) = at_fault number (Missing kind)
end_fault number _ = None

-- what is wrong with the words from this number on
unfoldable pub first_fault : Version → ℕ → List Expected → List (List ℕ) → Option Explanation
first_fault version number expected [] = end_fault number expected
first_fault version number expected (word ∷ words) =
    elim (next_expected expected) [
      | None ↦ at_fault number Surplus
      | Some next ↦ option_or (word_fault version number next.0 word) (first_fault version (number + 1) next.1 words)
    ]

-- what is wrong behind the name of a call
abbrev pub named_fault : Version → Option (List Expected) → List (List ℕ) → Option Explanation
named_fault version None words = at_fault 2 (Not CallName)
named_fault version (Some kinds) words = first_fault version 3 kinds words

-- what is wrong behind the number of a process
abbrev pub call_fault : Version → List (List ℕ) → Option Explanation
call_fault version [] = at_fault 2 (Missing CallName)
call_fault version (name ∷ words) = named_fault version (call_kinds version name) words

-- what is wrong with a line in which a process begins a call
abbrev pub begin_fault : Version → List ℕ → List (List ℕ) → Option Explanation
begin_fault version pid words = option_or (word_fault version 1 First pid) (call_fault version words)

-- what is wrong with a line of these words, the first of them and the rest
unfoldable pub words_fault : Version → List ℕ → List (List ℕ) → Option Explanation
words_fault version word rest =
    if bytes_eq word (codes "start") then first_fault version 2 [] rest
    else if bytes_eq word (codes "resume") then first_fault version 2 (Needed CallNumber ∷ []) rest
    else if bytes_eq word (codes "interrupt") then first_fault version 2 (Needed CallNumber ∷ []) rest
    else if bytes_eq word (codes "file") then first_fault version 2 (Needed Name ∷ []) rest
    else begin_fault version word rest

-- what is wrong with a line of these words; nothing with one that has none, or with a comment
unfoldable pub explained : Version → List (List ℕ) → Option Explanation
explained version [] = None
explained version (word ∷ rest) = if is_comment word then None else words_fault version word rest
