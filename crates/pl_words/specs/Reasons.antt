-- Why a word is at fault, and the text of that.
use Rattle.std.specs.Prelude.{ℕ, ◌%◌, ◌^◌, List, [], ◌∷◌, length, nat_lt, not, ◌==◌, ◌&&◌, if◌then◌else◌, is_some, codes}
use Rattle.std.specs.List.{slice_split, list_all, before_first, after_first, position_or_len}
use Rattle.pl_model.specs.declared.script.Version.{Version}
use Rattle.pl_model.specs.declared.script.Version.TheVariants.{One, Two}
use Rattle.pl_model.specs.Words.{number, hex_digit, one_byte, is_star, is_plus, digits_or_repeated}
use Rattle.pl_words.specs.declared.reasons.Wanted.{Wanted}
use Rattle.pl_words.specs.declared.reasons.Wanted.TheVariants as wanted
use Rattle.pl_words.specs.declared.reasons.Reason.{Reason}
use Rattle.pl_words.specs.declared.reasons.Reason.TheVariants.{Surplus, Missing, Not, OddDigits, NoDigit, NoRepetition, NoPiece, TooManyBytes}
use Rattle.pl_words.specs.Parsed.{one_write}

-- the text of a kind of words
abbrev pub wanted_text : Wanted → List ℕ
wanted_text wanted.First = codes "a process, start, resume, interrupt or file"
wanted_text wanted.CallName = codes "a call"
wanted_text wanted.CallNumber = codes "the number of a waiting call"
wanted_text wanted.Descriptor = codes "a descriptor"
wanted_text wanted.Size = codes "a number of bytes"
wanted_text wanted.Offset = codes "an offset or -"
wanted_text wanted.SeekOffset = codes "an offset"
wanted_text wanted.Whence = codes "set, cur or end"
wanted_text wanted.Bytes = codes "bytes"
wanted_text wanted.Name = codes "a name"
wanted_text wanted.Mode = codes "r, w or rw"
wanted_text wanted.OpenFlags = codes "flags of an open"
wanted_text wanted.PipeFlags = codes "flags of a pipe"
wanted_text wanted.SpliceFlags = codes "flags of a splice"
wanted_text wanted.StatusFlags = codes "flags of setfl, or -"
wanted_text wanted.Nonblock = codes "nonblock"
wanted_text wanted.When = codes "now or wait"
wanted_text wanted.Entry = codes "an entry FD:MASK"

-- the two pieces of the text of a reason
abbrev pub reason_text : Reason → List ℕ × List ℕ
reason_text Surplus = (codes "a word too many", [])
reason_text (Missing kind) = (codes "missing: ", wanted_text kind)
reason_text (Not kind) = (codes "not ", wanted_text kind)
reason_text OddDigits = (codes "an odd number of digits", [])
reason_text NoDigit = (codes "a letter that is no hexadecimal digit", [])
reason_text NoRepetition = (codes "not a repetition N*hh", [])
reason_text NoPiece = (codes "a piece without digits", [])
reason_text TooManyBytes = (codes "more than 16777216 bytes", [])

-- why `N*hh` says no bytes: it isn't one, or the number is too large
abbrev pub repeated_reason : List ℕ → List ℕ → Reason
repeated_reason times digits =
    if is_some (one_byte digits) && is_some (number (2 ^ 64) times) then TooManyBytes else NoRepetition

-- why a piece says no bytes
unfoldable pub piece_reason : List ℕ → Reason
piece_reason word =
    if nat_lt (position_or_len is_star word) (length word) then repeated_reason (before_first is_star word) (after_first is_star word)
    else if length word == 0 then NoPiece
    else if not (list_all (λ c. is_some (hex_digit c)) word) then NoDigit
    else if length word % 2 == 1 then OddDigits
    else TooManyBytes

-- why pieces say no bytes: the reason of the first that says none by itself, and if each says some, that they are too many together
unfoldable pub pieces_reason : List (List ℕ) → Reason
pieces_reason [] = TooManyBytes
pieces_reason (word ∷ words) = if is_some (one_write (digits_or_repeated word)) then pieces_reason words else piece_reason word

-- why a word says no bytes of a write
unfoldable pub bytes_reason : Version → List ℕ → Reason
bytes_reason One word = piece_reason word
bytes_reason Two word = pieces_reason (slice_split is_plus word)
