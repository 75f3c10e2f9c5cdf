-- The words of a line, and what each kind of word says.
use Rattle.std.specs.Prelude.{ℕ, ◌+◌, ◌-◌, ◌*◌, ◌^◌, List, [], ◌∷◌, ◌++◌, length, slice_index, take, replicate, Bool, true, false, not, nat_lt, nat_le, ◌==◌, ◌||◌, ◌&&◌, if◌then◌else◌, ℤ, pos, neg_ℤ, Option, Some, None, option_and_then, codes, filter, bit_or}
use Rattle.std.specs.List.{slice_split, list_all, before_first, after_first, position_or_len}
use Rattle.std.specs.Str.{bytes_eq}
use Rattle.std.specs.Str.Parse.{digits_value}
use Rattle.pl_model.specs.declared.calls.Mode.{Mode}
use Rattle.pl_model.specs.declared.calls.Whence.{Whence}
use Rattle.pl_model.specs.declared.flags.OpenFlags.{OpenFlags}
use Rattle.pl_model.specs.declared.flags.SpliceFlags.{SpliceFlags}
use Rattle.pl_model.specs.declared.flags.PollMask.{PollMask}
use Rattle.pl_model.specs.declared.script.Version.{Version}
use Rattle.pl_model.specs.declared.script.Version.TheVariants.{One, Two}
use Rattle.pl_model.specs.Numbers.{most_bytes}
use Rattle.pl_model.specs.Flags.{open_names, pipe_names, splice_names, mask_names, no_flags, no_mask}

-- what the second says of what the first gives, if it gives anything
infixl 10 ◌>>=◌
abbrev pub ◌>>=◌ : {A B : Type 0} → Option A → (A → Option B) → Option B
o >>= f = option_and_then f o

-- a space or a tab
abbrev pub is_blank : ℕ → Bool
is_blank c = c == 32 || c == 9

abbrev pub is_nonempty : List ℕ → Bool
is_nonempty [] = false
is_nonempty (c ∷ cs) = true

-- the words between the blanks
unfoldable pub words : List ℕ → List (List ℕ)
words line = filter is_nonempty (slice_split is_blank line)

-- a line without the carriage return that ends it
unfoldable pub without_return : List ℕ → List ℕ
without_return line =
    if nat_lt 0 (length line) && slice_index line (length line - 1) == 13 then take (length line - 1) line else line

abbrev pub is_digit : ℕ → Bool
is_digit c = nat_le 48 c && nat_le c 57

-- 1 to 20 decimal digits, with a value below the limit
unfoldable pub number : ℕ → List ℕ → Option ℕ
number limit word =
    if list_all is_digit word && (nat_le 1 (length word) && (nat_le (length word) 20 && nat_lt (digits_value 10 word) limit))
    then Some (digits_value 10 word) else None

-- a number below the limit, or at most the limit after one `-`
unfoldable pub signed_below : ℕ → List ℕ → Option ℤ
signed_below limit [] = None
signed_below limit (c ∷ digits) =
    if c == 45 then (number (limit + 1) digits >>= λ n. Some (neg_ℤ (pos n)))
    else (number limit (c ∷ digits) >>= λ n. Some (pos n))

-- FD: a number that fits 32 bits with a sign
abbrev pub signed : List ℕ → Option ℤ
signed word = signed_below (2 ^ 31) word

-- OFFSET: a number that fits 64 bits with a sign
abbrev pub signed_long : List ℕ → Option ℤ
signed_long word = signed_below (2 ^ 63) word

-- a hexadecimal digit of either case
abbrev pub hex_digit : ℕ → Option ℕ
hex_digit c =
    if nat_le 65 c && nat_le c 70 then Some (c - 55)
    else if nat_le 97 c && nat_le c 102 then Some (c - 87)
    else if nat_le 48 c && nat_le c 57 then Some (c - 48)
    else None

abbrev pub hex_byte : ℕ → ℕ → Option ℕ
hex_byte high low = do
  h ← hex_digit high
  l ← hex_digit low
  Some (h * 16 + l)

-- an even number of hexadecimal digits
unfoldable pub hex_bytes : List ℕ → Option (List ℕ)
hex_bytes [] = Some []
hex_bytes (c ∷ []) = None
hex_bytes (high ∷ low ∷ rest) = do
  b ← hex_byte high low
  bs ← hex_bytes rest
  Some (b ∷ bs)

-- the one byte of two digits
abbrev pub one_byte : List ℕ → Option ℕ
one_byte (high ∷ low ∷ []) = hex_byte high low
one_byte _ = None

abbrev pub is_star : ℕ → Bool
is_star c = c == 42

-- `N*hh`: N times the byte hh
unfoldable pub repeated : List ℕ → List ℕ → Option (List ℕ)
repeated times digits = do
  n ← number (most_bytes + 1) times
  b ← one_byte digits
  Some (replicate n b)

-- an even and positive number of digits, or `N*hh`
unfoldable pub digits_or_repeated : List ℕ → Option (List ℕ)
digits_or_repeated word =
    if nat_lt (position_or_len is_star word) (length word) then repeated (before_first is_star word) (after_first is_star word)
    else if nat_lt 0 (length word) then hex_bytes word
    else None

abbrev pub is_plus : ℕ → Bool
is_plus c = c == 43

-- the bytes of one piece after another
unfoldable pub pieces : List (List ℕ) → Option (List ℕ)
pieces [] = Some []
pieces (word ∷ words) = do
  first ← digits_or_repeated word
  rest ← pieces words
  Some (first ++ rest)

-- one piece, and in version 2 several that `+` joins
abbrev pub pieces_of : Version → List ℕ → Option (List ℕ)
pieces_of One word = digits_or_repeated word
pieces_of Two word = pieces (slice_split is_plus word)

-- BYTES: `-` for none, or the bytes of pieces; not more than one write takes
unfoldable pub bytes_of : Version → List ℕ → Option (List ℕ)
bytes_of version word =
    if bytes_eq word (codes "-") then Some []
    else (pieces_of version word >>= λ bytes. if nat_le (length bytes) most_bytes then Some bytes else None)

-- a byte that stands for itself in a name: a printed one, neither a blank nor `%`
abbrev pub is_plain : ℕ → Bool
is_plain c = nat_le 33 c && (nat_le c 126 && not (c == 37))

-- such a byte, before the bytes behind it
abbrev pub plain_then : ℕ → Option (List ℕ) → Option (List ℕ)
plain_then c rest = if is_plain c then (rest >>= λ bytes. Some (c ∷ bytes)) else None

-- the bytes of a name, in which `%hh` is the byte hh, and `%` stands in no other way
unfoldable pub name_bytes : List ℕ → Option (List ℕ)
name_bytes [] = Some []
name_bytes (c ∷ []) = plain_then c (name_bytes [])
name_bytes (c ∷ d ∷ []) = plain_then c (name_bytes (d ∷ []))
name_bytes (c ∷ high ∷ low ∷ rest) =
    if c == 37 then (hex_byte high low >>= λ b. name_bytes rest >>= λ bytes. Some (b ∷ bytes))
    else plain_then c (name_bytes (high ∷ low ∷ rest))

-- NAME: `-` for the empty name, or its bytes
unfoldable pub name_of : List ℕ → Option (List ℕ)
name_of word = if bytes_eq word (codes "-") then Some [] else name_bytes word

-- MODE
unfoldable pub mode_of : List ℕ → Option Mode
mode_of word =
    if bytes_eq word (codes "r") then Some Mode.Read
    else if bytes_eq word (codes "w") then Some Mode.Write
    else if bytes_eq word (codes "rw") then Some Mode.Both
    else None

-- WHENCE
unfoldable pub whence_of : List ℕ → Option Whence
whence_of word =
    if bytes_eq word (codes "set") then Some Whence.Set
    else if bytes_eq word (codes "cur") then Some Whence.Cur
    else if bytes_eq word (codes "end") then Some Whence.End
    else None

-- the bit of the flag of this name
abbrev pub flag_named : List (ℕ × List ℕ) → List ℕ → Option ℕ
flag_named [] name = None
flag_named (flag ∷ flags) name = if bytes_eq name flag.1 then Some flag.0 else flag_named flags name

-- a flag by its name, as a file is opened: its bit
unfoldable pub open_flag : List ℕ → Option ℕ
open_flag name = flag_named open_names name

-- a flag by its name, as a pipe is made: its bit
unfoldable pub pipe_flag : List ℕ → Option ℕ
pipe_flag name = flag_named pipe_names name

-- a flag by its name, as bytes are spliced: its bit
unfoldable pub splice_flag : List ℕ → Option ℕ
splice_flag name = flag_named splice_names name

-- what a poll asks, by its name: its bit
unfoldable pub poll_flag : List ℕ → Option ℕ
poll_flag name = flag_named mask_names name

-- the bits of these names, beside some that are there
unfoldable pub with_flags : (List ℕ → Option ℕ) → ℕ → List (List ℕ) → Option ℕ
with_flags flag_of bits [] = Some bits
with_flags flag_of bits (name ∷ names) = flag_of name >>= λ bit. with_flags flag_of (bit_or bits bit) names

abbrev pub is_comma : ℕ → Bool
is_comma c = c == 44

-- FLAGS: names joined by commas
unfoldable pub flags_of : (List ℕ → Option ℕ) → List ℕ → Option ℕ
flags_of flag_of word = with_flags flag_of 0 (slice_split is_comma word)

-- FLAGS that may be left out
unfoldable pub flags_if_any : (List ℕ → Option ℕ) → List (List ℕ) → Option ℕ
flags_if_any flag_of [] = Some 0
flags_if_any flag_of (word ∷ []) = flags_of flag_of word
flags_if_any flag_of _ = None

abbrev pub as_open_flags : ℕ → OpenFlags
as_open_flags bits = record { 0 = bits }

abbrev pub as_splice_flags : ℕ → SpliceFlags
as_splice_flags bits = record { 0 = bits }

-- FLAGS of an open, which may be left out
abbrev pub open_flags_if_any : List (List ℕ) → Option OpenFlags
open_flags_if_any ws = flags_if_any open_flag ws >>= λ bits. Some (as_open_flags bits)

-- FLAGS of a pipe, which may be left out
abbrev pub pipe_flags_if_any : List (List ℕ) → Option OpenFlags
pipe_flags_if_any ws = flags_if_any pipe_flag ws >>= λ bits. Some (as_open_flags bits)

-- FLAGS of a splice, which may be left out
abbrev pub splice_flags_if_any : List (List ℕ) → Option SpliceFlags
splice_flags_if_any ws = flags_if_any splice_flag ws >>= λ bits. Some (as_splice_flags bits)

-- FLAGS, or `-` for none
unfoldable pub flags_or_none : List ℕ → Option OpenFlags
flags_or_none word = if bytes_eq word (codes "-") then Some no_flags else (flags_of open_flag word >>= λ bits. Some (as_open_flags bits))

-- OFF: a number that fits 64 bits, or `-` for none
unfoldable pub offset_of : List ℕ → Option (Option ℕ)
offset_of word = if bytes_eq word (codes "-") then Some None else (number (2 ^ 64) word >>= λ n. Some (Some n))

abbrev pub as_poll_mask : ℕ → PollMask
as_poll_mask bits = record { 0 = bits }

-- MASK: names joined by commas, or `-` for none
unfoldable pub poll_mask_of : List ℕ → Option PollMask
poll_mask_of word = if bytes_eq word (codes "-") then Some no_mask else (flags_of poll_flag word >>= λ bits. Some (as_poll_mask bits))

abbrev pub is_colon : ℕ → Bool
is_colon c = c == 58

-- ENTRY: `FD:MASK`
unfoldable pub entry_of : List ℕ → Option (ℤ × PollMask)
entry_of word = do
  fd ← signed (before_first is_colon word)
  asked ← poll_mask_of (after_first is_colon word)
  Some (fd, asked)

-- `ENTRY ..`, any number of them
unfoldable pub entries_of : List (List ℕ) → Option (List (ℤ × PollMask))
entries_of [] = Some []
entries_of (word ∷ words) = do
  e ← entry_of word
  es ← entries_of words
  Some (e ∷ es)

-- whether a poll waits: `wait`, or `now`
unfoldable pub wait_of : List ℕ → Option Bool
wait_of word =
    if bytes_eq word (codes "now") then Some false
    else if bytes_eq word (codes "wait") then Some true
    else None
