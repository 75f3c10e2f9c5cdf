-- The text of a reply (our own). The versions of scripts differ at bytes.
use Rattle.std.specs.Prelude.{ℕ, ◌+◌, ◌/◌, ◌%◌, List, [], ◌∷◌, ◌++◌, true, false, ◌==◌, nat_le, if◌then◌else◌, Option, Some, None, codes, slice_index, map, replicate}
use Rattle.std.specs.List.{filter, flat_map}
use Rattle.std.specs.Fmt.{decimal, signed_decimal}
use Rattle.pl_model.specs.declared.calls.Mode.{Mode}
use Rattle.pl_model.specs.declared.flags.OpenFlags.{OpenFlags}
use Rattle.pl_model.specs.declared.flags.PollMask.{PollMask}
use Rattle.pl_model.specs.declared.replies.Errno.{Errno}
use Rattle.pl_model.specs.declared.replies.Errno.TheVariants.{EAGAIN, EBADF, EBUSY, EEXIST, EFBIG, EINTR, EINVAL, EMFILE, ENAMETOOLONG, ENFILE, ENOENT, ENOSPC, ENXIO, EOVERFLOW, EPERM, EPIPE, ESPIPE}
use Rattle.pl_model.specs.declared.replies.Reply.{Reply}
use Rattle.pl_model.specs.declared.replies.Reply.TheVariants.{Pid, Fd, Fds, Count, Bytes, Offset, Flags, Size, Masks, Unit, Fault, Parked, NoProcess, NoCall, CallsSpent}
use Rattle.pl_model.specs.declared.replies.Outcome.{Outcome}
use Rattle.pl_model.specs.declared.replies.Outcome.TheVariants.{Replied, NoMemory}
use Rattle.pl_model.specs.declared.script.Version.{Version}
use Rattle.pl_model.specs.declared.script.Version.TheVariants.{One, Two}
use Rattle.pl_model.specs.Flags.{has, status_names, mask_names}

abbrev pub lower_digits : List ℕ
lower_digits = codes "0123456789abcdef"

-- two digits for each byte
unfoldable pub hex_text : List ℕ → List ℕ
hex_text [] = []
hex_text (b ∷ bytes) = slice_index lower_digits (b / 16) ∷ slice_index lower_digits (b % 16) ∷ hex_text bytes

-- one byte more in front of runs: it joins the first if that is of the same byte
abbrev pub onto_runs : ℕ → List (ℕ × ℕ) → List (ℕ × ℕ)
onto_runs c [] = (1, c) ∷ []
onto_runs c (r ∷ rs) = if c == r.1 then (r.0 + 1, c) ∷ rs else (1, c) ∷ r ∷ rs

-- Bytes cut into their longest runs of equal bytes: how often a byte stands there, and the byte.
unfoldable pub runs : List ℕ → List (ℕ × ℕ)
runs [] = []
runs (c ∷ cs) = onto_runs c (runs cs)

-- a piece of bytes, as a line of version 2 writes it: digits, or one byte so many times
pub data Piece : Type 0 where
  Digits : List ℕ → Piece
  Times : ℕ → ℕ → Piece

-- bytes as digits in front of pieces: they join the first if that is digits
abbrev pub onto_digits : List ℕ → List Piece → List Piece
onto_digits bytes (Digits more ∷ ps) = Digits (bytes ++ more) ∷ ps
onto_digits bytes ps = Digits bytes ∷ ps

-- a run in front of pieces: one of four bytes or more is a piece by itself
abbrev pub onto_pieces : ℕ × ℕ → List Piece → List Piece
onto_pieces r ps = if nat_le 4 r.0 then Times r.0 r.1 ∷ ps else onto_digits (replicate r.0 r.1) ps

unfoldable pub run_pieces : List (ℕ × ℕ) → List Piece
run_pieces [] = []
run_pieces (r ∷ rs) = onto_pieces r (run_pieces rs)

abbrev pub piece_text : Piece → List ℕ
piece_text (Digits bytes) = hex_text bytes
piece_text (Times n b) = decimal n ++ (codes "*" ++ hex_text (b ∷ []))

-- the pieces joined by `+`
unfoldable pub pieces_text : List Piece → List ℕ
pieces_text [] = []
pieces_text (p ∷ []) = piece_text p
pieces_text (p ∷ q ∷ ps) = piece_text p ++ (codes "+" ++ pieces_text (q ∷ ps))

-- bytes by runs
abbrev pub runs_text : List ℕ → List ℕ
runs_text bytes = pieces_text (run_pieces (runs bytes))

-- digits, or pieces by runs in version 2; `-` for no bytes
unfoldable pub bytes_text : Version → List ℕ → List ℕ
bytes_text version [] = codes "-"
bytes_text One (b ∷ bytes) = hex_text (b ∷ bytes)
bytes_text Two (b ∷ bytes) = runs_text (b ∷ bytes)

-- the bytes of a file, or that there is no such file
unfoldable pub file_text : Version → Option (List ℕ) → List ℕ
file_text version None = codes "no file"
file_text version (Some bytes) = codes "file " ++ bytes_text version bytes

-- The name of an error. POSIX.1-2017, write, EPIPE: it comes with the signal SIGPIPE.
abbrev pub errno_text : Errno → List ℕ
errno_text EAGAIN = codes "EAGAIN"
errno_text EBADF = codes "EBADF"
errno_text EBUSY = codes "EBUSY"
errno_text EEXIST = codes "EEXIST"
errno_text EFBIG = codes "EFBIG"
errno_text EINTR = codes "EINTR"
errno_text EINVAL = codes "EINVAL"
errno_text EMFILE = codes "EMFILE"
errno_text ENAMETOOLONG = codes "ENAMETOOLONG"
errno_text ENFILE = codes "ENFILE"
errno_text ENOENT = codes "ENOENT"
errno_text ENOSPC = codes "ENOSPC"
errno_text ENXIO = codes "ENXIO"
errno_text EOVERFLOW = codes "EOVERFLOW"
errno_text EPERM = codes "EPERM"
errno_text EPIPE = codes "EPIPE sigpipe"
errno_text ESPIPE = codes "ESPIPE"

-- the mode as `open` takes it
abbrev pub mode_text : Mode → List ℕ
mode_text Mode.Read = codes "r"
mode_text Mode.Write = codes "w"
mode_text Mode.Both = codes "rw"

-- the names joined by commas, or `-` for none
unfoldable pub names_text : List (List ℕ) → List ℕ
names_text [] = codes "-"
names_text (name ∷ []) = name
names_text (name ∷ next ∷ names) = name ++ (codes "," ++ names_text (next ∷ names))

-- the names of what the set has of these
abbrev pub names_within : ℕ → List (ℕ × List ℕ) → List ℕ
names_within set table = names_text (map (λ n. n.1) (filter (λ n. has set n.0) table))

-- the names of the status flags that are set, or `-` for none
unfoldable pub flags_text : OpenFlags → List ℕ
flags_text flags = names_within flags.0 status_names

unfoldable pub mask_text : PollMask → List ℕ
mask_text mask = names_within mask.0 mask_names

module _ {A : Type 0} where
  -- the line of a reply, without its line feed
  unfoldable pub reply_text : Version → Reply A → List ℕ
  reply_text version (Pid n) = codes "pid " ++ decimal n
  reply_text version (Fd a) = codes "fd " ++ signed_decimal a
  reply_text version (Fds a b) = codes "fds " ++ (signed_decimal a ++ (codes " " ++ signed_decimal b))
  reply_text version (Count n false) = codes "count " ++ decimal n
  reply_text version (Count n true) = codes "count " ++ (decimal n ++ codes " sigpipe")
  reply_text version (Bytes bytes) = codes "data " ++ bytes_text version bytes
  reply_text version (Offset n) = codes "offset " ++ decimal n
  reply_text version (Flags mode flags) = codes "flags " ++ (mode_text mode ++ (codes " " ++ flags_text flags))
  reply_text version (Size n) = codes "size " ++ decimal n
  reply_text version (Masks ready masks) = codes "masks " ++ (decimal ready ++ flat_map (λ mask. codes " " ++ mask_text mask) masks)
  reply_text version Unit = codes "ok"
  reply_text version (Fault errno) = errno_text errno
  reply_text version (Parked c) = codes "parked " ++ decimal c
  reply_text version NoProcess = codes "no process"
  reply_text version NoCall = codes "no call"
  reply_text version CallsSpent = codes "calls spent"

  unfoldable pub outcome_text : Version → Outcome A → List ℕ
  outcome_text version (Replied reply) = reply_text version reply
  outcome_text version NoMemory = codes "nomem"
