-- What an answer in numbers says.
use Rattle.std.specs.Prelude.{ℕ, pos, Bool, true, false, length, unsigned_abs}
use Rattle.pl_model.specs.declared.replies.Errno.{Errno}
use Rattle.pl_model.specs.declared.replies.Errno.TheVariants.{EPIPE}
use Rattle.pl_model.specs.declared.replies.Reply.{Reply}
use Rattle.pl_model.specs.declared.replies.Reply.TheVariants.{Pid, Fd, Fds, Count, Bytes, Offset, Flags, Size, Masks, Unit, Fault, Parked, NoProcess, NoCall, CallsSpent}
use Rattle.pl_numbers.specs.declared.answer.Answer.{Answer}
use Rattle.pl_numbers.specs.declared.answer.Ends.{Ends}
use Rattle.pl_numbers.specs.Errors.{number}
use Rattle.pl_numbers.specs.Flags.{status_bits}

-- the number of the kind of a call that waits, and those of the kinds that are no reply
abbrev pub parked : ℕ
parked = 2

abbrev pub no_memory : ℕ
no_memory = 6

abbrev pub short : ℕ
short = 7

-- an answer that is no error
abbrev pub plain : (value kind : ℕ) → Answer
plain value kind = record { value = value; error = pos 0; kind = kind; sigpipe = false; moved = false }

-- POSIX.1-2017, write, EPIPE: the signal comes with it
abbrev pub is_broken : Errno → Bool
is_broken EPIPE = true
is_broken other = false

abbrev pub faulty : Errno → Answer
faulty e = record { value = 0; error = pos (number e); kind = 1; sigpipe = is_broken e; moved = false }

-- The answer that says a reply. A reply doesn't tell whether bytes moved: moved is false.
abbrev pub said : {A : Type 0} → Reply A → Answer
said (Pid pid) = plain pid 0
said (Fd fd) = plain (unsigned_abs fd) 0
said (Fds reader writer) = plain 0 0
said (Count n sigpipe) = record { value = n; error = pos 0; kind = 0; sigpipe = sigpipe; moved = false }
said (Bytes bytes) = plain (length bytes) 0
said (Offset offset) = plain offset 0
said (Flags mode flags) = plain (status_bits mode flags) 0
said (Size size) = plain size 0
said (Masks ready masks) = plain ready 0
said Unit = plain 0 0
said (Fault e) = faulty e
said (Parked n) = plain n parked
said NoProcess = plain 0 3
said NoCall = plain 0 4
said CallsSpent = plain 0 5

-- POSIX.1-2017, pipe: the ends are told, or what stood there stays
abbrev pub ends_after : {A : Type 0} → Ends → Reply A → Ends
ends_after old (Fds reader writer) = record { read_end = reader; write_end = writer }
ends_after old other = old
