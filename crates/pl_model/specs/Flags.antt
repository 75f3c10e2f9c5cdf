-- The bits of flags, and their names in scripts.
use Rattle.std.specs.Prelude.{ℕ, ◌+◌, List, [], ◌∷◌, ◌++◌, Bool, ◌==◌, codes, bit_and, bit_or, if◌then◌else◌}
use Rattle.pl_model.specs.declared.flags.OpenFlags.{OpenFlags}
use Rattle.pl_model.specs.declared.flags.PollMask.{PollMask}

-- whether the set has the flag of this bit
abbrev pub has : ℕ → ℕ → Bool
has set flag = bit_and set flag == flag

-- POSIX.1-2017, open, O_CREAT: a file that isn't there is made.
abbrev pub creat : ℕ
creat = 1

-- POSIX.1-2017, open, O_EXCL: with O_CREAT, a file that is there is refused.
abbrev pub excl : ℕ
excl = 2

-- POSIX.1-2017, open, O_TRUNC: a file that is opened for writing loses its bytes.
abbrev pub trunc : ℕ
trunc = 4

-- POSIX.1-2017, open, O_APPEND: each write starts at the end of the file.
abbrev pub append : ℕ
append = 8

-- POSIX.1-2017, open, O_NONBLOCK: no call waits.
abbrev pub nonblock : ℕ
nonblock = 16

-- pipe(2), O_DIRECT: the pipe is in packet mode.
abbrev pub direct : ℕ
direct = 32

-- A flag and its name in scripts (our own).
abbrev pub named_append : ℕ × List ℕ
named_append = (append, codes "append")

abbrev pub named_nonblock : ℕ × List ℕ
named_nonblock = (nonblock, codes "nonblock")

abbrev pub named_direct : ℕ × List ℕ
named_direct = (direct, codes "direct")

-- those that both a line that opens and a reply name
abbrev pub names_of_both : List (ℕ × List ℕ)
names_of_both = named_append ∷ named_nonblock ∷ []

-- what a line may name, as a file is opened and as flags are set; `direct` is not among them
abbrev pub open_names : List (ℕ × List ℕ)
open_names = (creat, codes "creat") ∷ (excl, codes "excl") ∷ (trunc, codes "trunc") ∷ names_of_both

-- what a description can have, in the order in which it is shown
abbrev pub status_names : List (ℕ × List ℕ)
status_names = names_of_both ++ (named_direct ∷ [])

-- what a line of version 2 may name, as a pipe is made
abbrev pub pipe_names : List (ℕ × List ℕ)
pipe_names = named_nonblock ∷ named_direct ∷ []

-- splice(2), SPLICE_F_MOVE: pages are moved where they can be; it has no effect (the last: our own).
abbrev pub splice_move : ℕ
splice_move = 1

-- splice(2), SPLICE_F_NONBLOCK: the call doesn't wait for a pipe.
abbrev pub splice_nonblock : ℕ
splice_nonblock = 2

-- splice(2), SPLICE_F_MORE: more will come; it has no effect (the last: our own).
abbrev pub splice_more : ℕ
splice_more = 4

-- splice(2), SPLICE_F_GIFT: it has no effect on a splice, nor on a tee.
abbrev pub splice_gift : ℕ
splice_gift = 8

-- what a line may name, as bytes are spliced
abbrev pub splice_names : List (ℕ × List ℕ)
splice_names = (splice_move, codes "move") ∷ (splice_nonblock, codes "nonblock") ∷ (splice_more, codes "more") ∷ (splice_gift, codes "gift") ∷ []

-- POSIX.1-2017, poll, POLLIN: data may be read.
abbrev pub poll_in : ℕ
poll_in = 1

-- POSIX.1-2017, poll, POLLOUT: data may be written.
abbrev pub poll_out : ℕ
poll_out = 4

-- POSIX.1-2017, poll, POLLERR: nobody can read what would be written.
abbrev pub poll_err : ℕ
poll_err = 8

-- POSIX.1-2017, poll, POLLHUP: every writer has left.
abbrev pub poll_hup : ℕ
poll_hup = 16

-- POSIX.1-2017, poll, POLLNVAL: the descriptor isn't open.
abbrev pub poll_nval : ℕ
poll_nval = 32

-- what a mask can have, in the order in which it is shown
abbrev pub mask_names : List (ℕ × List ℕ)
mask_names = (poll_in, codes "in") ∷ (poll_out, codes "out") ∷ (poll_err, codes "err") ∷ (poll_hup, codes "hup") ∷ (poll_nval, codes "nval") ∷ []

-- POSIX.1-2017, fcntl, F_SETFL: the file status flags that a description keeps, among any flags.
abbrev pub status_flags : OpenFlags → OpenFlags
status_flags flags = record { 0 = bit_and flags.0 (append + nonblock) }

abbrev pub no_flags : OpenFlags
no_flags = record { 0 = 0 }

abbrev pub no_mask : PollMask
no_mask = record { 0 = 0 }

-- POSIX.1-2017, fcntl, F_SETFL: the flags of a description that had others. That O_DIRECT stays as it was is our own choice.
abbrev pub flags_set : (old new : OpenFlags) → OpenFlags
flags_set old new = record { 0 = bit_or (bit_and new.0 (append + nonblock)) (bit_and old.0 direct) }

abbrev pub nonblock_if : Bool → OpenFlags
nonblock_if b = record { 0 = if b then nonblock else 0 }

-- pipe(2), O_NONBLOCK and O_DIRECT: the flags of the write end. That the read end never has O_DIRECT is our own choice.
abbrev pub write_end_flags : (nonblocking packets : Bool) → OpenFlags
write_end_flags nonblocking packets = record { 0 = bit_or (nonblock_if nonblocking).0 (if packets then direct else 0) }
