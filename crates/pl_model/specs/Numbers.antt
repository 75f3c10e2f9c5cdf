-- The numbers of the layer.
use Rattle.std.specs.Prelude.{ℕ, zero, suc, ◌+◌, ◌/◌, min, Bool, true, false, List, [], ◌∷◌, Option}
use Rattle.std.specs.declared.option.Option.TheVariants.{None, Some}

-- POSIX.1-2017, limits.h, and pipe(7): a write of at most PIPE_BUF bytes goes in whole.
abbrev pub pipe_buf : ℕ
pipe_buf = 4096

-- pipe(7), Pipe capacity: the bytes that a new pipe can hold.
abbrev pub first_capacity : ℕ
first_capacity = 65536

-- fcntl(2), F_SETPIPE_SZ: the fewest bytes that a pipe can be made to hold, those of a page.
abbrev pub least_capacity : ℕ
least_capacity = 4096

-- pipe(7), /proc/sys/fs/pipe-max-size: the most bytes that a pipe can be made to hold.
abbrev pub most_capacity : ℕ
most_capacity = 1048576

-- POSIX.1-2017, limits.h, OPEN_MAX: the descriptors of a process, numbered from 0, if no limit is chosen.
abbrev pub open_max : ℕ
open_max = 256

-- Our own: the greatest limit on the descriptors of a process.
abbrev pub most_descriptors : ℕ
most_descriptors = 65536

-- Our own: the descriptions that are live at one time, if no limit is chosen.
abbrev pub usual_descriptions : ℕ
usual_descriptions = 4096

-- Our own: the greatest limit on them.
abbrev pub most_descriptions : ℕ
most_descriptions = 1048576

-- Our own: the processes at one time, with pids from 1 on, if no limit is chosen.
abbrev pub usual_processes : ℕ
usual_processes = 1024

-- Our own: the greatest limit on them.
abbrev pub most_processes : ℕ
most_processes = 65536

-- Our own: the bytes of one write.
abbrev pub most_bytes : ℕ
most_bytes = 16777216

-- Our own: the greatest limit on the bytes of a regular file.
abbrev pub most_file_bytes : ℕ
most_file_bytes = 16777216

-- POSIX.1-2017, limits.h, NAME_MAX: the bytes of a name.
abbrev pub most_name_bytes : ℕ
most_name_bytes = 255

-- POSIX.1-2017, lseek, EOVERFLOW: the greatest offset, as one fits 64 bits with a sign.
abbrev pub greatest_offset : ℕ
greatest_offset = 9223372036854775807

-- Our own: the bytes of a script.
abbrev pub most_script_bytes : ℕ
most_script_bytes = 16777216

-- Our own: the reads of a script, each of which but the last gives a byte at least.
abbrev pub most_reads : ℕ
most_reads = most_script_bytes + 1

-- Our own: parked calls have numbers below this one, the greatest of 64 bits.
abbrev pub last_call : ℕ
last_call = 18446744073709551615

-- Our own: a limit that is never reached, the greatest number of 64 bits.
abbrev pub no_limit : ℕ
no_limit = 18446744073709551615

-- Our own: the bytes of memory that are kept for further bytes of pipes and files, if nobody says how many, where a kernel may hold so many.
abbrev pub usual_spare : ℕ → ℕ
usual_spare memory = min (memory / 16) most_file_bytes

-- the first of the n numbers from k on that passes the test
unfoldable pub first_from : (ℕ → Bool) → ℕ → ℕ → Option ℕ
first_from test zero k = None
first_from test (suc n) k = elim (test k) [ true ↦ Some k | false ↦ first_from test n (k + 1) ]

-- the n numbers from k on
unfoldable pub numbers_from : ℕ → ℕ → List ℕ
numbers_from zero k = []
numbers_from (suc n) k = k ∷ numbers_from n (k + 1)
