-- The bits of flags on Linux.
use Rattle.std.specs.Prelude.{ℕ, ◌+◌, ◌==◌, nat_lt, bit_and, bit_or, Option, if◌then◌else◌}
use Rattle.std.specs.declared.option.Option.TheVariants.{None, Some}
use Rattle.pl_model.specs.declared.calls.Mode.{Mode}
use Rattle.pl_model.specs.declared.calls.Mode.TheVariants.{Read, Write, Both}
use Rattle.pl_model.specs.declared.flags.OpenFlags.{OpenFlags}
use Rattle.pl_model.specs.declared.flags.SpliceFlags.{SpliceFlags}
use Rattle.pl_model.specs.Flags.{has, creat, excl, trunc, append, nonblock, direct}
use Rattle.pl_model.specs.Poll.{bits_if}
use Rattle.pl_numbers.specs.declared.flags.PipeFlags.{PipeFlags}

-- fcntl.h, O_ACCMODE: O_RDONLY 0, O_WRONLY 1, O_RDWR 2
abbrev pub mode_of_bits : ℕ → Option Mode
mode_of_bits bits =
    let access = bit_and bits 3 in
    if access == 0 then Some Read
    else (if access == 1 then Some Write
    else (if access == 2 then Some Both else None))

-- fcntl.h: O_CREAT 64, O_EXCL 128, O_TRUNC 512, O_APPEND 1024, O_NONBLOCK 2048
abbrev pub open_flags_of_bits : ℕ → OpenFlags
open_flags_of_bits bits =
    record {
      0 =
          bit_or (bit_or (bit_or (bit_or
          (bits_if (has bits 64) creat)
          (bits_if (has bits 128) excl))
          (bits_if (has bits 512) trunc))
          (bits_if (has bits 1024) append))
          (bits_if (has bits 2048) nonblock);
    }

-- fcntl.h, SPLICE_F_MOVE 1, SPLICE_F_NONBLOCK 2, SPLICE_F_MORE 4, SPLICE_F_GIFT 8: the numbers are those of our own flags.
abbrev pub splice_flags_of_bits : ℕ → Option SpliceFlags
splice_flags_of_bits bits = if nat_lt 15 bits then None else Some (record { 0 = bits })

-- pipe2(2), EINVAL: O_NONBLOCK 2048 and O_DIRECT 16384 are there, or not, and no other bit.
abbrev pub pipe_flags_of_bits : ℕ → Option PipeFlags
pipe_flags_of_bits bits =
    if bits == bits_if (has bits 2048) 2048 + bits_if (has bits 16384) 16384
    then Some (record { nonblock = has bits 2048; direct = has bits 16384 }) else None

abbrev pub access_bits : Mode → ℕ
access_bits Read = 0
access_bits Write = 1
access_bits Both = 2

-- POSIX.1-2017, fcntl, F_GETFL: the access mode and the status flags; of a packet pipe's write end also O_DIRECT (pipe(2)).
abbrev pub status_bits : Mode → OpenFlags → ℕ
status_bits mode flags = access_bits mode + bits_if (has flags.0 append) 1024 + bits_if (has flags.0 nonblock) 2048 + bits_if (has flags.0 direct) 16384
