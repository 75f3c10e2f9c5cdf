-- The numbers of errors.
use Rattle.std.specs.Prelude.{ℕ}
use Rattle.pl_model.specs.declared.replies.Errno.{Errno}
use Rattle.pl_model.specs.declared.replies.Errno.TheVariants.{EAGAIN, EBADF, EBUSY, EEXIST, EFBIG, EINTR, EINVAL, EMFILE, ENAMETOOLONG, ENFILE, ENOENT, ENOSPC, ENXIO, EOVERFLOW, EPERM, EPIPE, ESPIPE}

-- errno.h on Linux
abbrev pub number : Errno → ℕ
number EPERM = 1
number ENOENT = 2
number EINTR = 4
number ENXIO = 6
number EBADF = 9
number EAGAIN = 11
number EBUSY = 16
number EEXIST = 17
number EINVAL = 22
number ENFILE = 23
number EMFILE = 24
number EFBIG = 27
number ENOSPC = 28
number ESPIPE = 29
number EPIPE = 32
number ENAMETOOLONG = 36
number EOVERFLOW = 75
