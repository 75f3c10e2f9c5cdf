-- To what the capacity of a pipe is set.
use Rattle.std.specs.Prelude.{ℕ, nat_lt, ◌||◌, Result, Ok, Err, if◌then◌else◌}
use Rattle.pl_model.specs.declared.replies.Errno.{Errno}
use Rattle.pl_model.specs.declared.replies.Errno.TheVariants.{EBUSY, EPERM}
use Rattle.pl_model.specs.Numbers.{most_capacity}
use Rattle.pl_model.specs.Capacity.{rounded_capacity}

-- fcntl(2), F_SETPIPE_SZ: the size rounded up, EPERM above the greatest capacity and above the limit, EBUSY where more bytes are held.
abbrev pub capacity_set : (size held limit : ℕ) → Result ℕ Errno
capacity_set size held limit =
    if nat_lt most_capacity size || nat_lt limit (rounded_capacity size) then Err EPERM
    else (if nat_lt (rounded_capacity size) held then Err EBUSY else Ok (rounded_capacity size))
