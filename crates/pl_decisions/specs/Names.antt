-- What a name is refused for.
use Rattle.std.specs.Prelude.{ℕ, Bool, not, ◌&&◌, ◌==◌, nat_lt, List, length, Option, if◌then◌else◌}
use Rattle.std.specs.List.{list_any}
use Rattle.std.specs.declared.option.Option.TheVariants.{None, Some}
use Rattle.pl_model.specs.declared.replies.Errno.{Errno}
use Rattle.pl_model.specs.declared.replies.Errno.TheVariants.{EEXIST, EINVAL, ENAMETOOLONG, ENOENT}
use Rattle.pl_model.specs.Numbers.{most_name_bytes}
use Rattle.pl_model.specs.Keys.{Keys}
use Rattle.pl_model.specs.Trial.{Begins, refused}
use Rattle.pl_model.specs.Begin.{is_never_in_name}

-- POSIX.1-2017, open and unlink: ENOENT of an empty name, ENAMETOOLONG. That a slash or a NUL is EINVAL is our own choice.
abbrev pub fault_of_name : List ℕ → Option Errno
fault_of_name name =
    if length name == 0 then Some ENOENT
    else (if nat_lt most_name_bytes (length name) then Some ENAMETOOLONG
    else (if list_any is_never_in_name name then Some EINVAL else None))

-- POSIX.1-2017, open: EEXIST, ENOENT. That O_EXCL has no effect without O_CREAT is our own choice.
abbrev pub fault_of_open : (is_there creates is_exclusive : Bool) → Option Errno
fault_of_open is_there creates is_exclusive =
    if is_there && (creates && is_exclusive) then Some EEXIST
    else (if not is_there && not creates then Some ENOENT else None)

-- where there is a fault, it answers
abbrev pub unless_fault : {A : Type 0} {K : Keys} → Option Errno → Begins A K → Begins A K
unless_fault None next = next
unless_fault (Some errno) next = refused errno
