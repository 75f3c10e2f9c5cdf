-- What a decision on a splice or a tee promises of its count, and what it is refused for.
use Rattle.std.specs.Prelude.{ℕ, nat_eq, ◌≤◌, Bool, true, false, not, ◌&&◌, ◌||◌, Option, is_some, if◌then◌else◌}
use Rattle.std.specs.declared.option.Option.TheVariants.{None, Some}
use Rattle.pl_model.specs.declared.cases.Source.{Source}
use Rattle.pl_model.specs.declared.cases.Target.{Target}
use Rattle.pl_model.specs.declared.cases.MoveCase.{MoveCase}
use Rattle.pl_model.specs.declared.cases.MoveCase.TheVariants.{Broken, EndOfInput, Waits, TooBig, Moves}
use Rattle.pl_model.specs.declared.node.Node.{Node}
use Rattle.pl_model.specs.declared.node.Node.TheVariants.{Pipe, File}
use Rattle.pl_model.specs.declared.replies.Errno.{Errno}
use Rattle.pl_model.specs.declared.replies.Errno.TheVariants.{EINVAL, ESPIPE}
use Rattle.pl_model.specs.Splice.{to_be_had, room_of}
use Rattle.pl_model.specs.Begin.{is_too_far}
use Rattle.pl_decisions.specs.declared.moves.SpliceSide.{SpliceSide}

-- at least one byte goes over, no more than were asked for, than the source has, and than there is room for
abbrev pub FitsBoth : MoveCase → Source → Target → (len : ℕ) → Type 0
FitsBoth (Moves k) source target len = (1 ≤ k) × (k ≤ len) × (k ≤ to_be_had source) × (k ≤ room_of target)
FitsBoth Broken source target len = Unit {0}
FitsBoth EndOfInput source target len = Unit {0}
FitsBoth Waits source target len = Unit {0}
FitsBoth TooBig source target len = Unit {0}

abbrev pub is_pipe : Node → Bool
is_pipe (Pipe p) = true
is_pipe (File f) = false

abbrev pub is_same_pipe : Node → Node → Bool
is_same_pipe (Pipe p) (Pipe q) = nat_eq p q
is_same_pipe (Pipe p) (File g) = false
is_same_pipe (File f) other = false

-- splice(2): ESPIPE of an offset that is given for a pipe; EINVAL of one that is too large, of two files, of the same pipe, and of a
-- file that is open with O_APPEND.
abbrev pub fault_of_splice : (from to : SpliceSide) → (appends : Bool) → Option Errno
fault_of_splice from to appends =
    if (is_pipe from.node && is_some from.given) || (is_pipe to.node && is_some to.given) then Some ESPIPE
    else (if is_too_far from.given || is_too_far to.given then Some EINVAL
    else (if not (is_pipe from.node) && not (is_pipe to.node) then Some EINVAL
    else (if is_same_pipe from.node to.node then Some EINVAL
    else (if not (is_pipe to.node) && appends then Some EINVAL else None))))

-- tee(2): EINVAL of what is no pipe, and of the same pipe.
abbrev pub fault_of_tee : (from to : Node) → Option Errno
fault_of_tee from to =
    if not (is_pipe from && is_pipe to) then Some EINVAL
    else (if is_same_pipe from to then Some EINVAL else None)
