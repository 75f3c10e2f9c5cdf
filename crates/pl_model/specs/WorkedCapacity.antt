-- What the definitions answer of the capacities of pipes in small examples.
use Rattle.std.specs.Prelude.{◌≡◌, ℕ, pos, [], ◌∷◌, false, replicate, codes, Some, None}
use Rattle.pl_model.specs.declared.calls.Call.{Call}
use Rattle.pl_model.specs.declared.calls.Mode.{Mode}
use Rattle.pl_model.specs.declared.calls.Step.{Step}
use Rattle.pl_model.specs.declared.calls.Step.TheVariants.{Begin, Resume}
use Rattle.pl_model.specs.declared.replies.Reply.TheVariants.{Fd, Fds, Count, Bytes, Size, Unit, Fault, Parked}
use Rattle.pl_model.specs.declared.replies.Errno.TheVariants.{EAGAIN, EBADF, EBUSY, EPERM}
use Rattle.pl_model.specs.declared.script.Line.TheVariants.{Do}
use Rattle.pl_model.specs.declared.script.Version.TheVariants.{One}
use Rattle.pl_model.specs.Flags.{creat}
use Rattle.pl_model.specs.Lines.{line}
use Rattle.pl_model.specs.Worked.{pipe, pipe_nonblock, read, write, close, Answers, AnswersFrom, text, Prints}
use Rattle.pl_model.specs.WorkedFiles.{open_name}

module _ {A : Type 0} where
  -- what the process of pid 1 does
  abbrev pub get_pipe_sz : ℕ → Step A
  get_pipe_sz fd = Begin 1 (Call.GetPipeSz (pos fd))

  abbrev pub set_pipe_sz : ℕ → ℕ → Step A
  set_pipe_sz fd size = Begin 1 (Call.SetPipeSz (pos fd) size)

-- a size is rounded up, is at most 1,048,576 bytes, and isn't less than what is held
abbrev pub SizesAreRoundedUp : Type 0 → Type 0
SizesAreRoundedUp A =
    Answers A
    (pipe ∷ get_pipe_sz 0 ∷ set_pipe_sz 1 1 ∷ set_pipe_sz 1 65537 ∷ set_pipe_sz 1 1048577 ∷ write 1 (replicate 5000 97) ∷ set_pipe_sz 1 4096
    ∷ set_pipe_sz 1 5000 ∷ get_pipe_sz 0 ∷ set_pipe_sz 0 1048576 ∷ set_pipe_sz 0 0 ∷ read 0 904 ∷ set_pipe_sz 0 0 ∷ get_pipe_sz 1 ∷ [])
    (Fds (pos 0) (pos 1) ∷ Size 65536 ∷ Size 4096 ∷ Size 131072 ∷ Fault EPERM ∷ Count 5000 false ∷ Fault EBUSY
    ∷ Size 8192 ∷ Size 8192 ∷ Size 1048576 ∷ Fault EBUSY ∷ Bytes (replicate 904 97) ∷ Size 4096 ∷ Size 4096 ∷ [])

-- what isn't open, or is no pipe, is refused before a size is
abbrev pub OnlyPipesHaveACapacity : Type 0 → Type 0
OnlyPipesHaveACapacity A =
    Answers A
    (get_pipe_sz 0 ∷ set_pipe_sz 0 1048577 ∷ open_name (codes "f") Mode.Both creat ∷ get_pipe_sz 0 ∷ set_pipe_sz 0 1048577 ∷ pipe ∷ close 1
    ∷ set_pipe_sz 1 1 ∷ set_pipe_sz 2 1 ∷ [])
    (Fault EBADF ∷ Fault EBADF ∷ Fd (pos 0) ∷ Fault EBADF ∷ Fault EBADF ∷ Fds (pos 1) (pos 2) ∷ Unit
    ∷ Fault EBADF ∷ Size 4096 ∷ [])

-- there is room for as many bytes as the capacity says, and one that was set is that of this pipe alone
abbrev pub CapacityIsRoom : Type 0 → Type 0
CapacityIsRoom A =
    Answers A
    (pipe_nonblock ∷ set_pipe_sz 0 4096 ∷ write 1 (replicate 70000 97) ∷ write 1 (codes "b") ∷ set_pipe_sz 1 4097 ∷ write 1 (replicate 4096 98)
    ∷ write 1 (codes "b") ∷ set_pipe_sz 0 8192 ∷ pipe_nonblock ∷ get_pipe_sz 2 ∷ get_pipe_sz 0 ∷ [])
    (Fds (pos 0) (pos 1) ∷ Size 4096 ∷ Count 4096 false ∷ Fault EAGAIN ∷ Size 8192 ∷ Count 4096 false
    ∷ Fault EAGAIN ∷ Size 8192 ∷ Fds (pos 2) (pos 3) ∷ Size 65536 ∷ Size 8192 ∷ [])

-- a write that waits goes on where a greater capacity makes room
abbrev pub WaitingWriteGetsRoom : Type 0 → Type 0
WaitingWriteGetsRoom A =
    AnswersFrom A 1
    (pipe ∷ set_pipe_sz 1 1 ∷ write 1 (replicate 5000 97) ∷ Resume 1 ∷ set_pipe_sz 0 4097 ∷ Resume 1 ∷ read 0 9000 ∷ [])
    (Fds (pos 0) (pos 1) ∷ Size 4096 ∷ Parked 1 ∷ Parked 1 ∷ Size 8192 ∷ Count 5000 false ∷ Bytes (replicate 5000 97) ∷ [])

abbrev pub ScriptOfCapacities : Type 0 → Type 0
ScriptOfCapacities A =
    Prints A
    (text (
    codes "start" ∷ codes "1 pipe" ∷ codes "1 getsz 0" ∷ codes "1 setsz 1 065537" ∷ codes "1 setsz 1 4294967295" ∷ codes "1 write 1 5000*61"
    ∷ codes "1 setsz 0 4096" ∷ codes "1 getsz 7" ∷ codes "1 getsz 1" ∷ []))
    9
    (codes "pid 1" ∷ codes "fds 0 1" ∷ codes "size 65536" ∷ codes "size 131072" ∷ codes "EPERM" ∷ codes "count 5000"
    ∷ codes "EBUSY" ∷ codes "EBADF" ∷ codes "size 131072" ∷ [])

-- the lines that ask for a capacity, and those that ask for none
pub record LinesOfCapacities (A : Type 0) : Type 0 where
  pub tells : line {A = A} One (codes "2 getsz 3") ≡ Some (Some (Do (Begin 2 (Call.GetPipeSz (pos 3)))))
  pub sets : line {A = A} One (codes "2 setsz 3 4294967295") ≡ Some (Some (Do (Begin 2 (Call.SetPipeSz (pos 3) 4294967295))))
  pub too_large : line {A = A} One (codes "2 setsz 3 4294967296") ≡ None
  pub below_0 : line {A = A} One (codes "2 setsz 3 -1") ≡ None
  pub no_size : line {A = A} One (codes "2 setsz 3") ≡ None
  pub a_size : line {A = A} One (codes "2 getsz 3 4096") ≡ None
