-- What the definitions answer in small examples at the limits that are chosen when a kernel is made.
use Rattle.std.specs.Prelude.{◌≡◌, ℕ, pos, [], ◌∷◌, List, false, replicate, codes, None}
use Rattle.pl_model.specs.declared.calls.Limits.{Limits}
use Rattle.pl_model.specs.declared.calls.Call.{Call}
use Rattle.pl_model.specs.declared.calls.Mode.{Mode}
use Rattle.pl_model.specs.declared.calls.Step.{Step}
use Rattle.pl_model.specs.declared.calls.Step.TheVariants.{Start, Begin, Resume, Interrupt}
use Rattle.pl_model.specs.declared.replies.Reply.{Reply}
use Rattle.pl_model.specs.declared.replies.Reply.TheVariants.{Pid, Fd, Fds, Count, Bytes, Size, Unit, Fault, Parked}
use Rattle.pl_model.specs.declared.replies.Errno.TheVariants.{EAGAIN, EBADF, EEXIST, EINTR, EINVAL, EMFILE, ENFILE, ENOENT, ENOSPC, ENXIO, EPERM}
use Rattle.pl_model.specs.Numbers.{last_call}
use Rattle.pl_model.specs.Flags.{creat, nonblock, poll_in, poll_nval}
use Rattle.pl_model.specs.Numbered.{opening}
use Rattle.pl_model.specs.Run.{replies}
use Rattle.pl_model.specs.Worked.{usual, pipe, read, write, close, dup, dup2, dup_fd, fork, exit}
use Rattle.pl_model.specs.WorkedFiles.{open_name, unlink}
use Rattle.pl_model.specs.WorkedCapacity.{set_pipe_sz}
use Rattle.pl_model.specs.WorkedFifo.{mkfifo}
use Rattle.pl_model.specs.WorkedSplice.{splice, tee}
use Rattle.pl_model.specs.WorkedPoll.{poll_now, poll_wait, masks}

-- after the first step of a new kernel with these limits, which starts the process of pid 1, these steps have these replies
abbrev pub AnswersUnder : (A : Type 0) → Limits → List (Step A) → List (Reply A) → Type 0
AnswersUnder A limits steps wanted = replies (opening {A = A} limits) (Start ∷ steps) ≡ Pid 1 ∷ wanted

-- where two names are there, a third is refused, after all else that might be wrong with it; one may come where one went
abbrev pub NamesUpToTheLimit : Type 0 → Type 0
NamesUpToTheLimit A =
    (first_call file_max : ℕ) →
    AnswersUnder A
    (record (usual first_call file_max) { names_max = 2 })
    (mkfifo (codes "a") ∷ open_name (codes "b") Mode.Both creat ∷ mkfifo (codes "c") ∷ open_name (codes "c") Mode.Both creat ∷ mkfifo (codes "a") ∷ mkfifo []
    ∷ open_name (codes "c") Mode.Both 0 ∷ open_name (codes "b") Mode.Write creat ∷ unlink (codes "a") ∷ open_name (codes "c") Mode.Both creat ∷ mkfifo (codes "a") ∷ [])
    (Unit ∷ Fd (pos 0) ∷ Fault ENOSPC ∷ Fault ENOSPC ∷ Fault EEXIST ∷ Fault ENOENT
    ∷ Fault ENOENT ∷ Fd (pos 1) ∷ Unit ∷ Fd (pos 2) ∷ Fault ENOSPC ∷ [])

-- where one call waits, and no second one may, every call that would wait is refused and takes nothing, also a large write for a part
-- of which there is room
abbrev pub WaitingCallsUpToTheLimit : Type 0 → Type 0
WaitingCallsUpToTheLimit A =
    (file_max : ℕ) →
    AnswersUnder A
    (record (usual 1 file_max) { waiting_max = 1 })
    (pipe ∷ pipe ∷ mkfifo (codes "q") ∷ read 0 1 ∷ read 0 1 ∷ splice 0 None 3 None 5 ∷ tee 0 3 5
    ∷ poll_wait ((pos 0, poll_in) ∷ []) ∷ poll_now ((pos 0, poll_in) ∷ []) ∷ open_name (codes "q") Mode.Read 0 ∷ open_name (codes "q") Mode.Write nonblock
    ∷ write 1 (replicate 70000 97) ∷ write 1 (codes "b") ∷ Resume 1 ∷ read 0 1 ∷ Interrupt 2 ∷ [])
    (Fds (pos 0) (pos 1) ∷ Fds (pos 2) (pos 3) ∷ Unit ∷ Parked 1 ∷ Fault EAGAIN ∷ Fault EAGAIN ∷ Fault EAGAIN
    ∷ Fault EAGAIN ∷ masks 0 (0 ∷ []) ∷ Fault EAGAIN ∷ Fault ENXIO
    ∷ Fault EAGAIN ∷ Count 1 false ∷ Bytes (codes "b") ∷ Parked 2 ∷ Fault EINTR ∷ [])

-- a process of which one call waits, and no second one may, is refused each call that would wait; another process isn't
abbrev pub WaitingCallsOfEachUpToTheLimit : Type 0 → Type 0
WaitingCallsOfEachUpToTheLimit A =
    (file_max : ℕ) →
    AnswersUnder A
    (record (usual 1 file_max) { waiting_of_each = 1 })
    (pipe ∷ mkfifo (codes "q") ∷ fork ∷ read 0 1 ∷ read 0 1 ∷ poll_wait ((pos 0, poll_in) ∷ []) ∷ open_name (codes "q") Mode.Read 0
    ∷ Begin 2 (Call.Read (pos 0) 1) ∷ Begin 2 (Call.Read (pos 0) 1) ∷ Interrupt 1 ∷ read 0 1 ∷ [])
    (Fds (pos 0) (pos 1) ∷ Unit ∷ Pid 2 ∷ Parked 1 ∷ Fault EAGAIN ∷ Fault EAGAIN ∷ Fault EAGAIN
    ∷ Parked 2 ∷ Fault EAGAIN ∷ Fault EINTR ∷ Parked 3 ∷ [])

-- that too many calls wait comes before that no number is left
abbrev pub NoCallMayWait : Type 0 → Type 0
NoCallMayWait A =
    (file_max : ℕ) →
    AnswersUnder A
    (record (usual last_call file_max) { waiting_max = 0 })
    (pipe ∷ read 0 1 ∷ write 1 (codes "a") ∷ read 0 1 ∷ [])
    (Fds (pos 0) (pos 1) ∷ Fault EAGAIN ∷ Count 1 false ∷ Bytes (codes "a") ∷ [])

-- what a size is rounded up to is within the limit
abbrev pub CapacitiesUpToTheLimit : Type 0 → Type 0
CapacitiesUpToTheLimit A =
    (first_call file_max : ℕ) →
    AnswersUnder A
    (record (usual first_call file_max) { capacity_max = 100000 })
    (pipe ∷ set_pipe_sz 0 65536 ∷ set_pipe_sz 1 65537 ∷ set_pipe_sz 1 100001 ∷ set_pipe_sz 1 1048577 ∷ set_pipe_sz 1 4096 ∷ [])
    (Fds (pos 0) (pos 1) ∷ Size 65536 ∷ Fault EPERM ∷ Fault EPERM ∷ Fault EPERM ∷ Size 4096 ∷ [])

-- where a process may have three descriptors, no fourth one is given, and none from the limit on; they are found to be open all the same
abbrev pub DescriptorsUpToTheLimit : Type 0 → Type 0
DescriptorsUpToTheLimit A =
    (first_call file_max : ℕ) →
    AnswersUnder A
    (record (usual first_call file_max) { descriptors_max = 3 })
    (pipe ∷ pipe ∷ dup 0 ∷ dup 0 ∷ open_name (codes "f") Mode.Both creat ∷ dup_fd 0 1 ∷ dup_fd 0 3 ∷ dup2 0 3 ∷ dup2 1 2 ∷ close 1 ∷ pipe
    ∷ open_name (codes "f") Mode.Both creat ∷ poll_now ((pos 2, poll_in) ∷ (pos 3, poll_in) ∷ (pos 1, poll_in) ∷ (pos 0, poll_in) ∷ []) ∷ [])
    (Fds (pos 0) (pos 1) ∷ Fault EMFILE ∷ Fd (pos 2) ∷ Fault EMFILE ∷ Fault EMFILE ∷ Fault EMFILE ∷ Fault EINVAL ∷ Fault EBADF ∷ Fd (pos 2) ∷ Unit ∷ Fault EMFILE
    ∷ Fd (pos 1) ∷ masks 2 (0 ∷ poll_nval ∷ poll_in ∷ 0 ∷ []) ∷ [])

-- a limit of 0 gives none, and one above 65,536 gives 65,536
abbrev pub DescriptorsAtTheEnds : Type 0 → Type 0
DescriptorsAtTheEnds A =
    (first_call file_max : ℕ) →
    AnswersUnder A (record (usual first_call file_max) { descriptors_max = 0 }) (pipe ∷ open_name (codes "f") Mode.Both creat ∷ []) (Fault EMFILE ∷ Fault EMFILE ∷ [])
    × AnswersUnder A (record (usual first_call file_max) { descriptors_max = 100000 }) (pipe ∷ dup_fd 0 65535 ∷ dup_fd 0 65535 ∷ dup2 0 65536 ∷ []) (Fds (pos 0) (pos 1) ∷ Fd (pos 65535) ∷ Fault EMFILE ∷ Fault EBADF ∷ [])

-- where three descriptions may be live, a fourth one is refused, and one may come where one went
abbrev pub DescriptionsUpToTheLimit : Type 0 → Type 0
DescriptionsUpToTheLimit A =
    (first_call file_max : ℕ) →
    AnswersUnder A
    (record (usual first_call file_max) { descriptions_max = 3 })
    (pipe ∷ pipe ∷ open_name (codes "f") Mode.Both creat ∷ open_name (codes "f") Mode.Read 0 ∷ dup 0 ∷ close 0 ∷ open_name (codes "f") Mode.Read 0
    ∷ close 3 ∷ open_name (codes "f") Mode.Read 0 ∷ [])
    (Fds (pos 0) (pos 1) ∷ Fault ENFILE ∷ Fd (pos 2) ∷ Fault ENFILE ∷ Fd (pos 3) ∷ Unit ∷ Fault ENFILE
    ∷ Unit ∷ Fd (pos 0) ∷ [])

-- where there may be two processes, a third one is refused, and one may come where one ended
abbrev pub ProcessesUpToTheLimit : Type 0 → Type 0
ProcessesUpToTheLimit A =
    (first_call file_max : ℕ) →
    AnswersUnder A
    (record (usual first_call file_max) { processes_max = 2 })
    (Start ∷ Start ∷ fork ∷ exit 2 ∷ fork ∷ Start ∷ [])
    (Pid 2 ∷ Fault EAGAIN ∷ Fault EAGAIN ∷ Unit ∷ Pid 2 ∷ Fault EAGAIN ∷ [])

-- a poll has as many entries as a process may have descriptors, and 256 where those are fewer
abbrev pub EntriesUpToTheLimit : Type 0 → Type 0
EntriesUpToTheLimit A =
    (first_call file_max : ℕ) →
    AnswersUnder A
    (record (usual first_call file_max) { descriptors_max = 300 })
    (pipe ∷ poll_now (replicate 300 (pos 0, poll_in)) ∷ poll_now (replicate 301 (pos 0, poll_in)) ∷ [])
    (Fds (pos 0) (pos 1) ∷ masks 0 (replicate 300 0) ∷ Fault EINVAL ∷ [])
    × AnswersUnder A
    (record (usual first_call file_max) { descriptors_max = 2 })
    (pipe ∷ poll_now (replicate 256 (pos 0, poll_in)) ∷ poll_now (replicate 257 (pos 0, poll_in)) ∷ [])
    (Fds (pos 0) (pos 1) ∷ masks 0 (replicate 256 0) ∷ Fault EINVAL ∷ [])
