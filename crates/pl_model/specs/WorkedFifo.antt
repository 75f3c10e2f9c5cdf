-- What the definitions answer of FIFOs in small examples.
use Rattle.std.specs.Prelude.{◌≡◌, ◌-◌, List, ℕ, pos, [], ◌∷◌, false, codes, Some, None}
use Rattle.pl_model.specs.declared.calls.Call.{Call}
use Rattle.pl_model.specs.declared.calls.Mode.{Mode}
use Rattle.pl_model.specs.declared.calls.Step.{Step}
use Rattle.pl_model.specs.declared.calls.Step.TheVariants.{Begin, Resume, Interrupt}
use Rattle.pl_model.specs.declared.replies.Reply.TheVariants.{Fd, Count, Bytes, Size, Unit, Fault, Parked, NoCall, CallsSpent}
use Rattle.pl_model.specs.declared.replies.Errno.TheVariants.{EAGAIN, EEXIST, EINTR, ENXIO}
use Rattle.pl_model.specs.declared.script.Line.TheVariants.{Do}
use Rattle.pl_model.specs.declared.script.Version.TheVariants.{One}
use Rattle.pl_model.specs.Numbers.{last_call}
use Rattle.pl_model.specs.Flags.{nonblock}
use Rattle.pl_model.specs.Lines.{line}
use Rattle.pl_model.specs.Worked.{read, write, close, no_bytes, Answers, AnswersFrom}
use Rattle.pl_model.specs.WorkedFiles.{open_name}
use Rattle.pl_model.specs.WorkedCapacity.{get_pipe_sz, set_pipe_sz}

module _ {A : Type 0} where
  -- what the process of pid 1 does
  abbrev pub mkfifo : List ℕ → Step A
  mkfifo name = Begin 1 (Call.Mkfifo name)

-- a FIFO that is open for both is its own other end, and one that no end has forgets its bytes and its capacity
abbrev pub UnusedFifoForgets : Type 0 → Type 0
UnusedFifoForgets A =
    Answers A
    (mkfifo (codes "q") ∷ mkfifo (codes "q") ∷ open_name (codes "q") Mode.Both nonblock ∷ set_pipe_sz 0 4096 ∷ write 0 (codes "hello") ∷ read 0 2 ∷ close 0
    ∷ open_name (codes "q") Mode.Both nonblock ∷ get_pipe_sz 0 ∷ read 0 9 ∷ [])
    (Unit ∷ Fault EEXIST ∷ Fd (pos 0) ∷ Size 4096 ∷ Count 5 false ∷ Bytes (codes "he") ∷ Unit
    ∷ Fd (pos 0) ∷ Size 65536 ∷ Fault EAGAIN ∷ [])

-- an open for writing that may not wait needs a reader, one for reading needs no writer
abbrev pub OpensWithoutTheOtherEnd : Type 0 → Type 0
OpensWithoutTheOtherEnd A =
    Answers A
    (mkfifo (codes "q") ∷ open_name (codes "q") Mode.Write nonblock ∷ open_name (codes "q") Mode.Read nonblock ∷ open_name (codes "q") Mode.Write 0
    ∷ write 1 (codes "ab") ∷ close 1 ∷ read 0 9 ∷ read 0 9 ∷ [])
    (Unit ∷ Fault ENXIO ∷ Fd (pos 0) ∷ Fd (pos 1)
    ∷ Count 2 false ∷ Unit ∷ Bytes (codes "ab") ∷ no_bytes ∷ [])

-- opens for reading wait until one for writing meets them all, and then take the least free descriptors, in the order in which
-- they are tried again
abbrev pub ReadersWaitForAWriter : Type 0 → Type 0
ReadersWaitForAWriter A =
    AnswersFrom A 1
    (mkfifo (codes "q") ∷ open_name (codes "q") Mode.Read 0 ∷ open_name (codes "q") Mode.Read 0 ∷ Resume 1 ∷ open_name (codes "q") Mode.Write 0 ∷ Resume 2 ∷ Resume 1
    ∷ write 0 (codes "ab") ∷ read 1 1 ∷ read 2 9 ∷ Resume 1 ∷ [])
    (Unit ∷ Parked 1 ∷ Parked 2 ∷ Parked 1 ∷ Fd (pos 0) ∷ Fd (pos 1) ∷ Fd (pos 2)
    ∷ Count 2 false ∷ Bytes (codes "a") ∷ Bytes (codes "b") ∷ NoCall ∷ [])

-- an open for writing that is interrupted is an end no more, so one for reading waits; to another open for writing it is a reader
abbrev pub InterruptedOpen : Type 0 → Type 0
InterruptedOpen A =
    AnswersFrom A 1
    (mkfifo (codes "q") ∷ open_name (codes "q") Mode.Write 0 ∷ Interrupt 1 ∷ open_name (codes "q") Mode.Read 0 ∷ Resume 1 ∷ open_name (codes "q") Mode.Write nonblock ∷ Resume 2 ∷ [])
    (Unit ∷ Parked 1 ∷ Fault EINTR ∷ Parked 2 ∷ NoCall ∷ Fd (pos 0) ∷ Fd (pos 1) ∷ [])

-- an open that met its other end stays met, though that end is closed before the open is tried again
abbrev pub MetThoughClosed : Type 0 → Type 0
MetThoughClosed A =
    AnswersFrom A 1
    (mkfifo (codes "q") ∷ open_name (codes "q") Mode.Read 0 ∷ open_name (codes "q") Mode.Write 0 ∷ write 0 (codes "a") ∷ close 0 ∷ Resume 1 ∷ read 0 9 ∷ read 0 9 ∷ [])
    (Unit ∷ Parked 1 ∷ Fd (pos 0) ∷ Count 1 false ∷ Unit ∷ Fd (pos 0) ∷ Bytes (codes "a") ∷ no_bytes ∷ [])

-- the open that takes the last number waits, and the next finds no number left; one for both needs none, and meets it
abbrev pub LastOpenThatWaits : Type 0 → Type 0
LastOpenThatWaits A =
    AnswersFrom A (last_call - 1)
    (mkfifo (codes "q") ∷ open_name (codes "q") Mode.Read 0 ∷ open_name (codes "q") Mode.Read 0 ∷ Resume (last_call - 1) ∷ open_name (codes "q") Mode.Both 0 ∷ Resume (last_call - 1) ∷ [])
    (Unit ∷ Parked (last_call - 1) ∷ CallsSpent ∷ Parked (last_call - 1) ∷ Fd (pos 0) ∷ Fd (pos 1) ∷ [])

-- the lines that make a FIFO, and those that make none
pub record LinesOfFifos (A : Type 0) : Type 0 where
  pub makes : line {A = A} One (codes "1 mkfifo q") ≡ Some (Some (Do (Begin 1 (Call.Mkfifo (codes "q")))))
  pub no_name : line {A = A} One (codes "1 mkfifo") ≡ None
  pub two_names : line {A = A} One (codes "1 mkfifo a b") ≡ None
