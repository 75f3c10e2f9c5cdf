-- What the definitions answer in small examples, for any limits.
use Rattle.std.specs.Prelude.{◌≡◌, ℕ, ◌+◌, pos, negsuc, List, [], ◌∷◌, ◌++◌, true, false, replicate, codes, map}
use Rattle.std.specs.List.{flat_map}
use Rattle.pl_model.specs.declared.calls.Call.{Call}
use Rattle.pl_model.specs.declared.calls.Limits.{Limits}
use Rattle.pl_model.specs.declared.calls.Mode.{Mode}
use Rattle.pl_model.specs.declared.calls.Step.{Step}
use Rattle.pl_model.specs.declared.calls.Step.TheVariants.{Start, Begin, Resume, Interrupt}
use Rattle.pl_model.specs.declared.cases.WriteCase.{WriteCase}
use Rattle.pl_model.specs.declared.replies.Reply.{Reply}
use Rattle.pl_model.specs.declared.replies.Reply.TheVariants.{Pid, Fd, Fds, Count, Bytes, Flags, Unit, Fault, Parked, NoProcess, NoCall, CallsSpent}
use Rattle.pl_model.specs.declared.replies.Errno.TheVariants.{EAGAIN, EBADF, EINTR, EINVAL, EMFILE, EPIPE}
use Rattle.pl_model.specs.Numbers.{most_capacity, most_file_bytes, no_limit, open_max, usual_descriptions, usual_processes, numbers_from}
use Rattle.pl_model.specs.Flags.{append, nonblock, trunc, no_flags}
use Rattle.pl_model.specs.Transfer.{write_case}
use Rattle.pl_model.specs.Numbered.{opening}
use Rattle.pl_model.specs.Run.{replies}
use Rattle.pl_model.specs.Script.{output}

module _ {A : Type 0} where
  -- what the process of pid 1 does
  abbrev pub pipe : Step A
  pipe = Begin 1 (Call.Pipe false false)

  abbrev pub pipe_nonblock : Step A
  pipe_nonblock = Begin 1 (Call.Pipe true false)

  abbrev pub read : ℕ → ℕ → Step A
  read fd n = Begin 1 (Call.Read (pos fd) n)

  abbrev pub write : ℕ → List ℕ → Step A
  write fd bytes = Begin 1 (Call.Write (pos fd) bytes)

  abbrev pub close : ℕ → Step A
  close fd = Begin 1 (Call.Close (pos fd))

  abbrev pub dup : ℕ → Step A
  dup fd = Begin 1 (Call.Dup (pos fd))

  abbrev pub dup2 : ℕ → ℕ → Step A
  dup2 fd target = Begin 1 (Call.Dup2 (pos fd) (pos target))

  abbrev pub dup_fd : ℕ → ℕ → Step A
  dup_fd fd least = Begin 1 (Call.DupFd (pos fd) (pos least))

  abbrev pub get_fl : ℕ → Step A
  get_fl fd = Begin 1 (Call.GetFl (pos fd))

  abbrev pub set_fl : ℕ → ℕ → Step A
  set_fl fd flags = Begin 1 (Call.SetFl (pos fd) (record { 0 = flags }))

  abbrev pub fork : Step A
  fork = Begin 1 Call.Fork

  abbrev pub exit : ℕ → Step A
  exit pid = Begin pid Call.Exit

  -- end of file, or a read of 0 bytes
  abbrev pub no_bytes : Reply A
  no_bytes = Bytes []

-- limits that nothing reaches but these two
abbrev pub usual : (first_call file_max : ℕ) → Limits
usual first_call file_max = record {
  first_call = first_call;
  file_max = file_max;
  names_max = no_limit;
  waiting_max = no_limit;
  waiting_of_each = no_limit;
  capacity_max = most_capacity;
  descriptors_max = open_max;
  descriptions_max = usual_descriptions;
  processes_max = usual_processes;
  spare_max = most_file_bytes;
}

-- after a new kernel's first step, which starts the process of pid 1, these steps have these replies
abbrev pub Answers : (A : Type 0) → List (Step A) → List (Reply A) → Type 0
Answers A steps wanted = (limits : Limits) → replies (opening {A = A} (usual limits.first_call limits.file_max)) (Start ∷ steps) ≡ Pid 1 ∷ wanted

abbrev pub BytesBeforeEndOfFile : Type 0 → Type 0
BytesBeforeEndOfFile A =
    Answers A
    (pipe ∷ write 1 (codes "hello") ∷ read 0 3 ∷ read 0 10 ∷ close 1 ∷ read 0 10 ∷ [])
    (Fds (pos 0) (pos 1) ∷ Count 5 false ∷ Bytes (codes "hel") ∷ Bytes (codes "lo") ∷ Unit ∷ no_bytes ∷ [])

abbrev pub PartialAndWholeNotWaiting : Type 0 → Type 0
PartialAndWholeNotWaiting A =
    Answers A
    (pipe_nonblock ∷ read 0 1 ∷ write 1 (replicate 70000 97) ∷ read 0 5000 ∷ write 1 (replicate 70000 98) ∷ write 1 (99 ∷ []) ∷ [])
    (Fds (pos 0) (pos 1) ∷ Fault EAGAIN ∷ Count 65536 false ∷ Bytes (replicate 5000 97) ∷ Count 5000 false ∷ Fault EAGAIN ∷ [])

-- a read of 0 bytes answers none and takes none, also from a pipe without writers
abbrev pub ReadOfNothing : Type 0 → Type 0
ReadOfNothing A =
    Answers A
    (pipe ∷ read 0 0 ∷ write 1 (codes "a") ∷ read 0 0 ∷ close 1 ∷ read 0 0 ∷ read 0 1 ∷ [])
    (Fds (pos 0) (pos 1) ∷ no_bytes ∷ Count 1 false ∷ no_bytes ∷ Unit ∷ no_bytes ∷ Bytes (codes "a") ∷ [])

-- a write of 0 bytes answers 0, also without readers, where a write of one byte is refused
abbrev pub WriteOfNothing : Type 0 → Type 0
WriteOfNothing A =
    Answers A
    (pipe ∷ write 1 [] ∷ close 0 ∷ write 1 [] ∷ write 1 (codes "a") ∷ [])
    (Fds (pos 0) (pos 1) ∷ Count 0 false ∷ Unit ∷ Count 0 false ∷ Fault EPIPE ∷ [])

-- the bytes that are held as the last writer closes are read, and then the file ends
abbrev pub LastWriterCloses : Type 0 → Type 0
LastWriterCloses A =
    Answers A
    (pipe ∷ write 1 (codes "ab") ∷ close 1 ∷ read 0 1 ∷ read 0 9 ∷ read 0 9 ∷ [])
    (Fds (pos 0) (pos 1) ∷ Count 2 false ∷ Unit ∷ Bytes (codes "a") ∷ Bytes (codes "b") ∷ no_bytes ∷ [])

-- the same, where the first parked call has the number n
abbrev pub AnswersFrom : (A : Type 0) → ℕ → List (Step A) → List (Reply A) → Type 0
AnswersFrom A n steps wanted =
    (file_max : ℕ) → replies (opening {A = A} (usual n file_max)) (Start ∷ steps) ≡ Pid 1 ∷ wanted

-- a write of at most 4,096 bytes waits until all of it goes in
abbrev pub SmallWriteAtItsBoundary : Type 0 → Type 0
SmallWriteAtItsBoundary A =
    AnswersFrom A 1
    (pipe ∷ write 1 (replicate 62536 97) ∷ write 1 (replicate 4000 98) ∷ read 0 999 ∷ Resume 1 ∷ read 0 1 ∷ Resume 1 ∷ read 0 1
    ∷ write 1 (99 ∷ 99 ∷ []) ∷ Interrupt 2 ∷ Resume 2 ∷ [])
    (Fds (pos 0) (pos 1) ∷ Count 62536 false ∷ Parked 1 ∷ Bytes (replicate 999 97) ∷ Parked 1 ∷ Bytes (97 ∷ []) ∷ Count 4000 false
    ∷ Bytes (97 ∷ []) ∷ Parked 2 ∷ Fault EINTR ∷ NoCall ∷ [])

abbrev pub InterruptedLargeWrite : Type 0 → Type 0
InterruptedLargeWrite A =
    AnswersFrom A 1
    (pipe ∷ write 1 (replicate 70000 97) ∷ Interrupt 1 ∷ Interrupt 1 ∷ [])
    (Fds (pos 0) (pos 1) ∷ Parked 1 ∷ Count 65536 false ∷ NoCall ∷ [])

-- the read's description is closed, and stays an end until the read is answered
abbrev pub ParkedCallKeepsItsEnd : Type 0 → Type 0
ParkedCallKeepsItsEnd A =
    AnswersFrom A 1
    (pipe ∷ read 0 1 ∷ close 0 ∷ write 1 (97 ∷ []) ∷ Resume 1 ∷ write 1 (98 ∷ []) ∷ [])
    (Fds (pos 0) (pos 1) ∷ Parked 1 ∷ Unit ∷ Count 1 false ∷ Bytes (97 ∷ []) ∷ Fault EPIPE ∷ [])

abbrev pub LastReaderLeaves : Type 0 → Type 0
LastReaderLeaves A =
    AnswersFrom A 1
    (pipe ∷ write 1 (replicate 70000 97) ∷ close 0 ∷ Resume 1 ∷ write 1 (98 ∷ []) ∷ write 1 [] ∷ [])
    (Fds (pos 0) (pos 1) ∷ Parked 1 ∷ Unit ∷ Count 65536 true ∷ Fault EPIPE ∷ Count 0 false ∷ [])

-- The writes of two processes by one description: the small one goes in whole, between the turns of the large one.
abbrev pub InterleavingWithALargeWrite : Type 0 → Type 0
InterleavingWithALargeWrite A =
    AnswersFrom A 1
    (pipe ∷ fork ∷ write 1 (replicate 70000 97) ∷ read 0 1000 ∷ Begin 2 (Call.Write (pos 1) (replicate 1000 98)) ∷ Resume 1 ∷ read 0 65536
    ∷ Resume 1 ∷ read 0 65536 ∷ [])
    (Fds (pos 0) (pos 1) ∷ Pid 2 ∷ Parked 1 ∷ Bytes (replicate 1000 97) ∷ Count 1000 false ∷ Parked 1 ∷ Bytes (replicate 64536 97 ++ replicate 1000 98)
    ∷ Count 70000 false ∷ Bytes (replicate 4464 97) ∷ [])

-- the file ends once the last of the names is closed, not at the first
abbrev pub ThreeNamesOfOneWriteEnd : Type 0 → Type 0
ThreeNamesOfOneWriteEnd A =
    AnswersFrom A 1
    (pipe ∷ fork ∷ dup 1 ∷ close 1 ∷ close 2 ∷ read 0 1 ∷ exit 2 ∷ Resume 1 ∷ [])
    (Fds (pos 0) (pos 1) ∷ Pid 2 ∷ Fd (pos 2) ∷ Unit ∷ Unit ∷ Parked 1 ∷ Unit ∷ no_bytes ∷ [])

-- duplicates share their flags, and a descriptor that is duplicated onto another takes its place
abbrev pub FlagsOfSharedDescriptions : Type 0 → Type 0
FlagsOfSharedDescriptions A =
    Answers A
    (pipe ∷ dup 0 ∷ set_fl 2 (append + nonblock) ∷ get_fl 0 ∷ get_fl 1 ∷ read 0 1 ∷ dup2 1 0 ∷ get_fl 0 ∷ read 2 1 ∷ set_fl 2 trunc ∷ get_fl 2 ∷ [])
    (Fds (pos 0) (pos 1) ∷ Fd (pos 2) ∷ Unit ∷ Flags Mode.Read (record { 0 = append + nonblock }) ∷ Flags Mode.Write no_flags ∷ Fault EAGAIN ∷ Fd (pos 0)
    ∷ Flags Mode.Write no_flags ∷ Fault EAGAIN ∷ Unit ∷ Flags Mode.Read no_flags ∷ [])

-- 254 descriptors more are all that there are
abbrev pub FullTable : Type 0 → Type 0
FullTable A =
    Answers A
    (pipe ∷ (replicate 253 (dup 0) ++ (pipe ∷ dup 0 ∷ dup 0 ∷ close 7 ∷ dup_fd 0 256 ∷ dup2 0 256 ∷ dup2 0 0 ∷ dup_fd 0 5 ∷ [])))
    (Fds (pos 0) (pos 1) ∷ (map (λ fd. Fd (pos fd)) (numbers_from 253 2) ++ (Fault EMFILE ∷ Fd (pos 255) ∷ Fault EMFILE ∷ Unit ∷ Fault EINVAL ∷ Fault EBADF
    ∷ Fd (pos 0) ∷ Fd (pos 7) ∷ [])))

-- what isn't open is refused before what is wrong with the other argument
abbrev pub DescriptorsThatAreNotOpen : Type 0 → Type 0
DescriptorsThatAreNotOpen A =
    Answers A
    (dup 0 ∷ dup2 0 256 ∷ dup_fd 0 256 ∷ get_fl 0 ∷ set_fl 0 nonblock ∷ pipe ∷ Begin 1 (Call.Dup2 (pos 0) (negsuc 0)) ∷ Begin 1 (Call.DupFd (pos 0) (negsuc 0)) ∷ [])
    (Fault EBADF ∷ Fault EBADF ∷ Fault EBADF ∷ Fault EBADF ∷ Fault EBADF ∷ Fds (pos 0) (pos 1) ∷ Fault EBADF ∷ Fault EINVAL ∷ [])

-- a process that exits takes its parked calls with it, and its pid is free
abbrev pub ExitDropsParkedCalls : Type 0 → Type 0
ExitDropsParkedCalls A =
    AnswersFrom A 1
    (pipe ∷ read 0 1 ∷ exit 1 ∷ Resume 1 ∷ close 0 ∷ Start ∷ [])
    (Fds (pos 0) (pos 1) ∷ Parked 1 ∷ Unit ∷ NoCall ∷ NoProcess ∷ Pid 1 ∷ [])

-- no number is left, and no byte is taken
abbrev pub CallNumbersSpent : Type 0 → Type 0
CallNumbersSpent A =
    AnswersFrom A 18446744073709551615
    (pipe ∷ read 0 1 ∷ write 1 (replicate 70000 97) ∷ read 0 1 ∷ [])
    (Fds (pos 0) (pos 1) ∷ CallsSpent ∷ CallsSpent ∷ CallsSpent ∷ [])

-- The table of writes, a line for each row of it.
pub record TableOfWrites : Type 0 where
  -- no reader is left, nothing was taken, and then 65,536 bytes
  pub broken : write_case 5 0 65536 false true ≡ WriteCase.Broken
  pub cut_short : write_case 70000 65536 0 false true ≡ WriteCase.CutShort
  -- at most 4,096 bytes go in whole or not at all
  pub whole : write_case 4096 0 4096 true false ≡ WriteCase.Ends 0 4096
  pub not_torn : write_case 4096 0 4095 true true ≡ WriteCase.Waits 0 0
  -- more that may not wait go in as far as there is room
  pub partial : write_case 70000 0 5000 true false ≡ WriteCase.Ends 0 5000
  pub full : write_case 70000 0 0 true false ≡ WriteCase.Waits 0 0
  -- more that may wait go in by turns
  pub rest : write_case 70000 65536 4464 true true ≡ WriteCase.Ends 65536 70000
  pub filled : write_case 70000 65536 4463 true true ≡ WriteCase.Waits 65536 69999

-- the text, a line feed after each line
abbrev pub text : List (List ℕ) → List ℕ
text ls = flat_map (λ l. l ++ 10 ∷ []) ls

-- a script, and what it prints where no step wants for memory
abbrev pub Prints : (A : Type 0) → List ℕ → ℕ → List (List ℕ) → Type 0
Prints A script steps wanted = (limits : Limits) → output A script (usual limits.first_call limits.file_max) (replicate steps false) ≡ text wanted

abbrev pub ScriptOfBytesBeforeEndOfFile : Type 0 → Type 0
ScriptOfBytesBeforeEndOfFile A =
    Prints A
    (text (
    codes "start" ∷ codes "1 pipe" ∷ codes "1 write 1 68656c6c6f" ∷ codes "1 read 0 3" ∷ codes "1 read 0 10" ∷ codes "1 close 1"
    ∷ codes "1 read 0 10" ∷ []))
    7
    (codes "pid 1" ∷ codes "fds 0 1" ∷ codes "count 5" ∷ codes "data 68656c" ∷ codes "data 6c6f" ∷ codes "ok" ∷ codes "data -" ∷ [])

abbrev pub ScriptOfFlags : Type 0 → Type 0
ScriptOfFlags A =
    Prints A
    (text (
    codes "start" ∷ codes "1 pipe" ∷ codes "1 dup 0" ∷ codes "1 setfl 2 append,nonblock" ∷ codes "1 getfl 0" ∷ codes "1 getfl 1" ∷ codes "1 read 0 1"
    ∷ codes "1 dup2 1 0" ∷ codes "1 getfl 0" ∷ codes "1 read 2 1" ∷ []))
    10
    (codes "pid 1" ∷ codes "fds 0 1" ∷ codes "fd 2" ∷ codes "ok" ∷ codes "flags r append,nonblock" ∷ codes "flags w -" ∷ codes "EAGAIN"
    ∷ codes "fd 0" ∷ codes "flags w -" ∷ codes "EAGAIN" ∷ [])

abbrev pub EmptyScript : Type 0 → Type 0
EmptyScript A = Prints A [] 0 []

abbrev pub ScriptWithoutLineFeed : Type 0 → Type 0
ScriptWithoutLineFeed A = Prints A (codes "start") 1 (codes "pid 1" ∷ [])

abbrev pub ScriptOfNoProcess : Type 0 → Type 0
ScriptOfNoProcess A = Prints A (text (codes "start" ∷ codes "7 pipe" ∷ [])) 2 (codes "pid 1" ∷ codes "no process" ∷ [])
