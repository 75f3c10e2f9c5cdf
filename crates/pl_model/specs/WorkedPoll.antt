-- What the definitions answer of polls in small examples.
use Rattle.std.specs.Prelude.{◌≡◌, ℕ, ◌+◌, ℤ, pos, negsuc, neg_ℤ, Bool, true, false, List, [], ◌∷◌, map, replicate, codes, Some, None}
use Rattle.pl_model.specs.declared.calls.Call.{Call}
use Rattle.pl_model.specs.declared.calls.Mode.{Mode}
use Rattle.pl_model.specs.declared.calls.Step.{Step}
use Rattle.pl_model.specs.declared.calls.Step.TheVariants.{Begin, Resume, Interrupt}
use Rattle.pl_model.specs.declared.replies.Reply.{Reply}
use Rattle.pl_model.specs.declared.replies.Reply.TheVariants.{Fd, Fds, Count, Bytes, Size, Masks, Unit, Fault, Parked, NoCall, CallsSpent}
use Rattle.pl_model.specs.declared.replies.Errno.TheVariants.{EINTR, EINVAL, EPIPE}
use Rattle.pl_model.specs.declared.script.Line.TheVariants.{Do}
use Rattle.pl_model.specs.declared.script.Version.TheVariants.{One}
use Rattle.pl_model.specs.Numbers.{last_call}
use Rattle.pl_model.specs.Flags.{creat, nonblock, poll_in, poll_out, poll_err, poll_hup, poll_nval}
use Rattle.pl_model.specs.Words.{as_poll_mask}
use Rattle.pl_model.specs.Lines.{line}
use Rattle.pl_model.specs.Worked.{pipe, read, write, close, Answers, AnswersFrom, text, Prints}
use Rattle.pl_model.specs.WorkedFiles.{open_name}
use Rattle.pl_model.specs.WorkedCapacity.{set_pipe_sz}
use Rattle.pl_model.specs.WorkedFifo.{mkfifo}

module _ {A : Type 0} where
  -- a poll of these entries, each a descriptor and the bits that are asked
  abbrev pub poll_of : List (ℤ × ℕ) → Bool → Call A
  poll_of entries wait = Call.Poll (map (λ e. (e.0, as_poll_mask e.1)) entries) wait

  -- what the process of pid 1 does
  abbrev pub poll_now : List (ℤ × ℕ) → Step A
  poll_now entries = Begin 1 (poll_of entries false)

  abbrev pub poll_wait : List (ℤ × ℕ) → Step A
  poll_wait entries = Begin 1 (poll_of entries true)

  -- so many of these masks aren't empty
  abbrev pub masks : ℕ → List ℕ → Reply A
  masks ready found = Masks ready (map as_poll_mask found)

-- a poll waits for what it asks, and tells of each entry
abbrev pub PollsOfAPipe : Type 0 → Type 0
PollsOfAPipe A =
    AnswersFrom A 1
    (pipe ∷ poll_wait ((pos 0, poll_in) ∷ (pos 1, 0) ∷ (negsuc 0, poll_in) ∷ []) ∷ write 1 (codes "a") ∷ Resume 1
    ∷ poll_now ((pos 9, poll_in) ∷ (negsuc 0, poll_in) ∷ (pos 1, poll_in + poll_out) ∷ []) ∷ set_pipe_sz 1 4096 ∷ poll_now ((pos 1, poll_out) ∷ []) ∷ [])
    (Fds (pos 0) (pos 1) ∷ Parked 1 ∷ Count 1 false ∷ masks 1 (poll_in ∷ 0 ∷ 0 ∷ [])
    ∷ masks 2 (poll_nval ∷ 0 ∷ poll_out ∷ []) ∷ Size 4096 ∷ masks 0 (0 ∷ []) ∷ [])

-- a reader learns unasked that the last writer left, beside what is left to read, and a writer that the last reader left
abbrev pub EndsThatLeave : Type 0 → Type 0
EndsThatLeave A =
    Answers A
    (pipe ∷ write 1 (codes "a") ∷ close 1 ∷ poll_wait ((pos 0, poll_in) ∷ []) ∷ read 0 9 ∷ poll_wait ((pos 0, 0) ∷ [])
    ∷ pipe ∷ close 1 ∷ poll_wait ((pos 2, 0) ∷ []) ∷ poll_now ((pos 2, poll_out) ∷ []) ∷ [])
    (Fds (pos 0) (pos 1) ∷ Count 1 false ∷ Unit ∷ masks 1 ((poll_in + poll_hup) ∷ []) ∷ Bytes (codes "a") ∷ masks 1 (poll_hup ∷ [])
    ∷ Fds (pos 1) (pos 2) ∷ Unit ∷ masks 1 (poll_err ∷ []) ∷ masks 1 ((poll_out + poll_err) ∷ []) ∷ [])

-- a FIFO that no writer had is not hung; one is once it had one, though the open that met it comes later
abbrev pub HangingUpAFifo : Type 0 → Type 0
HangingUpAFifo A =
    AnswersFrom A 1
    (mkfifo (codes "q") ∷ open_name (codes "q") Mode.Read nonblock ∷ poll_now ((pos 0, poll_in) ∷ []) ∷ close 0
    ∷ open_name (codes "q") Mode.Read 0 ∷ open_name (codes "q") Mode.Write 0 ∷ close 0 ∷ Resume 1 ∷ poll_now ((pos 0, poll_in) ∷ []) ∷ [])
    (Unit ∷ Fd (pos 0) ∷ masks 0 (0 ∷ []) ∷ Unit
    ∷ Parked 1 ∷ Fd (pos 0) ∷ Unit ∷ Fd (pos 0) ∷ masks 1 (poll_hup ∷ []) ∷ [])

-- a file is ready for what is asked, whatever its mode, and a FIFO that is open for both is for either, while there is room
abbrev pub FilesAndBothEnds : Type 0 → Type 0
FilesAndBothEnds A =
    Answers A
    (open_name (codes "f") Mode.Read creat ∷ poll_wait ((pos 0, 63) ∷ (pos 0, poll_out) ∷ (pos 0, 0) ∷ []) ∷ mkfifo (codes "q") ∷ open_name (codes "q") Mode.Both 0
    ∷ poll_now ((pos 1, 63) ∷ []) ∷ write 1 (codes "a") ∷ poll_now ((pos 1, 63) ∷ []) ∷ set_pipe_sz 1 1 ∷ poll_now ((pos 1, 63) ∷ []) ∷ [])
    (Fd (pos 0) ∷ masks 2 ((poll_in + poll_out) ∷ poll_out ∷ 0 ∷ []) ∷ Unit ∷ Fd (pos 1)
    ∷ masks 1 (poll_out ∷ []) ∷ Count 1 false ∷ masks 1 ((poll_in + poll_out) ∷ []) ∷ Size 4096 ∷ masks 1 (poll_in ∷ []) ∷ [])

-- at most 256 entries are looked at; one that isn't open is found at once; nothing at all may be waited for
abbrev pub PollsThatDontWait : Type 0 → Type 0
PollsThatDontWait A =
    AnswersFrom A 1
    (poll_now (replicate 257 (negsuc 0, poll_in)) ∷ poll_now (replicate 256 (negsuc 0, poll_in)) ∷ pipe ∷ poll_wait ((pos 0, poll_in) ∷ (pos 256, 0) ∷ [])
    ∷ poll_now [] ∷ poll_wait [] ∷ Interrupt 1 ∷ [])
    (Fault EINVAL ∷ masks 0 (replicate 256 0) ∷ Fds (pos 0) (pos 1) ∷ masks 1 (0 ∷ poll_nval ∷ [])
    ∷ masks 0 [] ∷ Parked 1 ∷ Fault EINTR ∷ [])

-- what a poll that waits found open stays so, whatever is closed, and goes with it
abbrev pub PollsKeepTheirEnds : Type 0 → Type 0
PollsKeepTheirEnds A =
    AnswersFrom A 1
    (pipe ∷ poll_wait ((pos 0, poll_in) ∷ []) ∷ close 0 ∷ Resume 1 ∷ write 1 (codes "a") ∷ poll_wait ((pos 1, poll_in) ∷ []) ∷ Resume 1
    ∷ write 1 (codes "a") ∷ Resume 2 ∷ Resume 2 ∷ [])
    (Fds (pos 0) (pos 1) ∷ Parked 1 ∷ Unit ∷ Parked 1 ∷ Count 1 false ∷ Parked 2 ∷ masks 1 (poll_in ∷ [])
    ∷ Fault EPIPE ∷ masks 1 (poll_err ∷ []) ∷ NoCall ∷ [])

-- where no number is left, a poll that would wait is refused, and one that wouldn't is answered
abbrev pub PollWithoutANumber : Type 0 → Type 0
PollWithoutANumber A =
    AnswersFrom A last_call
    (pipe ∷ poll_wait ((pos 0, poll_in) ∷ []) ∷ poll_now ((pos 0, poll_in) ∷ []) ∷ poll_wait ((pos 1, poll_out) ∷ []) ∷ [])
    (Fds (pos 0) (pos 1) ∷ CallsSpent ∷ masks 0 (0 ∷ []) ∷ masks 1 (poll_out ∷ []) ∷ [])

abbrev pub ScriptOfPolls : Type 0 → Type 0
ScriptOfPolls A =
    Prints A
    (text (
    codes "start" ∷ codes "1 pipe" ∷ codes "1 write 1 61" ∷ codes "1 poll now" ∷ codes "1 poll now 0:in,out 9:- -1:in 1:out" ∷ codes "1 close 1"
    ∷ codes "1 poll wait 0:nval,in,hup" ∷ []))
    7
    (codes "pid 1" ∷ codes "fds 0 1" ∷ codes "count 1" ∷ codes "masks 0" ∷ codes "masks 3 in nval - out" ∷ codes "ok"
    ∷ codes "masks 1 in,hup" ∷ [])

-- the lines that poll, and those that don't
pub record LinesOfPolls (A : Type 0) : Type 0 where
  pub none : line {A = A} One (codes "1 poll wait") ≡ Some (Some (Do (Begin 1 (poll_of [] true))))
  pub entries : line {A = A} One (codes "1 poll now 0:in -1:- 07:hup,nval,hup") ≡ Some (Some (Do (Begin 1 (poll_of ((pos 0, 1) ∷ (neg_ℤ (pos 1), 0) ∷ (pos 7, 48) ∷ []) false))))
  pub all_names : line {A = A} One (codes "1 poll now 0:nval,hup,err,out,in") ≡ Some (Some (Do (Begin 1 (poll_of ((pos 0, 61) ∷ []) false))))
  pub no_word : line {A = A} One (codes "1 poll") ≡ None
  pub other_word : line {A = A} One (codes "1 poll then 0:in") ≡ None
  pub no_mask : line {A = A} One (codes "1 poll now 0") ≡ None
  pub empty_mask : line {A = A} One (codes "1 poll now 0:") ≡ None
  pub empty_name : line {A = A} One (codes "1 poll now 0:in,") ≡ None
  pub no_fd : line {A = A} One (codes "1 poll now :in") ≡ None
  pub two_colons : line {A = A} One (codes "1 poll now 0:in:out") ≡ None
  pub dash_among_names : line {A = A} One (codes "1 poll now 0:in,-") ≡ None
  pub blank : line {A = A} One (codes "1 poll now 0: in") ≡ None
