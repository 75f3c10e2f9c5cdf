-- Steps on the caller's own bytes.
use Rattle.std.specs.Prelude.{◌≡◌, ◌<◌, ◌≤◌, ⊤, ℕ, ℤ, List, true, min, if◌then◌else◌}
use Rattle.pl_model.specs.Begin.{open_for}
use Rattle.pl_model.specs.Modes.{reads}
use Rattle.pl_model.specs.Numbers.{most_capacity}
use Rattle.pl_model.specs.declared.calls.Step.{Step}
use Rattle.pl_model.specs.declared.calls.Step.TheVariants.{Resume}
use Rattle.pl_model.specs.Numbered.{State, step}
use Rattle.pl_state.specs.Contents.{Contents, core_of}
use Rattle.pl_state.specs.Makes.{Stands, Makes, LeavesByReply, is_parked}
use Rattle.pl_state.specs.Parking.{ReadWaits}
use Rattle.pl_transfers.specs.ReadInto.{told, read_count}
use Rattle.pl_transfers.specs.Readable.{readable, gives_again}
use Rattle.pl_kernel.specs.declared.kernel.buffers.Resumed.{Resumed}
use Rattle.pl_kernel.specs.declared.kernel.buffers.Resumed.TheVariants.{Read, Short, Other}

module _ {A : Type 0} where
  -- the machine parks the call
  abbrev pub Parks : Contents A → Step A → Type 0
  Parks k x = (s : State A) → Stands k s → is_parked (step s x).reply ≡ true

  -- POSIX.1-2017, read: how many bytes a read of at most so many gives; none where it is refused or waits
  abbrev pub gives : Contents A → (pid : ℕ) → (fd : ℤ) → ℕ → ℕ
  gives k pid fd n = if (core_of k).processes pid then min n (readable (core_of k) (open_for reads (core_of k) pid fd)) else 0

  -- how many bytes the resumption of a call gave
  abbrev pub resumed_count : Resumed A → ℕ
  resumed_count (Read reply) = read_count reply
  resumed_count (Short n) = 0
  resumed_count (Other reply) = 0

  -- the call was a read, and was tried
  abbrev pub IsRead : Resumed A → Type 0
  IsRead (Read reply) = ⊤
  IsRead other = ⊥

  -- the call was a read
  abbrev pub IsOfRead : Resumed A → Type 0
  IsOfRead (Other reply) = ⊥
  IsOfRead of_read = ⊤

  -- it was another one, or there was none of the number
  abbrev pub IsOfOther : Resumed A → Type 0
  IsOfOther (Other reply) = ⊤
  IsOfOther of_read = ⊥

  -- the call of the number is a read
  abbrev pub IsWaitingRead : Contents A → ℕ → Type 0
  IsWaitingRead k number = (key n : ℕ) × ReadWaits k number key n

  -- The resumption of a read came to this, with so much room for bytes. It was tried if what it gives fits, as it does in as much room as a pipe
  -- may hold bytes; otherwise it is told how many bytes these are.
  pub record ReadsAgain (k : Contents A) (number room : ℕ) (resumed : Resumed A) : Type 0 where
    pub of_read : IsOfRead resumed
    pub short : room < gives_again k number → resumed ≡ Short (gives_again k number)
    pub fits : gives_again k number ≤ room → IsRead resumed
    pub enough : most_capacity ≤ room → IsRead resumed

  -- The resumption of a call came to this, with so much room for bytes: it is the step, or a read that gives more.
  abbrev pub Resumes : Contents A → ℕ → (room : ℕ) → Resumed A → List ℕ → Contents A → Type 0
  Resumes old number room (Read reply) bytes new = Makes old (Resume number) (told reply bytes) new
  Resumes old number room (Short n) bytes new = (new ≡ old) × (room < n)
  Resumes old number room (Other reply) bytes new = Makes old (Resume number) reply new

  -- and left what the reply says
  abbrev pub ResumesByReply : Contents A → ℕ → Resumed A → List ℕ → Contents A → Type 0
  ResumesByReply old number (Read reply) bytes new = LeavesByReply old (Resume number) (told reply bytes) new
  ResumesByReply old number (Short n) bytes new = ⊤
  ResumesByReply old number (Other reply) bytes new = LeavesByReply old (Resume number) reply new
