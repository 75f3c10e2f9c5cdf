-- How many bytes a read gives, told before it is made.
use Rattle.std.specs.Prelude.{ℕ, min, length, drop, nat_eq, Option}
use Rattle.std.specs.declared.option.Option.TheVariants.{None, Some}
use Rattle.pl_model.specs.declared.calls.Call.{Call}
use Rattle.pl_model.specs.Keys.{Keys, Node, PipeNode, FileNode}
use Rattle.pl_model.specs.State.{Core, Description, Open, Waiting}
use Rattle.pl_model.specs.Step.{kept_at}
use Rattle.pl_model.specs.Packets.{front}
use Rattle.pl_model.specs.Transfer.{file_at}
use Rattle.pl_model.specs.Trial.{pipe_at}
use Rattle.pl_model.specs.Map.{get}
use Rattle.pl_state.specs.Contents.{Contents, core_of}

module _ {A : Type 0} {K : Keys} where
  -- POSIX.1-2017, read: how many bytes one read can get: those at the front of a pipe, and those of a file from the offset on
  abbrev pub readable_on : Core A K → Description K → Node K → ℕ
  readable_on s description (PipeNode p) = min (front (pipe_at s p)) (length (pipe_at s p).bytes)
  readable_on s description (FileNode f) = length (drop description.offset (file_at s f))

  -- the same of an open description, and none where nothing is open
  abbrev pub readable : Core A K → Option (Open K) → ℕ
  readable s None = 0
  readable s (Some o) = readable_on s o.description o.description.node

  -- how many bytes the next try of a call gives as it is answered, where it is a read
  abbrev pub bytes_of_try : Core A K → Waiting A K → Call A → ℕ
  bytes_of_try s w (Call.Read fd n) = min n (readable s (kept_at s w.kept 0))
  bytes_of_try s w other = 0

  -- the same of a parked call, if it is there
  abbrev pub bytes_again : Core A K → Option (Waiting A K) → ℕ
  bytes_again s None = 0
  bytes_again s (Some w) = bytes_of_try s w w.call

-- the same of the parked call of a number, in the kernel
abbrev pub gives_again : {A : Type 0} → Contents A → ℕ → ℕ
gives_again {A} k number = bytes_again (core_of {A = A} k) (get nat_eq (core_of {A = A} k).parked number)
