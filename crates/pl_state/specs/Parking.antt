-- Calls that wait, in the kernel.
use Rattle.std.specs.Prelude.{◌≡◌, ℕ, ℤ, ◌+◌, ◌==◌, ◌||◌, not, Bool, false, if◌then◌else◌, List, [], ◌∷◌, ◌++◌, length, nat_eq, Option, Some, None}
use Rattle.pl_model.specs.declared.calls.Call.{Call}
use Rattle.pl_model.specs.declared.calls.Call.TheVariants as variant
use Rattle.pl_model.specs.declared.calls.Mode.{Mode}
use Rattle.pl_model.specs.declared.flags.OpenFlags.{OpenFlags}
use Rattle.pl_model.specs.declared.replies.Reply.{Reply}
use Rattle.pl_model.specs.declared.replies.Reply.TheVariants.{Fault, CallsSpent}
use Rattle.pl_model.specs.declared.replies.Errno.TheVariants.{EAGAIN}
use Rattle.pl_model.specs.Numbers.{last_call}
use Rattle.pl_model.specs.Map.{get, change_at}
use Rattle.pl_model.specs.Packets.{gain}
use Rattle.pl_parked.specs.declared.call.ParkedCall.{ParkedCall}
use Rattle.pl_desc.specs.Rows.{at}
use Rattle.pl_state.specs.Contents.{Contents, lets_wait, with_pipes}

module _ {A : Type 0} where
  -- the bytes of a write, and none of another call
  abbrev pub written : Call A → List ℕ
  written (variant.Write fd bytes) = bytes
  written other = []

  -- POSIX.1-2017, read and write, EAGAIN: why a call that would wait doesn't. That none is parked without a number left
  -- is our own.
  abbrev pub refusal : (nonblock : Bool) → (next : ℕ) → Option (Reply A)
  refusal nonblock next = if nonblock then Some (Fault EAGAIN) else if next == last_call then Some CallsSpent else None

  -- the same in a kernel, where a call that would wait above the limit is refused as one that may not wait
  abbrev pub refusal_in : Contents A → ℕ → (nonblock : Bool) → Option (Reply A)
  refusal_in k pid nonblock = refusal (nonblock || not (lets_wait k pid)) k.calls.next

  -- a call of the process that waits on one description
  abbrev pub call_on : (key pid : ℕ) → Call A → (taken : ℕ) → ParkedCall A
  call_on key pid call taken = record { pid = pid; call = call; kept = key ∷ []; fifo = None; taken = taken; met = false }

  -- with the call under the next number
  abbrev pub with_call : Contents A → ParkedCall A → Contents A
  with_call k call = record k { calls = record { calls = k.calls.calls ++ (k.calls.next, call) ∷ []; next = k.calls.next + 1 } }

  -- the bytes came to the end of the pipe, and nothing else changed
  pub record Adds (old : Contents A) (pipe : ℕ) (bytes : List ℕ) (new : Contents A) : Type 0 where
    pub pipes : at new.nodes.pipes ≡ change_at pipe (gain bytes) (at old.nodes.pipes)
    pub rest : new ≡ with_pipes old new.nodes

  -- the call of the number is a read of so many bytes, which waits on the description of the key
  pub record ReadWaits (k : Contents A) (number key n : ℕ) : Type 0 where
    pub fd : ℤ
    pub call : ParkedCall A
    pub here : get nat_eq k.calls.calls number ≡ Some call
    pub asked : call.call ≡ variant.Read fd n
    pub kept : call.kept ≡ key ∷ []

  -- the call of the number is a write of so many bytes, some of them taken
  pub record WriteWaits (k : Contents A) (number key size taken : ℕ) : Type 0 where
    pub fd : ℤ
    pub call : ParkedCall A
    pub here : get nat_eq k.calls.calls number ≡ Some call
    pub asked : call.call ≡ variant.Write fd (written call.call)
    pub whole : size ≡ length (written call.call)
    pub kept : call.kept ≡ key ∷ []
    pub taken_so_far : call.taken ≡ taken

  -- the call of the number is an open of the process, which waits with the description of the key, and met its other end or didn't
  pub record OpenWaits (k : Contents A) (number pid key : ℕ) (met : Bool) : Type 0 where
    pub name : List ℕ
    pub mode : Mode
    pub flags : OpenFlags
    pub call : ParkedCall A
    pub here : get nat_eq k.calls.calls number ≡ Some call
    pub asked : call.call ≡ variant.OpenName name mode flags
    pub of : call.pid ≡ pid
    pub kept : call.kept ≡ key ∷ []
    pub met_so_far : call.met ≡ met
