-- Which steps never want for memory (our own).
use Rattle.std.specs.Prelude.{◌≡◌, ⊤, Bool, true, false, ◌||◌, List, [], ◌∷◌}
use Rattle.pl_model.specs.declared.calls.Call.{Call}
use Rattle.pl_model.specs.declared.calls.Step.{Step}
use Rattle.pl_model.specs.declared.calls.Step.TheVariants.{Begin, Interrupt}
use Rattle.pl_model.specs.declared.replies.Reply.{Reply}
use Rattle.pl_model.specs.declared.replies.Reply.TheVariants.{Fault, NoProcess, NoCall, CallsSpent}
use Rattle.pl_model.specs.Numbered.{State, step}

module _ {A : Type 0} where
  -- a reply that says no
  abbrev pub is_refusal : Reply A → Bool
  is_refusal (Fault errno) = true
  is_refusal NoProcess = true
  is_refusal NoCall = true
  is_refusal CallsSpent = true
  is_refusal reply = false

  -- a call that takes no memory, whatever it answers
  abbrev pub is_frugal_call : Call A → Bool
  is_frugal_call (Call.Dup fd) = false
  is_frugal_call (Call.Dup2 fd target) = false
  is_frugal_call (Call.DupFd fd least) = false
  is_frugal_call (Call.Close fd) = true
  is_frugal_call (Call.GetFl fd) = true
  is_frugal_call (Call.SetFl fd flags) = true
  is_frugal_call (Call.Lseek fd offset whence) = true
  is_frugal_call (Call.GetPipeSz fd) = true
  is_frugal_call (Call.Unlink name) = true
  is_frugal_call Call.Exit = true
  is_frugal_call (Call.Pipe nonblock direct) = false
  is_frugal_call (Call.Mkfifo name) = false
  is_frugal_call (Call.OpenName name mode flags) = false
  is_frugal_call (Call.Read fd n) = false
  is_frugal_call (Call.Write fd bytes) = false
  is_frugal_call (Call.Splice from from_offset to to_offset len flags) = false
  is_frugal_call (Call.Tee from to len flags) = false
  is_frugal_call (Call.Poll entries wait) = false
  is_frugal_call (Call.SetPipeSz fd size) = false
  is_frugal_call Call.Fork = false

  abbrev pub is_frugal : Step A → Bool
  is_frugal (Begin pid call) = is_frugal_call call
  is_frugal (Interrupt c) = true
  is_frugal x = false

  -- Want of memory is tested last: a step that is refused wants none.
  abbrev pub never_wants_memory : State A → Step A → Bool
  never_wants_memory s x = is_frugal x || is_refusal (step s x).reply

  -- in a run from the state, a step is passed over only where memory may be wanted for it
  abbrev pub PassesOverInWant : State A → List (Step A × Bool) → Type 0
  PassesOverInWant s [] = ⊤
  PassesOverInWant s ((x, true) ∷ xs) = (never_wants_memory s x ≡ false) × PassesOverInWant s xs
  PassesOverInWant s ((x, false) ∷ xs) = PassesOverInWant (step s x).state xs
