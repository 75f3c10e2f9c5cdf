-- What a step leaves whose reply says no.
use Rattle.std.specs.Prelude.{ℕ, Bool, true, false, List, [], ◌∷◌, if◌then◌else◌}
use Rattle.pl_model.specs.declared.calls.Step.{Step}
use Rattle.pl_model.specs.declared.calls.Step.TheVariants.{Start, Begin, Resume, Interrupt}
use Rattle.pl_model.specs.declared.replies.Reply.{Reply}
use Rattle.pl_model.specs.declared.replies.Reply.TheVariants.{Fault, NoProcess, NoCall, CallsSpent}
use Rattle.pl_model.specs.declared.replies.Outcome.{Outcome}
use Rattle.pl_model.specs.declared.replies.Outcome.TheVariants.{Replied, NoMemory}
use Rattle.pl_model.specs.Settle.{settle}
use Rattle.pl_model.specs.Step.{without_call}
use Rattle.pl_model.specs.Numbered.{State, step}

module _ {A : Type 0} where
  -- The step was refused: by a fault where a call begins or a process starts, or because there is no such process or
  -- parked call, or no number for one more.
  abbrev pub is_refused : Step A → Reply A → Bool
  is_refused x NoProcess = true
  is_refused x NoCall = true
  is_refused x CallsSpent = true
  is_refused Start (Fault errno) = true
  is_refused (Begin pid call) (Fault errno) = true
  is_refused x reply = false

  -- the state in which the parked call has ended, settled
  abbrev pub with_call_ended : State A → ℕ → State A
  with_call_ended s c = record s { core = settle s.core (without_call s.core c) }

  -- The state after a step of this reply. A refused step leaves the state as it was, counters included, and a fault at
  -- Resume or Interrupt ends that call alone. Any other step leaves what it makes.
  abbrev pub after_reply : State A → Step A → Reply A → State A
  after_reply s (Resume c) (Fault errno) = with_call_ended s c
  after_reply s (Interrupt c) (Fault errno) = with_call_ended s c
  after_reply s x reply = if is_refused x reply then s else (step s x).state

  -- the same after the steps of a run; one that found no memory leaves the state as it was
  abbrev pub after_outcomes : State A → List (Step A) → List (Outcome A) → State A
  after_outcomes s [] os = s
  after_outcomes s (x ∷ xs) [] = s
  after_outcomes s (x ∷ xs) (NoMemory ∷ os) = after_outcomes s xs os
  after_outcomes s (x ∷ xs) (Replied reply ∷ os) = after_outcomes (after_reply s x reply) xs os
