-- Whole runs.
use Rattle.std.specs.Prelude.{Bool, true, false, List, [], ◌∷◌}
use Rattle.pl_model.specs.declared.calls.Step.{Step}
use Rattle.pl_model.specs.declared.replies.Reply.{Reply}
use Rattle.pl_model.specs.declared.replies.Outcome.{Outcome}
use Rattle.pl_model.specs.declared.replies.Outcome.TheVariants.{Replied, NoMemory}
use Rattle.pl_model.specs.Numbered.{State, step}

module _ {A : Type 0} where
  -- The state after the steps. A step with a mark found no memory, and is passed over.
  abbrev pub after : State A → List (Step A × Bool) → State A
  after s [] = s
  after s ((x, true) ∷ xs) = after s xs
  after s ((x, false) ∷ xs) = after (step s x).state xs

  -- the state after steps of which none wanted memory
  abbrev pub state_after : State A → List (Step A) → State A
  state_after s [] = s
  state_after s (x ∷ xs) = state_after (step s x).state xs

  -- what becomes of each step
  abbrev pub outcomes : State A → List (Step A × Bool) → List (Outcome A)
  outcomes s [] = []
  outcomes s ((x, true) ∷ xs) = NoMemory ∷ outcomes s xs
  outcomes s ((x, false) ∷ xs) = Replied (step s x).reply ∷ outcomes (step s x).state xs

  -- the replies to steps of which none wanted memory
  abbrev pub replies : State A → List (Step A) → List (Reply A)
  replies s [] = []
  replies s (x ∷ xs) = (step s x).reply ∷ replies (step s x).state xs

  -- the outcome is that no memory was found
  abbrev pub is_no_memory : Outcome A → Bool
  is_no_memory NoMemory = true
  is_no_memory (Replied reply) = false

  -- each step, with the mark that its outcome says
  abbrev pub marked : List (Step A) → List (Outcome A) → List (Step A × Bool)
  marked [] os = []
  marked (x ∷ xs) [] = []
  marked (x ∷ xs) (o ∷ os) = (x, is_no_memory o) ∷ marked xs os
