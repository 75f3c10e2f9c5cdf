-- What a run of the kernel does.
use Rattle.std.specs.Prelude.{◌≡◌, List}
use Rattle.pl_model.specs.declared.calls.Step.{Step}
use Rattle.pl_model.specs.declared.replies.Outcome.{Outcome}
use Rattle.pl_model.specs.declared.replies.Outcome.TheVariants.{Replied, NoMemory}
use Rattle.pl_model.specs.Numbered.{State}
use Rattle.pl_model.specs.Memory.{PassesOverInWant}
use Rattle.pl_model.specs.Run.{after, outcomes, marked}
use Rattle.pl_model.specs.Refused.{after_outcomes}
use Rattle.pl_model.specs.StreamLaw.{StreamLaw}
use Rattle.pl_state.specs.Contents.{Contents}
use Rattle.pl_state.specs.Makes.{Stands, Makes, WantsMemory}

module _ {A : Type 0} where
  -- What a step came to: it was made, or it found no memory and changed nothing.
  abbrev pub ComesTo : Contents A → Step A → Outcome A → Contents A → Type 0
  ComesTo old x (Replied reply) new = Makes old x reply new
  ComesTo old x NoMemory new = (new ≡ old) × WantsMemory old x

  -- A run had these outcomes and left this: those of the flat machine, where just the steps that found no memory are
  -- passed over.
  abbrev pub MakesAll : Contents A → List (Step A) → List (Outcome A) → Contents A → Type 0
  MakesAll old xs os new = (s : State A) → Stands old s → (os ≡ outcomes s (marked xs os)) × Stands new (after s (marked xs os))

  -- The run passed over no step that never wants memory.
  abbrev pub PassesOverFew : Contents A → List (Step A) → List (Outcome A) → Type 0
  PassesOverFew old xs os = (s : State A) → Stands old s → PassesOverInWant s (marked xs os)

  -- The kernel stands for what the outcomes say: what refused steps left is the state of before.
  abbrev pub LeavesAsTold : Contents A → List (Step A) → List (Outcome A) → Contents A → Type 0
  LeavesAsTold old xs os new = (s : State A) → Stands old s → Stands new (after_outcomes s xs os)

  -- The run keeps the stream law.
  abbrev pub KeepsTheStreamLaw : Contents A → List (Step A) → List (Outcome A) → Type 0
  KeepsTheStreamLaw old xs os = (s : State A) → Stands old s → StreamLaw s (marked xs os)
