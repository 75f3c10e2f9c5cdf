-- What a step of the kernel does.
use Rattle.std.specs.Prelude.{◌≡◌, ℕ, List, [], Bool, true, false, Option, IsSome}
use Rattle.pl_model.specs.declared.calls.Step.{Step}
use Rattle.pl_model.specs.declared.replies.Reply.{Reply}
use Rattle.pl_model.specs.declared.replies.Reply.TheVariants.{Parked}
use Rattle.pl_model.specs.Keys.{NewKeys, drawn}
use Rattle.pl_model.specs.State.{file_bytes}
use Rattle.pl_model.specs.Step.{core_step}
use Rattle.pl_model.specs.Numbered.{numbers, State, step}
use Rattle.pl_model.specs.StandsFor.{StandsFor, Comes}
use Rattle.pl_model.specs.Memory.{is_refusal, never_wants_memory}
use Rattle.pl_model.specs.Refused.{after_reply}
use Rattle.pl_state.specs.Contents.{Contents, core_of}

module _ {A : Type 0} where
  -- the kernel stands for the state
  abbrev pub Stands : Contents A → State A → Type 0
  Stands k s = StandsFor (core_of k) s

  -- no process is there, and no name
  pub record IsDeserted (s : State A) : Type 0 where
    pub processes : (pid : ℕ) → s.core.processes pid ≡ false
    pub names : s.core.names ≡ []

  -- A step was answered so and left this: for each state for which the kernel stood, the reply is the flat machine's,
  -- and the kernel stands for the state that the flat machine leaves.
  abbrev pub Makes : Contents A → Step A → Reply A → Contents A → Type 0
  Makes old x reply new = (s : State A) → Stands old s → (reply ≡ (step s x).reply) × Stands new (step s x).state

  -- memory may be wanted for the step
  abbrev pub WantsMemory : Contents A → Step A → Type 0
  WantsMemory k x = (s : State A) → Stands k s → never_wants_memory s x ≡ false

  -- The kernel stands for what the reply says: a refused step leaves the very state that it stood for, counters included,
  -- and a fault at Resume or Interrupt that state without the call, settled.
  abbrev pub LeavesByReply : Contents A → Step A → Reply A → Contents A → Type 0
  LeavesByReply old x reply new = (s : State A) → Stands old s → Stands new (after_reply s x reply)

  -- The bytes of the file of a name were told so: for each state for which the kernel stands, they are the flat machine's.
  abbrev pub Tells : Contents A → List ℕ → Option (List ℕ) → Type 0
  Tells k name told = (s : State A) → Stands k s → told ≡ file_bytes s.core name

  -- the name stands for a file
  abbrev pub HasFile : Contents A → List ℕ → Type 0
  HasFile k name = (s : State A) → Stands k s → IsSome (file_bytes s.core name)

  -- a step of the machine under the kernel's own keys was answered so and left this
  abbrev pub MakesAtKeys : Contents A → Step A → Reply A → Contents A → Type 0
  MakesAtKeys old x reply new = Comes (core_of old) (core_step (core_of old) x) reply (core_of new)

  -- and memory may be wanted for it
  abbrev pub MayWantAtKeys : Contents A → Step A → Type 0
  MayWantAtKeys k x = (new : NewKeys numbers) → is_refusal (drawn new (core_step (core_of k) x)).reply ≡ false

  -- a reply that leaves the call waiting
  abbrev pub is_parked : Reply A → Bool
  is_parked (Parked number) = true
  is_parked other = false

  -- and the call is parked
  abbrev pub ParksAtKeys : Contents A → Step A → Type 0
  ParksAtKeys k x = (new : NewKeys numbers) → is_parked (drawn new (core_step (core_of k) x)).reply ≡ true
