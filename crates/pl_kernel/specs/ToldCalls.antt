-- What is told of parked calls.
use Rattle.std.specs.Prelude.{◌≡◌, ℕ, ℤ, negsuc, Bool, true, List, [], ◌∷◌, nat_eq, Option, option_and_then, IsSome, IsSomeAnd}
use Rattle.std.specs.declared.option.Option.TheVariants.{None, Some}
use Rattle.pl_model.specs.declared.calls.Call.{Call}
use Rattle.pl_model.specs.declared.flags.PollMask.{PollMask}
use Rattle.pl_model.specs.Map.{get}
use Rattle.pl_model.specs.Keys.{Keys}
use Rattle.pl_model.specs.State.{Core, Waiting}
use Rattle.pl_model.specs.Numbered.{State, numbers}
use Rattle.pl_state.specs.Contents.{Contents}
use Rattle.pl_state.specs.Makes.{Stands}
use Rattle.pl_kernel.specs.declared.told_calls.CallFacts.{CallFacts}
use Rattle.pl_kernel.specs.declared.told_calls.CallKind.{CallKind}
use Rattle.pl_kernel.specs.declared.told_calls.CallKind.TheVariants as kind

-- in place of a descriptor, where a call has none
abbrev pub no_fd : ℤ
no_fd = negsuc 0

-- the descriptor of the first entry of a poll
abbrev pub first_fd : List (ℤ × PollMask) → ℤ
first_fd [] = no_fd
first_fd (entry ∷ entries) = entry.0

abbrev pub facts_with : CallKind → ℕ → (first second : ℤ) → Option CallFacts
facts_with of_kind pid first second = Some (record { kind = of_kind; pid = pid; first = first; second = second })

module _ {A : Type 0} where
  -- what is told of a call that a process began, if it is one that can wait
  abbrev pub facts_of_call : ℕ → Call A → Option CallFacts
  facts_of_call pid (Call.Read fd n) = facts_with kind.Read pid fd no_fd
  facts_of_call pid (Call.Write fd bytes) = facts_with kind.Write pid fd no_fd
  facts_of_call pid (Call.OpenName name mode flags) = facts_with kind.Open pid no_fd no_fd
  facts_of_call pid (Call.Splice from from_offset to to_offset len flags) = facts_with kind.Splice pid from to
  facts_of_call pid (Call.Tee from to len flags) = facts_with kind.Tee pid from to
  facts_of_call pid (Call.Poll entries wait) = facts_with kind.Poll pid (first_fd entries) no_fd
  facts_of_call pid other = None

  -- what is told of the parked call of a number, if it is there
  abbrev pub call_facts_by : State A → ℕ → Option CallFacts
  call_facts_by s number = option_and_then (λ w. facts_of_call w.pid w.call) (get nat_eq s.core.parked number)

module _ {A : Type 0} (k : Contents A) (number : ℕ) where
  -- It was told so: for each state for which the kernel stands, it is the flat machine's.
  abbrev pub TellsCall : Option CallFacts → Type 0
  TellsCall told = (s : State A) → Stands k s → told ≡ call_facts_by s number

  -- and of each call that is parked something is told
  abbrev pub TellsEach : Option CallFacts → Type 0
  TellsEach told = (s : State A) → Stands k s → IsSome (get nat_eq s.core.parked number) → IsSome told

-- a call that waits is a read, and keeps these descriptions
pub record IsReadOf {A : Type 0} {K : Keys} (kept : List K.Description) (w : Waiting A K) : Type 0 where
  pub fd : ℤ
  pub n : ℕ
  pub asked : w.call ≡ Call.Read fd n
  pub keeps : w.kept ≡ kept
  pub nothing : w.taken ≡ 0

-- such a read is parked under a number
abbrev pub IsReadAt : {A : Type 0} {K : Keys} → Core A K → List K.Description → ℕ → Type 0
IsReadAt c kept number = IsSomeAnd (get nat_eq c.parked number) (IsReadOf kept)

-- reads of the same description are parked under two numbers
abbrev pub AreAlike : {A : Type 0} → Core A numbers → (number other : ℕ) → Type 0
AreAlike c number other = (kept : List ℕ) × IsReadAt c kept number × IsReadAt c kept other

-- Two calls were told to be such reads: in each state for which the kernel stands, they are.
abbrev pub TellsAlike : {A : Type 0} → Contents A → (number other : ℕ) → Bool → Type 0
TellsAlike {A} k number other told = told ≡ true → (s : State A) → Stands k s → AreAlike s.core number other
