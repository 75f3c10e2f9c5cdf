-- What is told of a call that waits: whether it can get on.
use Rattle.std.specs.Prelude.{◌≡◌, ◌≤◌, ℕ, Bool, true, false, ◌&&◌, nat_eq, Option, is_some}
use Rattle.std.specs.declared.option.Option.TheVariants.{None, Some}
use Rattle.pl_model.specs.declared.calls.Step.TheVariants.{Resume}
use Rattle.pl_model.specs.declared.replies.Reply.TheVariants.{Parked}
use Rattle.pl_model.specs.Map.{get}
use Rattle.pl_model.specs.Keys.{Keys}
use Rattle.pl_model.specs.State.{Core}
use Rattle.pl_model.specs.Waking.{can_progress, MovesNoByte}
use Rattle.pl_model.specs.Numbered.{State, step}
use Rattle.pl_state.specs.Contents.{Contents, core_of}
use Rattle.pl_state.specs.Makes.{Stands}
use Rattle.pl_polls.specs.Counts.{masks_again}

module _ {A : Type 0} (k : Contents A) (number : ℕ) where
  -- It was told so: for each state for which the kernel stands, it is the flat machine's.
  abbrev pub TellsProgress : Bool → Type 0
  TellsProgress told = (s : State A) → Stands k s → told ≡ can_progress s.core number

  -- where it can't, a Resume of the flat machine is answered that the call waits on, and moves no byte
  abbrev pub OrWaitsInVain : Bool → Type 0
  OrWaitsInVain told = told ≡ false → (s : State A) → Stands k s → ((step s (Resume number)).reply ≡ Parked number) × MovesNoByte (step s (Resume number)).flow

-- how many masks the next try of a parked call answers, if it is a poll that can get on
abbrev pub ready_entries : {A : Type 0} → Contents A → ℕ → ℕ
ready_entries {A} k number = masks_again (core_of {A = A} k) (get nat_eq (core_of {A = A} k).parked number)

-- a call waits under the number, and can get on
abbrev pub is_ready : {A : Type 0} {K : Keys} → Core A K → ℕ → Bool
is_ready s number = is_some (get nat_eq s.parked number) && can_progress s number

-- it is the least number, from one on, that passes the test; none says that no number from there on does
abbrev pub IsLeastFrom : (test : ℕ → Bool) → (from : ℕ) → Option ℕ → Type 0
IsLeastFrom test from None = (other : ℕ) → from ≤ other → test other ≡ false
IsLeastFrom test from (Some number) = (from ≤ number) × (test number ≡ true) × ((other : ℕ) → from ≤ other → test other ≡ true → number ≤ other)

-- The next call that can get on was told so: for each state for which the kernel stands, it is the flat machine's.
abbrev pub TellsNextReady : {A : Type 0} → Contents A → (from : ℕ) → Option ℕ → Type 0
TellsNextReady {A} k from told = (s : State A) → Stands k s → IsLeastFrom (is_ready s.core) from told
