-- What is told of a parked call: what it has taken, and whose it is.
use Rattle.std.specs.Prelude.{◌≡◌, ℕ, nat_eq, Option, option_map}
use Rattle.pl_model.specs.Map.{get}
use Rattle.pl_model.specs.Numbered.{State}
use Rattle.pl_state.specs.Contents.{Contents}
use Rattle.pl_state.specs.Makes.{Stands}

module _ {A : Type 0} where
  -- how many bytes the parked call of a number has taken, if it is there
  abbrev pub taken_by : State A → ℕ → Option ℕ
  taken_by s number = option_map (λ w. w.taken) (get nat_eq s.core.parked number)

  -- the process that began the parked call of a number, if it is there
  abbrev pub owner_by : State A → ℕ → Option ℕ
  owner_by s number = option_map (λ w. w.pid) (get nat_eq s.core.parked number)

  -- They were told so: for each state for which the kernel stands, they are the flat machine's.
  abbrev pub TellsTaken : Contents A → ℕ → Option ℕ → Type 0
  TellsTaken k number told = (s : State A) → Stands k s → told ≡ taken_by s number

  -- so was the process
  abbrev pub TellsOwner : Contents A → ℕ → Option ℕ → Type 0
  TellsOwner k number told = (s : State A) → Stands k s → told ≡ owner_by s number
