-- The calls that wait, by their processes.
use Rattle.std.specs.Prelude.{◌≡◌, ℕ, Bool, false, Option, nat_eq}
use Rattle.std.specs.declared.option.Option.TheVariants.{None, Some}
use Rattle.pl_model.specs.Map.{Map, get}
use Rattle.pl_parked.specs.declared.call.ParkedCall.{ParkedCall}

-- there is a call, and it is one of the process
abbrev pub is_call_of : {A : Type 0} → ℕ → Option (ParkedCall A) → Bool
is_call_of pid None = false
is_call_of pid (Some call) = nat_eq call.pid pid

-- they are the calls, each with its own process
abbrev pub ListsAll : {A : Type 0} → ((pid number : ℕ) → Bool) → Map ℕ (ParkedCall A) → Type 0
ListsAll owns calls = (pid number : ℕ) → owns pid number ≡ is_call_of pid (get nat_eq calls number)
