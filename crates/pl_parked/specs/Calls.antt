-- The calls that wait.
use Rattle.std.specs.Prelude.{ℕ, Bool, ◌&&◌, nat_eq, nat_le}
use Rattle.pl_model.specs.Map.{Map}
use Rattle.pl_parked.specs.declared.call.ParkedCall.{ParkedCall}

-- the calls by number, and the number that the next one gets
pub record Calls (A : Type 0) : Type 0 where
  pub calls : Map ℕ (ParkedCall A)
  pub next : ℕ

-- the call is one of the process
abbrev pub is_of : {A : Type 0} → ℕ → ℕ × ParkedCall A → Bool
is_of pid entry = nat_eq entry.1.pid pid

-- the call is one of the process, under this number or above it
abbrev pub is_of_from : {A : Type 0} → ℕ → ℕ → ℕ × ParkedCall A → Bool
is_of_from pid from entry = is_of pid entry && nat_le from entry.0
