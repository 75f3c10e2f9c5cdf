-- Opens of a FIFO that wait for its other end (fifo(7); POSIX.1-2017, open, O_RDONLY and O_WRONLY).
use Rattle.std.specs.Prelude.{ℕ, Bool, true, false, ◌&&◌, map, if◌then◌else◌, nat_eq}
use Rattle.std.specs.declared.option.Option.TheVariants.{Some}
use Rattle.std.specs.Option.{option_eq}
use Rattle.pl_model.specs.declared.calls.Call.{Call}
use Rattle.pl_model.specs.declared.calls.Call.TheVariants.{OpenName}
use Rattle.pl_model.specs.declared.calls.Mode.{Mode}
use Rattle.pl_model.specs.Map.{Map}
use Rattle.pl_model.specs.Modes.{lacks_end_of}
use Rattle.pl_parked.specs.declared.call.ParkedCall.{ParkedCall}

-- the call is an open whose mode lacks an end that the mode has
abbrev pub is_open_without : {A : Type 0} → Mode → Call A → Bool
is_open_without mode (OpenName name own flags) = lacks_end_of own mode
is_open_without mode call = false

-- the call is an open of the FIFO of this pipe, and lacks an end that the mode has
abbrev pub meets : {A : Type 0} → ℕ → Mode → ParkedCall A → Bool
meets pipe mode call = option_eq nat_eq call.fifo (Some pipe) && is_open_without mode call.call

-- the call, met where it meets an open of the FIFO with the mode
abbrev pub marked : {A : Type 0} → ℕ → Mode → ParkedCall A → ParkedCall A
marked pipe mode call = if meets pipe mode call then record call { met = true } else call

-- the calls, each met where it meets the open
abbrev pub all_marked : {A : Type 0} → ℕ → Mode → Map ℕ (ParkedCall A) → Map ℕ (ParkedCall A)
all_marked pipe mode calls = map (λ e. (e.0, marked pipe mode e.1)) calls
