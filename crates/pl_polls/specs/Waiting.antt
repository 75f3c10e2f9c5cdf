-- A poll that waits, in the kernel.
use Rattle.std.specs.Prelude.{ℕ, ℤ, true, false, List}
use Rattle.std.specs.List.{filter_map}
use Rattle.std.specs.declared.option.Option.TheVariants.{None}
use Rattle.pl_model.specs.declared.calls.Call.TheVariants.{Poll}
use Rattle.pl_model.specs.declared.flags.PollMask.{PollMask}
use Rattle.pl_parked.specs.declared.call.ParkedCall.{ParkedCall}
use Rattle.pl_desc.specs.Rows.{Tables, row_of}

-- the keys of the descriptions that the entries name
abbrev pub keys_named : Tables → ℕ → List (ℤ × PollMask) → List ℕ
keys_named tables pid entries = filter_map (λ e. row_of tables pid e.0) entries

-- a poll of the process that waits, with what its entries name
abbrev pub poll_of : {A : Type 0} → Tables → ℕ → List (ℤ × PollMask) → ParkedCall A
poll_of tables pid entries = record { pid = pid; call = Poll entries true; kept = keys_named tables pid entries; fifo = None; taken = 0; met = false }
