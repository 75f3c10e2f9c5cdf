-- Opens of FIFOs that wait for another end and weren't met.
use Rattle.std.specs.Prelude.{◌≡◌, ℕ, Bool, true, false, ◌&&◌, ◌||◌, if◌then◌else◌, Option, option_map, option_and_then, nat_eq}
use Rattle.std.specs.declared.option.Option.TheVariants.{None, Some}
use Rattle.std.specs.declared.cmp.Ordering.{Ordering}
use Rattle.std.specs.Ordering.{nat_cmp, bool_cmp, ordering_then, is_eq}
use Rattle.std.specs.BTreeSet.{BTreeSet, contains}
use Rattle.pl_model.specs.declared.calls.Call.{Call}
use Rattle.pl_model.specs.declared.calls.Call.TheVariants.{OpenName}
use Rattle.pl_model.specs.declared.calls.Mode.{Mode}
use Rattle.pl_model.specs.declared.calls.Mode.TheVariants.{Read, Write, Both}
use Rattle.pl_model.specs.Map.{Map, get}
use Rattle.pl_model.specs.Modes.{reads, writes}
use Rattle.pl_parked.specs.declared.call.ParkedCall.{ParkedCall}
use Rattle.pl_parked.specs.declared.opens.WaitingOpen.{WaitingOpen}

-- how two opens that wait stand in order
abbrev pub order : WaitingOpen → WaitingOpen → Ordering
order a b = ordering_then (nat_cmp a.pipe b.pipe) (ordering_then (bool_cmp a.reads b.reads) (nat_cmp a.number b.number))

-- the open is in the set
abbrev pub is_in : BTreeSet WaitingOpen → WaitingOpen → Bool
is_in set key = contains order set key

-- the open is the one that there is
abbrev pub is_named : Option WaitingOpen → WaitingOpen → Bool
is_named None key = false
is_named (Some one) key = is_eq (order one key)

-- an open of a mode that lacks an end reads, or it writes
abbrev pub reads_alone : Mode → Option Bool
reads_alone Read = Some true
reads_alone Write = Some false
reads_alone Both = None

-- the same of a call, if it is an open
abbrev pub opens_to_read : {A : Type 0} → Call A → Option Bool
opens_to_read (OpenName name mode flags) = reads_alone mode
opens_to_read call = None

abbrev pub key_of : ℕ → Bool → ℕ → WaitingOpen
key_of pipe to_read number = record { pipe = pipe; reads = to_read; number = number }

-- how a call of this number is listed, if it is an open that waits and wasn't met
abbrev pub waiting_open : {A : Type 0} → ℕ → ParkedCall A → Option WaitingOpen
waiting_open number call = if call.met then None else option_and_then (λ to_read. option_map (λ pipe. key_of pipe to_read number) call.fifo) (opens_to_read call.call)

-- an open of this number that an open with the mode meets is in the set
abbrev pub has_met : BTreeSet WaitingOpen → ℕ → Mode → ℕ → Bool
has_met set pipe mode number = (reads mode && is_in set (key_of pipe false number)) || (writes mode && is_in set (key_of pipe true number))

-- the set has the calls that are opens which wait and weren't met
abbrev pub Lists : {A : Type 0} → BTreeSet WaitingOpen → Map ℕ (ParkedCall A) → Type 0
Lists set calls = (key : WaitingOpen) → is_in set key ≡ is_named (option_and_then (waiting_open key.number) (get nat_eq calls key.number)) key
