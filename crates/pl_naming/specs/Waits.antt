-- Opens of FIFOs that wait for the other end.
use Rattle.std.specs.Prelude.{◌≡◌, ◌<◌, ◌+◌, ◌++◌, [], ◌∷◌, ℕ, List, nat_eq, Some, None}
use Rattle.pl_model.specs.declared.calls.Call.{Call}
use Rattle.pl_model.specs.declared.calls.Mode.{Mode}
use Rattle.pl_model.specs.declared.flags.OpenFlags.{OpenFlags}
use Rattle.pl_model.specs.Map.{set_at}
use Rattle.pl_model.specs.Begin.{await_other_end}
use Rattle.pl_model.specs.Step.{begin}
use Rattle.pl_parked.specs.declared.call.ParkedCall.{ParkedCall}
use Rattle.pl_parked.specs.Calls.{Calls}
use Rattle.pl_desc.specs.Rows.{at, count_at, change_count, one_more}
use Rattle.pl_desc.specs.Descs.{Opened, Descs, IsTidy, live_count}
use Rattle.pl_state.specs.Contents.{Contents, core_of}
use Rattle.pl_state.specs.Parking.{call_on}
use Rattle.pl_model.specs.Tables.{description_limit}

module _ {A : Type 0} where
  -- the open of a FIFO, which waits with one description
  abbrev pub open_on : (key pid pipe : ℕ) → Call A → ParkedCall A
  open_on key pid pipe call = record (call_on key pid call 0) { fifo = Some pipe }

  -- the call is parked with a description that was opened for it, and nothing else holds
  pub record Awaits (descs : Descs) (calls : Calls A) (descs' : Descs) (calls' : Calls A) (key : ℕ) (call : ParkedCall A) (end : Opened) : Type 0 where
    pub vacant : at descs.opened key ≡ None
    pub opened : at descs'.opened ≡ set_at nat_eq (at descs.opened) key (Some end)
    pub loose : count_at descs'.loose ≡ change_count key one_more (count_at descs.loose)
    pub tables : descs'.tables ≡ descs.tables
    pub limits : descs'.limits ≡ descs.limits
    pub tidy : IsTidy descs'
    pub parked : calls' ≡ record { calls = calls.calls ++ (calls.next, call) ∷ []; next = calls.next + 1 }

  -- the open of the name passes the checks, and is to wait for the other end of the FIFO
  pub record Waits (k : Contents A) (pid : ℕ) (name : List ℕ) (pipe : ℕ) (mode : Mode) (flags : OpenFlags) : Type 0 where
    pub begun : begin (core_of k) pid (Call.OpenName name mode flags) ≡ await_other_end (core_of k) pid pipe mode flags
    pub few : live_count k.opened < description_limit k.limits
