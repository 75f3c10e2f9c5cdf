-- FIFOs: pipes that a name stands for.
use Rattle.std.specs.Prelude.{ℕ, List, Bool, true, false, ◌&&◌, ◌||◌, nat_lt, map, if◌then◌else◌}
use Rattle.std.specs.List.{list_any}
use Rattle.std.specs.Ordering.{nat_cmp}
use Rattle.std.specs.Cmp.Lexicographic.{slice_cmp}
use Rattle.pl_model.specs.declared.calls.Mode.{Mode}
use Rattle.pl_model.specs.declared.calls.Mode.TheVariants.{Read, Write, Both}
use Rattle.pl_model.specs.declared.calls.Call.{Call}
use Rattle.pl_model.specs.declared.flags.OpenFlags.{OpenFlags}
use Rattle.pl_model.specs.Flags.{has, nonblock}
use Rattle.pl_model.specs.Map.{put_in_order}
use Rattle.pl_model.specs.Modes.{lacks_end_of, any_mode}
use Rattle.pl_model.specs.Keys.{Keys, PipeNode}
use Rattle.pl_model.specs.State.{Core, Waiting, set_pipe, empty_pipe}
use Rattle.pl_model.specs.Live.{is_end, readers, writers}

-- POSIX.1-2017, open: an open for writing needs a reader, and one for reading a writer, unless it has O_NONBLOCK. fifo(7): one for
-- both needs nobody.
abbrev pub opens_at_once : Mode → (has_reader has_writer nonblocking : Bool) → Bool
opens_at_once Read has_reader has_writer nonblocking = has_writer || nonblocking
opens_at_once Write has_reader has_writer nonblocking = has_reader
opens_at_once Both has_reader has_writer nonblocking = true

-- the call is an open whose mode lacks an end that the mode has
abbrev pub is_open_without : {A : Type 0} → Mode → Call A → Bool
is_open_without mode (Call.OpenName name own flags) = lacks_end_of own mode
is_open_without mode call = false

module _ {A : Type 0} {K : Keys} where
  -- POSIX.1-2017, mkfifo: the name stands for a new pipe, which holds nothing. Names are in the order of their bytes.
  abbrev pub create_fifo : Core A K → List ℕ → K.Pipe → Core A K
  create_fifo s name p = record (set_pipe s p empty_pipe) { names = put_in_order (slice_cmp nat_cmp) s.names name (PipeNode p) }

  -- the FIFO can be opened so, as it is
  abbrev pub can_open : Core A K → K.Pipe → Mode → OpenFlags → Bool
  can_open s p mode flags = opens_at_once mode (nat_lt 0 (readers s p)) (nat_lt 0 (writers s p)) (has flags.0 nonblock)

  -- the waiting call is an open of the FIFO, which lacks an end that the mode has
  abbrev pub meets : Core A K → K.Pipe → Mode → Waiting A K → Bool
  meets s p mode w = is_open_without mode w.call && list_any (λ d. is_end any_mode (PipeNode p) (s.descriptions d)) w.kept

  -- POSIX.1-2017, open; fifo(7): the opens that wait for the other end meet an open of the FIFO with this mode. They have met for good,
  -- whatever is closed before they are tried again (our own).
  abbrev pub meet : Core A K → K.Pipe → Mode → Core A K
  meet s p mode = record s { parked = map (λ e. (e.0, if meets s p mode e.1 then record e.1 { met = true } else e.1)) s.parked }
