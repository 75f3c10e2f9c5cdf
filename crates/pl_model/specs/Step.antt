-- One step of the machine.
use Rattle.std.specs.Prelude.{ℕ, pos, ◌+◌, Bool, true, false, ◌&&◌, ◌==◌, nat_eq, nat_lt, List, [], ◌∷◌, ◌++◌, Option, slice_get, option_and_then, if◌then◌else◌}
use Rattle.std.specs.declared.option.Option.TheVariants.{None, Some}
use Rattle.pl_model.specs.declared.calls.Call.{Call}
use Rattle.pl_model.specs.declared.calls.Step.{Step}
use Rattle.pl_model.specs.declared.calls.Step.TheVariants.{Start, Begin, Resume, Interrupt}
use Rattle.pl_model.specs.declared.replies.Reply.{Reply}
use Rattle.pl_model.specs.declared.replies.Reply.TheVariants.{Pid, Fd, Unit, Fault, Parked, NoProcess, NoCall, CallsSpent}
use Rattle.pl_model.specs.declared.replies.Errno.TheVariants.{EAGAIN, EBADF, EINTR, EMFILE}
use Rattle.pl_model.specs.Numbers.{last_call}
use Rattle.pl_model.specs.Map.{get, put, without}
use Rattle.pl_model.specs.Keys.{Keys, Drawing, Plain, drawing_map}
use Rattle.pl_model.specs.State.{Core, Open, described, can_wait, Waiting}
use Rattle.pl_model.specs.Settle.{settle}
use Rattle.pl_model.specs.Tables.{lowest, lowest_pid, install, start, exit}
use Rattle.pl_model.specs.Trial.{Trial, Flow, Done, Wait, still, flowed, Begun, Refused, Answered, Tried, Begins, answered}
use Rattle.pl_model.specs.Transfer.{read_node, write_node, count}
use Rattle.pl_model.specs.Splice.{side, try_move}
use Rattle.pl_model.specs.Poll.{try_poll}
use Rattle.pl_model.specs.Begin.{begin_pipe, begin_read, begin_write, begin_splice, begin_tee, begin_poll, begin_dup, begin_dup2, begin_dup_fd, begin_mkfifo, begin_open_name, begin_close, begin_lseek, begin_get_fl, begin_set_fl, begin_get_pipe_sz, begin_set_pipe_sz, begin_unlink, begin_fork}

-- the state that a step leaves, its reply, and the bytes that it moved
pub record Stepped (A : Type 0) (K : Keys) : Type 0 where
  pub state : Core A K
  pub reply : Reply A
  pub flow : Flow K

module _ {A : Type 0} {K : Keys} where
  -- with a kept description, which is there
  abbrev pub with_kept : Core A K → Option (Open K) → (Open K → Trial A K) → Trial A K
  with_kept s None next = Done s still (Fault EBADF)
  with_kept s (Some o) next = next o

  -- the kept description at a place
  abbrev pub kept_at : Core A K → List K.Description → ℕ → Option (Open K)
  kept_at s kept i = option_and_then (described s) (slice_get kept i)

  -- with the two kept descriptions, which are there
  abbrev pub with_both : Core A K → List K.Description → (Open K → Open K → Trial A K) → Trial A K
  with_both s kept next = with_kept s (kept_at s kept 0) (λ a. with_kept s (kept_at s kept 1) (next a))

  abbrev pub opened_by : Core A K → ℕ → K.Description → Option ℕ → Trial A K
  opened_by s pid d None = Done s still (Fault EMFILE)
  opened_by s pid d (Some fd) = Done (install s pid fd d) still (Fd (pos fd))

  -- POSIX.1-2017, open: an open that met its other end gives its description the least free descriptor, or EMFILE.
  abbrev pub try_open : Core A K → Waiting A K → Trial A K
  try_open s w = if w.met then with_kept s (kept_at s w.kept 0) (λ o. opened_by s w.pid o.key (lowest s w.pid 0)) else Wait s still w.taken

  -- One try of a call, on the descriptions that it keeps. Only a call that can wait is ever tried.
  unfoldable pub try : Core A K → Waiting A K → Call A → Bool → Trial A K
  try s w (Call.Read fd n) may_wait = with_kept s (kept_at s w.kept 0) (λ o. read_node s o.key o.description o.description.node n)
  try s w (Call.Write fd bytes) may_wait = with_kept s (kept_at s w.kept 0) (λ o. write_node s o.key o.description o.description.node bytes w.taken may_wait)
  try s w (Call.OpenName name mode flags) may_wait = try_open s w
  try s w (Call.Splice from from_offset to to_offset len flags) may_wait = with_both s w.kept (λ a b. try_move s (side a from_offset) (side b to_offset) len false)
  try s w (Call.Tee from to len flags) may_wait = with_both s w.kept (λ a b. try_move s (side a None) (side b None) len true)
  try s w (Call.Poll entries wait) may_wait = try_poll s entries w.kept may_wait
  try s w call may_wait = Wait s still w.taken

  -- the checks of a call, in order
  unfoldable pub begin : Core A K → ℕ → Call A → Begins A K
  begin s pid (Call.Pipe nonblock direct) = begin_pipe s pid nonblock direct
  begin s pid (Call.Mkfifo name) = begin_mkfifo s name
  begin s pid (Call.OpenName name mode flags) = begin_open_name s pid name mode flags
  begin s pid (Call.Read fd n) = begin_read s pid fd n
  begin s pid (Call.Write fd bytes) = begin_write s pid fd bytes
  begin s pid (Call.Splice from from_offset to to_offset len flags) = begin_splice s pid from from_offset to to_offset len flags
  begin s pid (Call.Tee from to len flags) = begin_tee s pid from to len flags
  begin s pid (Call.Poll entries wait) = begin_poll s pid entries wait
  begin s pid (Call.Dup fd) = begin_dup s pid fd
  begin s pid (Call.Dup2 fd target) = begin_dup2 s pid fd target
  begin s pid (Call.DupFd fd least) = begin_dup_fd s pid fd least
  begin s pid (Call.Close fd) = begin_close s pid fd
  begin s pid (Call.Lseek fd offset whence) = begin_lseek s pid fd offset whence
  begin s pid (Call.GetFl fd) = begin_get_fl s pid fd
  begin s pid (Call.SetFl fd flags) = begin_set_fl s pid fd flags
  begin s pid (Call.GetPipeSz fd) = begin_get_pipe_sz s pid fd
  begin s pid (Call.SetPipeSz fd size) = begin_set_pipe_sz s pid fd size
  begin s pid (Call.Unlink name) = begin_unlink s name
  begin s pid Call.Fork = begin_fork s pid
  begin s pid Call.Exit = answered (exit s pid) Unit

  abbrev pub stepped : Core A K → Reply A → Stepped A K
  stepped s reply = record { state = s; reply = reply; flow = still }

  -- the call stands under the next number
  abbrev pub parked : Core A K → Waiting A K → Core A K
  parked s w = record s { parked = s.parked ++ (s.next_call, w) ∷ []; next_call = s.next_call + 1 }

  -- What becomes of a first try. A call that waits is refused where it may not (POSIX.1-2017, read and write, EAGAIN),
  -- and where no number is left for it, with nothing taken; else it is parked.
  abbrev pub first_tried : Core A K → Waiting A K → Bool → Trial A K → Stepped A K
  first_tried before w may_wait (Done s flow reply) = record { state = flowed s flow; reply = reply; flow = flow }
  first_tried before w false (Wait s flow taken) = stepped before (Fault EAGAIN)
  first_tried before w true (Wait s flow taken) =
      if before.next_call == last_call then stepped before CallsSpent
      else record { state = parked (flowed s flow) (record w { taken = taken }); reply = Parked before.next_call; flow = flow }

  -- the call as it is first tried
  abbrev pub waiting : ℕ → Call A → List K.Description → Bool → Waiting A K
  waiting pid call kept met = record { pid = pid; call = call; kept = kept; taken = 0; met = met }

  -- That a call which would wait is refused too where the limit of waiting calls is reached is our own.
  abbrev pub begun : Core A K → ℕ → Call A → Begun A K → Stepped A K
  begun before pid call (Refused errno) = stepped before (Fault errno)
  begun before pid call (Answered s reply) = stepped s reply
  begun before pid call (Tried s kept met may_wait) =
      first_tried before (waiting pid call kept met) (may_wait && can_wait before pid) (try s (waiting pid call kept met) call may_wait)

  abbrev pub without_call : Core A K → ℕ → Core A K
  without_call s c = record s { parked = without nat_eq s.parked c }

  abbrev pub parked_again : Core A K → ℕ → Waiting A K → Core A K
  parked_again s c w = record s { parked = put nat_eq s.parked c w }

  -- What becomes of a later try: the call ends, or still waits under its number.
  abbrev pub tried_again : ℕ → Waiting A K → Trial A K → Stepped A K
  tried_again c w (Done s flow reply) = record { state = without_call (flowed s flow) c; reply = reply; flow = flow }
  tried_again c w (Wait s flow taken) = record { state = parked_again (flowed s flow) c (record w { taken = taken }); reply = Parked c; flow = flow }

  abbrev pub resumed : Core A K → ℕ → Option (Waiting A K) → Stepped A K
  resumed s c None = stepped s NoCall
  resumed s c (Some w) = tried_again c w (try s w w.call true)

  -- POSIX.1-2017, write, EINTR: a write that took bytes answers their count, every other call that it was interrupted.
  abbrev pub interrupted : Core A K → ℕ → Option (Waiting A K) → Stepped A K
  interrupted s c None = stepped s NoCall
  interrupted s c (Some w) = stepped (without_call s c) (if nat_lt 0 w.taken then count w.taken else Fault EINTR)

  -- POSIX.1-2017, fork, EAGAIN: no process more.
  abbrev pub started : Core A K → Option ℕ → Stepped A K
  started s None = stepped s (Fault EAGAIN)
  started s (Some pid) = stepped (start s pid) (Pid pid)

  -- what happens at once
  unfoldable pub happen : Core A K → Step A → Drawing K (Stepped A K)
  happen s Start = Plain (started s (lowest_pid s))
  happen s (Begin pid call) = if s.processes pid then drawing_map (begun s pid call) (begin s pid call) else Plain (stepped s NoProcess)
  happen s (Resume c) = Plain (resumed s c (get nat_eq s.parked c))
  happen s (Interrupt c) = Plain (interrupted s c (get nat_eq s.parked c))

  abbrev pub ended : Core A K → Stepped A K → Stepped A K
  ended before h = record h { state = settle before h.state }

  -- a step of the machine, where new keys may be wanted for it
  unfoldable pub core_step : Core A K → Step A → Drawing K (Stepped A K)
  core_step s x = drawing_map (ended s) (happen s x)
