-- A step that is refused leaves a settled state as it was.
use Rattle.std.proofs.Common.{ap, sym, subst, ◌∙◌, ℕ, ℤ, Bool, true, false, cond, Option, List, [], ◌∷◌, ◌≡◌, refl, nat_eq}
use Rattle.std.specs.declared.option.Option.TheVariants.{None, Some}
use Rattle.std.specs.Prelude.{◌==◌, nat_lt, length, is_some, ◌&&◌, ◌||◌, not}
use Rattle.pl_model.specs.declared.calls.Call.{Call}
use Rattle.pl_model.specs.declared.calls.Mode.{Mode}
use Rattle.pl_model.specs.declared.calls.Step.{Step}
use Rattle.pl_model.specs.declared.calls.Step.TheVariants.{Start, Begin, Resume, Interrupt}
use Rattle.pl_model.specs.declared.cases.ReadCase.{ReadCase}
use Rattle.pl_model.specs.declared.cases.WriteCase.{WriteCase}
use Rattle.pl_model.specs.declared.cases.MoveCase.{MoveCase}
use Rattle.pl_model.specs.declared.flags.OpenFlags.{OpenFlags}
use Rattle.pl_model.specs.declared.flags.PollMask.{PollMask}
use Rattle.pl_model.specs.declared.replies.Reply.{Reply}
use Rattle.pl_model.specs.declared.replies.Reply.TheVariants.{Fault, NoProcess, NoCall, CallsSpent, Parked}
use Rattle.pl_model.specs.declared.replies.Errno.TheVariants.{EEXIST, EINTR, ENOSPC, EINVAL}
use Rattle.pl_model.specs.declared.replies.Errno.{Errno}
use Rattle.pl_model.specs.Numbers.{last_call}
use Rattle.pl_model.specs.Map.{get}
use Rattle.pl_model.specs.Memory.{is_refusal}
use Rattle.pl_model.specs.Keys.{Keys, Node, NewKeys, Drawing, PipeNode, FileNode, Plain, Draws, drawn, drawing_map}
use Rattle.pl_model.specs.State.{Core, Pipe, Description, Open, Waiting, named, can_name, can_wait}
use Rattle.pl_model.specs.Settle.{settle}
use Rattle.pl_model.specs.Trial.{Trial, Done, Wait, Flow, still, flowed, pipe_at, Begun, Begins, Refused, Answered, Tried, found, refuse_if}
use Rattle.pl_model.specs.Transfer.{count, read_row, write_row, read_case, write_case, read_pipe, write_pipe, read_file, write_file, read_node, write_node}
use Rattle.pl_model.specs.Splice.{Side, is_packet_pipe, move_case, move_row, source_of, target_of, try_move}
use Rattle.pl_model.specs.Poll.{try_poll}
use Rattle.pl_model.specs.Tables.{lowest, lowest_pid, describe}
use Rattle.pl_model.specs.Flags.{status_flags}
use Rattle.pl_model.specs.Fifo.{create_fifo, meet}
use Rattle.pl_model.specs.Begin.{check_name, await_other_end, open_named, begin_pipe, begin_mkfifo, begin_open_name, begin_read, begin_write, begin_splice, begin_tee, begin_poll, begin_dup, begin_dup2, begin_dup_fd, begin_close, begin_lseek, begin_get_fl, begin_set_fl, begin_get_pipe_sz, begin_set_pipe_sz, begin_unlink, begin_fork}
use Rattle.pl_model.specs.Step.{Stepped, with_kept, opened_by, try, try_open, begin, begun, happen, core_step, ended, first_tried, interrupted, parked, resumed, started, stepped, tried_again, waiting, without_call}
use Rattle.pl_model.specs.Numbered.{numbers, State, After, next_numbers, step_of, step}
use Rattle.pl_model.specs.Refused.{is_refused, with_call_ended}
use Rattle.pl_model.specs.Laws.{IsSettled}
use Rattle.pl_model.proofs.by_call.Ways.{LeadsTo, Refusable, ways, trial_if}

module _ {A : Type 0} where
  begin-refused : (pid : ℕ) (call : Call A) (reply : Reply A) → is_refused (Begin pid call) reply ≡ is_refusal reply
  begin-refused pid call (Reply.Pid n) = refl
  begin-refused pid call (Reply.Fd a) = refl
  begin-refused pid call (Reply.Fds a b) = refl
  begin-refused pid call (Reply.Count n sigpipe) = refl
  begin-refused pid call (Reply.Bytes bytes) = refl
  begin-refused pid call (Reply.Offset n) = refl
  begin-refused pid call (Reply.Flags mode flags) = refl
  begin-refused pid call (Reply.Size n) = refl
  begin-refused pid call (Reply.Masks ready masks) = refl
  begin-refused pid call Reply.Unit = refl
  begin-refused pid call (Fault errno) = refl
  begin-refused pid call (Parked c) = refl
  begin-refused pid call NoProcess = refl
  begin-refused pid call NoCall = refl
  begin-refused pid call CallsSpent = refl

module _ {A : Type 0} {K : Keys} where
  -- what a try may answer: a fault with no change, and nothing that is said of calls that aren't tried, or by what waits
  abbrev pub Fair : Core A K → Core A K → Flow K → Reply A → Type 0
  Fair s u flow (Fault errno) = (u ≡ s) × (flow ≡ still)
  Fair s u flow (Parked c) = ⊥
  Fair s u flow NoProcess = ⊥
  Fair s u flow NoCall = ⊥
  Fair s u flow CallsSpent = ⊥
  Fair s u flow reply = Unit {0}

  abbrev pub IsFair : Core A K → Trial A K → Type 0
  IsFair s (Done u flow reply) = Fair s u flow reply
  IsFair s (Wait u flow taken) = Unit {0}

  -- what the checks of a call may lead to: an answer that is no refusal, or a try that refuses nothing but in the state of before
  abbrev IsPlainBegun : Core A K → ℕ → Call A → Begun A K → Type 0
  IsPlainBegun s pid call (Refused errno) = Unit {0}
  IsPlainBegun s pid call (Answered u reply) = is_refusal reply ≡ false
  IsPlainBegun s pid call (Tried u kept met may_wait) = IsFair s (try u (waiting pid call kept met) call may_wait)

  refusable : (s : Core A K) (pid : ℕ) (call : Call A) → Refusable (IsPlainBegun s pid call)
  refusable s pid call = record { refused = λ errno. tt }

  fair_kept : (s : Core A K) (o : Option (Open K)) (next : Open K → Trial A K) → ((x : Open K) → IsFair s (next x)) → IsFair s (with_kept s o next)
  fair_kept s None next h = (refl, refl)
  fair_kept s (Some x) next h = h x

  fair_if : (s : Core A K) (b : Bool) (x y : Trial A K) → IsFair s x → IsFair s y → IsFair s (cond b x y)
  fair_if s b x y f g = trial_if (IsFair s) b x y (λ _. f) (λ _. g)

  read_row-fair : (s : Core A K) (p : K.Pipe) (pipe : Pipe) (row : ReadCase) → IsFair s (read_row s p pipe row)
  read_row-fair s p pipe (ReadCase.Gives n) = tt
  read_row-fair s p pipe ReadCase.EndOfFile = tt
  read_row-fair s p pipe ReadCase.Waits = tt

  write_row-fair : (s : Core A K) (p : K.Pipe) (bytes : List ℕ) (t : ℕ) (row : WriteCase) → IsFair s (write_row s p bytes t row)
  write_row-fair s p bytes t WriteCase.Broken = (refl, refl)
  write_row-fair s p bytes t WriteCase.CutShort = tt
  write_row-fair s p bytes t (WriteCase.Ends from to) = tt
  write_row-fair s p bytes t (WriteCase.Waits from to) = tt

  read_node-fair : (s : Core A K) (d : K.Description) (description : Description K) (node : Node K) (n : ℕ) → IsFair s (read_node s d description node n)
  unfolding read_pipe read_file
  read_node-fair s d description (PipeNode p) n = read_row-fair s p (pipe_at s p) (read_case n _ _)
  read_node-fair s d description (FileNode f) n = tt

  write_node-fair : (s : Core A K) (d : K.Description) (description : Description K) (node : Node K) (bytes : List ℕ) (t : ℕ) (w : Bool) → IsFair s (write_node s d description node bytes t w)
  unfolding write_pipe write_file
  write_node-fair s d description (PipeNode p) bytes t w = write_row-fair s p bytes t (write_case (length bytes) t _ _ w)
  write_node-fair s d description (FileNode f) bytes t w = search fair_if

  move_row-fair : (s : Core A K) (from to : Side K) (is_tee : Bool) (row : MoveCase) → IsFair s (move_row s from to is_tee row)
  move_row-fair s from to is_tee MoveCase.Broken = (refl, refl)
  move_row-fair s from to is_tee MoveCase.EndOfInput = tt
  move_row-fair s from to is_tee MoveCase.Waits = tt
  move_row-fair s from to is_tee MoveCase.TooBig = (refl, refl)
  move_row-fair s from to is_tee (MoveCase.Moves k) = tt

  move-fair : (s : Core A K) (from to : Side K) (len : ℕ) (is_tee : Bool) → IsFair s (try_move s from to len is_tee)
  unfolding try_move
  move-fair s from to len is_tee = at (is_packet_pipe s from.description.node || is_packet_pipe s to.description.node)
    where
      at : (b : Bool) → IsFair s (cond b (Done s still (Fault EINVAL)) (move_row s from to is_tee (move_case (source_of s from from.description.node) (target_of s to to.description.node) len)))
      at true = (refl, refl)
      at false = move_row-fair s from to is_tee (move_case (source_of s from from.description.node) (target_of s to to.description.node) len)

  poll-fair : (s : Core A K) (entries : List (ℤ × PollMask)) (kept : List K.Description) (may_wait : Bool) → IsFair s (try_poll s entries kept may_wait)
  unfolding try_poll
  poll-fair s entries kept may_wait = search fair_if

  opened_by-fair : (s : Core A K) (pid : ℕ) (d : K.Description) (place : Option ℕ) → IsFair s (opened_by s pid d place)
  opened_by-fair s pid d None = (refl, refl)
  opened_by-fair s pid d (Some fd) = tt

  try_open-fair : (s : Core A K) (w : Waiting A K) → IsFair s (try_open s w)
  try_open-fair s w = fair_if s w.met _ _ (fair_kept s _ _ (λ o. opened_by-fair s w.pid o.key (lowest s w.pid 0))) tt

  pub try-fair : (s : Core A K) (w : Waiting A K) (call : Call A) (may_wait : Bool) → IsFair s (try s w call may_wait)
  unfolding try
  try-fair s w (Call.Read fd n) may_wait = fair_kept s _ _ (λ o. read_node-fair s o.key o.description o.description.node n)
  try-fair s w (Call.Write fd bytes) may_wait = fair_kept s _ _ (λ o. write_node-fair s o.key o.description o.description.node bytes w.taken may_wait)
  try-fair s w (Call.Splice from from_offset to to_offset len flags) may_wait = search (fair_kept, move-fair)
  try-fair s w (Call.Tee from to len flags) may_wait = search (fair_kept, move-fair)
  try-fair s w (Call.Poll entries wait) may_wait = poll-fair s entries w.kept may_wait
  try-fair s w (Call.Pipe nonblock direct) may_wait = tt
  try-fair s w (Call.Mkfifo name) may_wait = tt
  try-fair s w (Call.OpenName name mode flags) may_wait = try_open-fair s w
  try-fair s w (Call.Dup fd) may_wait = tt
  try-fair s w (Call.Dup2 fd target) may_wait = tt
  try-fair s w (Call.DupFd fd least) may_wait = tt
  try-fair s w (Call.Close fd) may_wait = tt
  try-fair s w (Call.Lseek fd offset whence) may_wait = tt
  try-fair s w (Call.GetFl fd) may_wait = tt
  try-fair s w (Call.SetFl fd flags) may_wait = tt
  try-fair s w (Call.GetPipeSz fd) may_wait = tt
  try-fair s w (Call.SetPipeSz fd size) may_wait = tt
  try-fair s w (Call.Unlink name) may_wait = tt
  try-fair s w Call.Fork may_wait = tt
  try-fair s w Call.Exit may_wait = tt

  -- a try in the state of before is fair
  tries-plain : (s : Core A K) (pid : ℕ) (call : Call A) (kept : List K.Description) (met may_wait : Bool) → IsPlainBegun s pid call (Tried s kept met may_wait)
  tries-plain s pid call kept met may_wait = try-fair s (waiting pid call kept met) call may_wait

  -- an open that waits answers nothing yet
  open_waits-plain : (s u : Core A K) (pid : ℕ) (name : List ℕ) (mode : Mode) (flags : OpenFlags) (kept : List K.Description) → IsPlainBegun s pid (Call.OpenName name mode flags) (Tried u kept false true)
  unfolding try
  open_waits-plain s u pid name mode flags kept = tt

  open_named-plain : (new : NewKeys K) (s : Core A K) (pid fd : ℕ) (name : List ℕ) (node : Option (Node K)) (mode : Mode) (flags : OpenFlags) → LeadsTo new (IsPlainBegun s pid (Call.OpenName name mode flags)) (open_named s pid fd name node mode flags)
  open_named-plain new s pid fd name None mode flags = search ways
  open_named-plain new s pid fd name (Some (FileNode f)) mode flags = search ways
  open_named-plain new s pid fd name (Some (PipeNode p)) mode flags = search (ways, refusable, open_waits-plain) depth 14

  begin-plain : (new : NewKeys K) (s : Core A K) (pid : ℕ) (call : Call A) → LeadsTo new (IsPlainBegun s pid call) (begin s pid call)
  unfolding begin begin_pipe begin_mkfifo begin_open_name begin_read begin_write begin_splice begin_tee begin_poll begin_dup begin_dup2 begin_dup_fd begin_close begin_lseek begin_get_fl begin_set_fl begin_get_pipe_sz begin_set_pipe_sz begin_unlink begin_fork
  begin-plain new s pid (Call.Pipe nonblock direct) = search (ways, refusable) depth 14
  begin-plain new s pid (Call.Mkfifo name) = search (ways, refusable) depth 14
  begin-plain new s pid (Call.OpenName name mode flags) = search (ways, refusable, open_named-plain) depth 14
  begin-plain new s pid (Call.Read fd n) = search (ways, refusable, tries-plain) depth 14
  begin-plain new s pid (Call.Write fd bytes) = search (ways, refusable, tries-plain) depth 14
  begin-plain new s pid (Call.Splice from from_offset to to_offset len flags) = search (ways, refusable, tries-plain) depth 16
  begin-plain new s pid (Call.Tee from to len flags) = search (ways, refusable, tries-plain) depth 16
  begin-plain new s pid (Call.Poll entries wait) = search (ways, refusable, tries-plain) depth 14
  begin-plain new s pid (Call.Dup fd) = search (ways, refusable) depth 14
  begin-plain new s pid (Call.Dup2 fd target) = search (ways, refusable) depth 14
  begin-plain new s pid (Call.DupFd fd least) = search (ways, refusable) depth 14
  begin-plain new s pid (Call.Close fd) = search (ways, refusable) depth 14
  begin-plain new s pid (Call.Lseek fd offset whence) = search (ways, refusable) depth 14
  begin-plain new s pid (Call.GetFl fd) = search (ways, refusable) depth 14
  begin-plain new s pid (Call.SetFl fd flags) = search (ways, refusable) depth 14
  begin-plain new s pid (Call.GetPipeSz fd) = search (ways, refusable) depth 14
  begin-plain new s pid (Call.SetPipeSz fd size) = search (ways, refusable) depth 14
  begin-plain new s pid (Call.Unlink name) = search (ways, refusable) depth 14
  begin-plain new s pid Call.Fork = search (ways, refusable) depth 14
  begin-plain new s pid Call.Exit = search ways

  -- where the step is refused, this is the state of before, and no byte moved
  abbrev NoChange : Core A K → Step A → Stepped A K → Type 0
  NoChange s x h = is_refused x h.reply ≡ true → (h.state ≡ s) × (h.flow ≡ still)

  flowed-still : (s : Core A K) → flowed s still ≡ s
  unfolding flowed
  flowed-still s = refl

  done-unchanged : (s u : Core A K) (flow : Flow K) (reply : Reply A) → Fair s u flow reply → is_refusal reply ≡ true → (flowed u flow ≡ s) × (flow ≡ still)
  done-unchanged s u flow (Reply.Pid n) fair r = absurd (cc)
  done-unchanged s u flow (Reply.Fd a) fair r = absurd (cc)
  done-unchanged s u flow (Reply.Fds a b) fair r = absurd (cc)
  done-unchanged s u flow (Reply.Count n sigpipe) fair r = absurd (cc)
  done-unchanged s u flow (Reply.Bytes bytes) fair r = absurd (cc)
  done-unchanged s u flow (Reply.Offset n) fair r = absurd (cc)
  done-unchanged s u flow (Reply.Flags mode flags) fair r = absurd (cc)
  done-unchanged s u flow (Reply.Size n) fair r = absurd (cc)
  done-unchanged s u flow (Reply.Masks ready masks) fair r = absurd (cc)
  done-unchanged s u flow Reply.Unit fair r = absurd (cc)
  done-unchanged s u flow (Fault errno) fair r = ((λ i. flowed (fair.0 i) (fair.1 i)) ∙ flowed-still s, fair.1)
  done-unchanged s u flow (Parked c) fair r = absurd (cc)
  done-unchanged s u flow NoProcess fair r = absurd fair
  done-unchanged s u flow NoCall fair r = absurd fair
  done-unchanged s u flow CallsSpent fair r = absurd fair

  first_tried-unchanged : (before : Core A K) (pid : ℕ) (call : Call A) (w : Waiting A K) (may_wait : Bool) (t : Trial A K) → IsFair before t → NoChange before (Begin pid call) (first_tried before w may_wait t)
  first_tried-unchanged before pid call w may_wait (Done u flow reply) fair r = done-unchanged before u flow reply fair (sym (begin-refused pid call reply) ∙ r)
  first_tried-unchanged before pid call w false (Wait u flow taken) fair r = (refl, refl)
  first_tried-unchanged before pid call w true (Wait u flow taken) fair r = spent (before.next_call == last_call) r where
    spent : (b : Bool) → NoChange before (Begin pid call) (cond b (stepped before CallsSpent) (record { state = parked (flowed u flow) (record w { taken = taken }); reply = Parked before.next_call; flow = flow }))
    spent true r = (refl, refl)
    spent false r = absurd (cc)

  begun-unchanged : (before : Core A K) (pid : ℕ) (call : Call A) (b : Begun A K) → IsPlainBegun before pid call b → NoChange before (Begin pid call) (begun before pid call b)
  begun-unchanged before pid call (Refused errno) plain r = (refl, refl)
  begun-unchanged before pid call (Answered u reply) plain r = (let e : true ≡ false = sym r ∙ begin-refused pid call reply ∙ plain in absurd (cc))
  begun-unchanged before pid call (Tried u kept met may_wait) plain r =
      first_tried-unchanged before pid call (waiting pid call kept met) (may_wait && can_wait before pid) _ plain r

  resumed-unchanged : (s : Core A K) (c : ℕ) (w : Option (Waiting A K)) → NoChange s (Resume c) (resumed s c w)
  resumed-unchanged s c None r = (refl, refl)
  resumed-unchanged s c (Some w) r = again (try s w w.call true) (try-fair s w w.call true) r where
    replied : (u : Core A K) (flow : Flow K) (reply : Reply A) → Fair s u flow reply → is_refused {A = A} (Resume c) reply ≡ true → ⊥
    replied u flow (Reply.Pid n) fair r = cc
    replied u flow (Reply.Fd a) fair r = cc
    replied u flow (Reply.Fds a b) fair r = cc
    replied u flow (Reply.Count n sigpipe) fair r = cc
    replied u flow (Reply.Bytes bytes) fair r = cc
    replied u flow (Reply.Offset n) fair r = cc
    replied u flow (Reply.Flags mode flags) fair r = cc
    replied u flow (Reply.Size n) fair r = cc
    replied u flow (Reply.Masks ready masks) fair r = cc
    replied u flow Reply.Unit fair r = cc
    replied u flow (Fault errno) fair r = cc
    replied u flow (Parked n) fair r = cc
    replied u flow NoProcess fair r = fair
    replied u flow NoCall fair r = fair
    replied u flow CallsSpent fair r = fair

    again : (t : Trial A K) → IsFair s t → NoChange s (Resume c) (tried_again c w t)
    again (Done u flow reply) fair r = absurd (replied u flow reply fair r)
    again (Wait u flow taken) fair r = absurd (cc)

  interrupted-unchanged : (s : Core A K) (c : ℕ) (w : Option (Waiting A K)) → NoChange s (Interrupt c) (interrupted s c w)
  interrupted-unchanged s c None r = (refl, refl)
  interrupted-unchanged s c (Some w) r = absurd (counted (nat_lt 0 w.taken) r) where
    counted : (b : Bool) → is_refused {A = A} (Interrupt c) (cond b (count w.taken) (Fault EINTR)) ≡ true → ⊥
    counted true r = cc
    counted false r = cc

  started-unchanged : (s : Core A K) (pid : Option ℕ) → NoChange s Start (started s pid)
  started-unchanged s None r = (refl, refl)
  started-unchanged s (Some pid) r = absurd (cc)

  happen-unchanged : (new : NewKeys K) (s : Core A K) (x : Step A) → NoChange s x (drawn new (happen s x))
  unfolding happen LeadsTo
  happen-unchanged new s Start r = started-unchanged s (lowest_pid s) r
  happen-unchanged new s (Begin pid call) r = there (s.processes pid) r where
    drawn-unchanged : (b : Begins A K) → LeadsTo new (IsPlainBegun s pid call) b → NoChange s (Begin pid call) (drawn new (drawing_map (begun s pid call) b))
    drawn-unchanged (Plain b) plain r = begun-unchanged s pid call b plain r
    drawn-unchanged (Draws f) plain r = begun-unchanged s pid call (f new) plain r

    there : (b : Bool) → NoChange s (Begin pid call) (drawn new (cond b (drawing_map (begun s pid call) (begin s pid call)) (Plain (stepped s NoProcess))))
    there true r = drawn-unchanged (begin s pid call) (begin-plain new s pid call) r
    there false r = (refl, refl)
  happen-unchanged new s (Resume c) r = resumed-unchanged s c (get nat_eq s.parked c) r
  happen-unchanged new s (Interrupt c) r = interrupted-unchanged s c (get nat_eq s.parked c) r

-- Nothing is refused once new keys are taken, so a refused step takes none.
module _ {A : Type 0} {K : Keys} where
  abbrev IsMade : Core A K → ℕ → Call A → Begun A K → Type 0
  IsMade s pid call b = is_refused (Begin pid call) (begun s pid call b).reply ≡ false

  unfoldable RefusesFirst : Core A K → ℕ → Call A → Begins A K → Type 0
  RefusesFirst s pid call (Plain b) = Unit {0}
  RefusesFirst s pid call (Draws f) = (new : NewKeys K) → IsMade s pid call (f new)

  first_found : {X : Type 0} (s : Core A K) (pid : ℕ) (call : Call A) (o : Option X) (errno : Errno) (next : X → Begins A K) → ((x : X) → RefusesFirst s pid call (next x)) → RefusesFirst s pid call (found o errno next)
  unfolding RefusesFirst
  first_found s pid call None errno next h = tt
  first_found s pid call (Some x) errno next h = h x

  first_if : (s : Core A K) (pid : ℕ) (call : Call A) (b : Bool) (x y : Begins A K) → (b ≡ true → RefusesFirst s pid call x) → (b ≡ false → RefusesFirst s pid call y) → RefusesFirst s pid call (cond b x y)
  first_if s pid call true x y f g = f refl
  first_if s pid call false x y f g = g refl

  first_past : (s : Core A K) (pid : ℕ) (call : Call A) (b : Bool) (errno : Errno) (next : Begins A K) → RefusesFirst s pid call next → RefusesFirst s pid call (refuse_if b errno next)
  unfolding RefusesFirst
  first_past s pid call true errno next h = tt
  first_past s pid call false errno next h = h

  first_plain : (s : Core A K) (pid : ℕ) (call : Call A) (b : Begun A K) → RefusesFirst s pid call (Plain b)
  unfolding RefusesFirst
  first_plain s pid call b = tt

  first_draws : (s : Core A K) (pid : ℕ) (call : Call A) (f : NewKeys K → Begun A K) → ((new : NewKeys K) → IsMade s pid call (f new)) → RefusesFirst s pid call (Draws f)
  unfolding RefusesFirst
  first_draws s pid call f h = h

  ruleset firsts = (first_found, first_if, first_past, first_plain, first_draws)

  -- a call that waits is parked where a number is left for it, and fewer calls wait than may
  parked-first : (s u : Core A K) (pid : ℕ) (call : Call A) (w : Waiting A K) (taken : ℕ) → (s.next_call == last_call || not (can_wait s pid)) ≡ false → is_refused (Begin pid call) (first_tried s w (can_wait s pid) (Wait u still taken)).reply ≡ false
  parked-first s u pid call w taken e = at (can_wait s pid) e where
    spent : (b : Bool) → (b || false) ≡ false → is_refused (Begin pid call) (cond b (stepped s CallsSpent) (record { state = parked (flowed u still) (record w { taken = taken }); reply = Parked s.next_call; flow = still })).reply ≡ false
    spent true e = absurd (cc)
    spent false e = refl

    crowded : (b : Bool) → (b || true) ≡ false → ⊥
    crowded true e = cc
    crowded false e = cc

    at : (can : Bool) → (s.next_call == last_call || not can) ≡ false → is_refused (Begin pid call) (first_tried s w can (Wait u still taken)).reply ≡ false
    at true e = spent (s.next_call == last_call) e
    at false e = absurd (crowded (s.next_call == last_call) e)

  await-first : (s : Core A K) (pid : ℕ) (name : List ℕ) (p : K.Pipe) (mode : Mode) (flags : OpenFlags) → RefusesFirst s pid (Call.OpenName name mode flags) (await_other_end s pid p mode flags)
  unfolding try
  await-first s pid name p mode flags =
      let call = Call.OpenName name mode flags in
      first_if s pid call (s.next_call == last_call || not (can_wait s pid)) _ _ (λ e. first_plain s pid call _)
      (λ e. first_draws s pid call _ (λ new. parked-first s (describe (meet s p mode) new.description (PipeNode p) mode (status_flags flags)) pid call (waiting pid call (new.description ∷ []) false) 0 e))

  open_named-first : (s : Core A K) (pid fd : ℕ) (name : List ℕ) (node : Option (Node K)) (mode : Mode) (flags : OpenFlags) → RefusesFirst s pid (Call.OpenName name mode flags) (open_named s pid fd name node mode flags)
  open_named-first s pid fd name None mode flags =
      let call = Call.OpenName name mode flags in
      first_past s pid call (not (can_name s)) ENOSPC _ (first_draws s pid call _ (λ new. refl))
  open_named-first s pid fd name (Some (FileNode f)) mode flags = search firsts
  open_named-first s pid fd name (Some (PipeNode p)) mode flags = search (firsts, await-first) depth 14

  first_checked : (s : Core A K) (pid : ℕ) (call : Call A) (name : List ℕ) (next : Begins A K) → RefusesFirst s pid call next → RefusesFirst s pid call (check_name name next)
  first_checked s pid call name next h = search first_past

  mkfifo-first : (s : Core A K) (pid : ℕ) (name : List ℕ) → RefusesFirst s pid (Call.Mkfifo name) (begin_mkfifo s name)
  unfolding begin_mkfifo
  mkfifo-first s pid name =
      let call = Call.Mkfifo name in
      let made = first_draws s pid call (λ new. Answered (create_fifo s name new.pipe) Reply.Unit) (λ new. refl) in
      let named_new = first_past s pid call (not (can_name s)) ENOSPC _ made in
      first_checked s pid call name (refuse_if (is_some (named s name)) EEXIST (refuse_if (not (can_name s)) ENOSPC (Draws (λ new. Answered (create_fifo s name new.pipe) Reply.Unit)))) (first_past s pid call (is_some (named s name)) EEXIST _ named_new)

  begin-first : (s : Core A K) (pid : ℕ) (call : Call A) → RefusesFirst s pid call (begin s pid call)
  unfolding begin begin_pipe begin_mkfifo begin_open_name begin_read begin_write begin_splice begin_tee begin_poll begin_dup begin_dup2 begin_dup_fd begin_close begin_lseek begin_get_fl begin_set_fl begin_get_pipe_sz begin_set_pipe_sz begin_unlink begin_fork
  begin-first s pid (Call.Pipe nonblock direct) = search firsts depth 14
  begin-first s pid (Call.Mkfifo name) = mkfifo-first s pid name
  begin-first s pid (Call.OpenName name mode flags) = search (firsts, open_named-first) depth 14
  begin-first s pid (Call.Read fd n) = search firsts depth 14
  begin-first s pid (Call.Write fd bytes) = search firsts depth 14
  begin-first s pid (Call.Splice from from_offset to to_offset len flags) = search firsts depth 16
  begin-first s pid (Call.Tee from to len flags) = search firsts depth 16
  begin-first s pid (Call.Poll entries wait) = search firsts depth 14
  begin-first s pid (Call.Dup fd) = search firsts depth 14
  begin-first s pid (Call.Dup2 fd target) = search firsts depth 14
  begin-first s pid (Call.DupFd fd least) = search firsts depth 14
  begin-first s pid (Call.Close fd) = search firsts depth 14
  begin-first s pid (Call.Lseek fd offset whence) = search firsts depth 14
  begin-first s pid (Call.GetFl fd) = search firsts depth 14
  begin-first s pid (Call.SetFl fd flags) = search firsts depth 14
  begin-first s pid (Call.GetPipeSz fd) = search firsts depth 14
  begin-first s pid (Call.SetPipeSz fd size) = search firsts depth 14
  begin-first s pid (Call.Unlink name) = search firsts depth 14
  begin-first s pid Call.Fork = search firsts depth 14
  begin-first s pid Call.Exit = search firsts

  abbrev MadeIfDrawn : Step A → Drawing K (Stepped A K) → Type 0
  MadeIfDrawn x (Plain h) = Unit {0}
  MadeIfDrawn x (Draws f) = (new : NewKeys K) → is_refused x (f new).reply ≡ false

  happen-first : (s : Core A K) (x : Step A) → MadeIfDrawn x (happen s x)
  unfolding happen RefusesFirst
  happen-first s Start = tt
  happen-first s (Begin pid call) = there (s.processes pid) where
    drawn-first : (b : Begins A K) → RefusesFirst s pid call b → MadeIfDrawn (Begin pid call) (drawing_map (begun s pid call) b)
    drawn-first (Plain b) first = tt
    drawn-first (Draws f) first = first

    there : (b : Bool) → MadeIfDrawn (Begin pid call) (cond b (drawing_map (begun s pid call) (begin s pid call)) (Plain (stepped s NoProcess)))
    there true = drawn-first (begin s pid call) (begin-first s pid call)
    there false = tt
  happen-first s (Resume c) = tt
  happen-first s (Interrupt c) = tt

module _ {A : Type 0} (s : State A) (x : Step A) (settled : IsSettled s.core) where
  of_step-unchanged : (d : Drawing numbers (Stepped A numbers)) → NoChange s.core x (drawn (next_numbers s) d) → MadeIfDrawn x d → is_refused x (step_of s (drawing_map (ended s.core) d)).reply ≡ true →
      ((step_of s (drawing_map (ended s.core) d)).state ≡ s) × ((step_of s (drawing_map (ended s.core) d)).flow ≡ still)
  of_step-unchanged (Plain h) n made r = (ap (λ c. record s { core = c }) (ap (settle s.core) (n r).0 ∙ settled), (n r).1)
  of_step-unchanged (Draws f) n made r = (let e : true ≡ false = sym r ∙ made (next_numbers s) in absurd (cc))

  pub refused-unchanged : is_refused x (step s x).reply ≡ true → ((step s x).state ≡ s) × ((step s x).flow ≡ still)
  unfolding step core_step
  refused-unchanged = of_step-unchanged (happen s.core x) (happen-unchanged (next_numbers s) s.core x) (happen-first s.core x)

-- A fault of a parked call ends it, and changes nothing else.
module _ {A : Type 0} (s : State A) (c : ℕ) (errno : Errno) where
  abbrev core : Core A numbers
  core = s.core

  abbrev EndsAlone : After A → Type 0
  EndsAlone after = (after.state ≡ with_call_ended s c) × (after.flow ≡ still)

  resumed-alone : (w : Option (Waiting A numbers)) → (resumed core c w).reply ≡ Fault errno → EndsAlone (step_of s (Plain (ended core (resumed core c w))))
  resumed-alone None r = absurd (cc)
  resumed-alone (Some w) r = again (try core w w.call true) (try-fair core w w.call true) r
    where
      again : (t : Trial A numbers) → IsFair core t → (tried_again c w t).reply ≡ Fault errno → EndsAlone (step_of s (Plain (ended core (tried_again c w t))))
      again (Wait u flow taken) fair r = absurd (cc)
      again (Done u flow reply) fair r =
          let same : (u ≡ core) × (flow ≡ still) = subst (λ z. Fair core u flow z) r fair in
          (ap (λ z. record s { core = settle core (without_call z c) }) ((λ i. flowed (same.0 i) (same.1 i)) ∙ flowed-still core), same.1)

  interrupted-alone : (w : Option (Waiting A numbers)) → (interrupted core c w).reply ≡ Fault errno → EndsAlone (step_of s (Plain (ended core (interrupted core c w))))
  interrupted-alone None r = absurd (cc)
  interrupted-alone (Some w) r = (refl, refl)

  pub resumed_ends : (step s (Resume c)).reply ≡ Fault errno → EndsAlone (step s (Resume c))
  unfolding step core_step happen
  resumed_ends r = resumed-alone (get nat_eq core.parked c) r

  pub interrupted_ends : (step s (Interrupt c)).reply ≡ Fault errno → EndsAlone (step s (Interrupt c))
  unfolding step core_step happen
  interrupted_ends r = interrupted-alone (get nat_eq core.parked c) r
