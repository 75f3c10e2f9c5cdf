-- A call that can't get on waits on where it is tried, and moves no byte.
use Rattle.std.proofs.Common.{◌≡◌, ℕ, ℤ, ◌+◌, ◌-◌, Bool, true, false, cond, Option, List, length, refl, ◌∙◌, nat_eq}
use Rattle.std.specs.List.{list_any}
use Rattle.std.specs.Prelude.{map, ◌==◌, ◌&&◌, ◌||◌, not, nat_lt, nat_le, min, slice_range}
use Rattle.std.specs.declared.option.Option.TheVariants.{None, Some}
use Rattle.std.proofs.lemmas.Bool.{eqb-true}
use Rattle.pl_model.specs.declared.calls.Call.{Call}
use Rattle.pl_model.specs.declared.calls.Step.TheVariants.{Resume}
use Rattle.pl_model.specs.declared.cases.ReadCase.{ReadCase}
use Rattle.pl_model.specs.declared.cases.WriteCase.{WriteCase}
use Rattle.pl_model.specs.declared.cases.MoveCase.{MoveCase}
use Rattle.pl_model.specs.declared.flags.PollMask.{PollMask}
use Rattle.pl_model.specs.declared.replies.Reply.TheVariants.{Parked}
use Rattle.pl_model.specs.Numbers.{pipe_buf}
use Rattle.pl_model.specs.Map.{get}
use Rattle.pl_model.specs.Keys.{Keys, Node, PipeNode, FileNode}
use Rattle.pl_model.specs.State.{Core, Pipe, Description, Open, Waiting, described}
use Rattle.pl_model.specs.Trial.{Trial, Done, Wait, still, pipe_at}
use Rattle.pl_model.specs.Transfer.{read_row, write_row, read_case, write_case, read_pipe, write_pipe, read_file, write_file, read_node, write_node}
use Rattle.pl_model.specs.Splice.{Side, is_packet_pipe, move_case, move_row, source_of, target_of, try_move}
use Rattle.pl_model.specs.Poll.{masks, masks_reply, is_ready, try_poll}
use Rattle.pl_model.specs.Tables.{lowest}
use Rattle.pl_model.specs.Step.{with_kept, kept_at, opened_by, try, try_open, core_step, happen, resumed, tried_again}
use Rattle.pl_model.specs.Numbered.{State, step}
use Rattle.pl_model.specs.Waking.{gets_on, progresses, can_progress, MovesNoByte}
use Rattle.pl_model.proofs.by_call.Ways.{trial_if}
use Rattle.pl_model.proofs.streams.Writes.{no_slice}

-- the row of a write that waits goes on at what was taken
abbrev GoesOnAt : ℕ → WriteCase → Type 0
GoesOnAt t (WriteCase.Waits from to) = from ≡ t
GoesOnAt t other = Unit {0}

goes_on_at : (n t room : ℕ) (has_reader may_wait : Bool) → GoesOnAt t (write_case n t room has_reader may_wait)
goes_on_at n t room r may_wait = at (not r && t == 0) (not r) (nat_le n pipe_buf && nat_le n room) (nat_le n pipe_buf) (not may_wait && nat_lt 0 room) (not may_wait) (nat_le (n - t) room)
  where
    at : (broken cut small_fits small some now rest : Bool) → GoesOnAt t (cond broken WriteCase.Broken (cond cut WriteCase.CutShort (cond small_fits (WriteCase.Ends 0 n) (cond small (WriteCase.Waits t t)
        (cond some (WriteCase.Ends 0 (min n room)) (cond now (WriteCase.Waits t t) (cond rest (WriteCase.Ends t n) (WriteCase.Waits t (t + room)))))))))
    at true cut small_fits small some now rest = tt
    at false true small_fits small some now rest = tt
    at false false true small some now rest = tt
    at false false false true some now rest = refl
    at false false false false true now rest = tt
    at false false false false false true rest = refl
    at false false false false false false true = tt
    at false false false false false false false = refl

no_byte : {K : Keys} → MovesNoByte (still {K = K})
no_byte = record { out = refl; into = tt }

-- a call that doesn't get on waits with what was taken before
pub stuck_at : (now taken : ℕ) → not (nat_eq now taken) ≡ false → now ≡ taken
stuck_at now taken stuck = eqb-true now taken (same (nat_eq now taken) stuck)
  where
    same : (b : Bool) → not b ≡ false → b ≡ true
    same true h = refl
    same false h = absurd (cc)

module _ {A : Type 0} {K : Keys} where
  -- A try that waits leaves the state as it was, and one that waits on with what was taken before moves no byte.
  abbrev pub Idle : Core A K → ℕ → Trial A K → Type 0
  Idle s t (Done u flow reply) = Unit {0}
  Idle s t (Wait u flow now) = (u ≡ s) × (now ≡ t → MovesNoByte flow)

  idle_kept : (t : ℕ) (s : Core A K) (o : Option (Open K)) (next : Open K → Trial A K) → ((x : Open K) → Idle s t (next x)) → Idle s t (with_kept s o next)
  idle_kept t s None next h = tt
  idle_kept t s (Some x) next h = h x

  idle_if : (s : Core A K) (t : ℕ) (b : Bool) (x y : Trial A K) → Idle s t x → Idle s t y → Idle s t (cond b x y)
  idle_if s t b x y f g = trial_if (Idle s t) b x y (λ _. f) (λ _. g)

  stays_idle : (s : Core A K) (t taken : ℕ) → Idle s t (Wait s still taken)
  stays_idle s t taken = (refl, λ _. no_byte)

  read_row-idle : (t : ℕ) (s : Core A K) (p : K.Pipe) (pipe : Pipe) (row : ReadCase) → Idle s t (read_row s p pipe row)
  read_row-idle t s p pipe (ReadCase.Gives n) = tt
  read_row-idle t s p pipe ReadCase.EndOfFile = tt
  read_row-idle t s p pipe ReadCase.Waits = stays_idle s t 0

  write_row-idle : (t : ℕ) (s : Core A K) (p : K.Pipe) (bytes : List ℕ) (row : WriteCase) → GoesOnAt t row → Idle s t (write_row s p bytes t row)
  write_row-idle t s p bytes WriteCase.Broken h = tt
  write_row-idle t s p bytes WriteCase.CutShort h = tt
  write_row-idle t s p bytes (WriteCase.Ends from to) h = tt
  write_row-idle t s p bytes (WriteCase.Waits from to) h = (refl, λ same. record { out = refl; into = (λ i. slice_range bytes (h i) (same i)) ∙ no_slice bytes t })

  read_node-idle : (t : ℕ) (s : Core A K) (d : K.Description) (description : Description K) (node : Node K) (n : ℕ) → Idle s t (read_node s d description node n)
  unfolding read_pipe read_file
  read_node-idle t s d description (PipeNode p) n = read_row-idle t s p (pipe_at s p) (read_case n _ _)
  read_node-idle t s d description (FileNode f) n = tt

  write_node-idle : (t : ℕ) (s : Core A K) (d : K.Description) (description : Description K) (node : Node K) (bytes : List ℕ) (may_wait : Bool) → Idle s t (write_node s d description node bytes t may_wait)
  unfolding write_pipe write_file
  write_node-idle t s d description (PipeNode p) bytes may_wait = write_row-idle t s p bytes (write_case (length bytes) t _ _ may_wait) (goes_on_at (length bytes) t _ _ may_wait)
  write_node-idle t s d description (FileNode f) bytes may_wait = search idle_if

  move_row-idle : (t : ℕ) (s : Core A K) (from to : Side K) (is_tee : Bool) (row : MoveCase) → Idle s t (move_row s from to is_tee row)
  move_row-idle t s from to is_tee MoveCase.Broken = tt
  move_row-idle t s from to is_tee MoveCase.EndOfInput = tt
  move_row-idle t s from to is_tee MoveCase.Waits = stays_idle s t 0
  move_row-idle t s from to is_tee MoveCase.TooBig = tt
  move_row-idle t s from to is_tee (MoveCase.Moves k) = tt

  move-idle : (t : ℕ) (s : Core A K) (from to : Side K) (len : ℕ) (is_tee : Bool) → Idle s t (try_move s from to len is_tee)
  unfolding try_move
  move-idle t s from to len is_tee =
      trial_if (Idle s t) (is_packet_pipe s from.description.node || is_packet_pipe s to.description.node) _ _ (λ _. tt)
      (λ _. move_row-idle t s from to is_tee (move_case (source_of s from from.description.node) (target_of s to to.description.node) len))

  poll-idle : (t : ℕ) (s : Core A K) (entries : List (ℤ × PollMask)) (kept : List K.Description) (may_wait : Bool) → Idle s t (try_poll s entries kept may_wait)
  unfolding try_poll
  poll-idle t s entries kept may_wait =
      let found = masks s entries (map (described s) kept) in
      trial_if (Idle s t) (list_any is_ready found || not may_wait) (Done s still (masks_reply found)) (Wait s still 0) (λ _. tt) (λ _. stays_idle s t 0)

  opened-idle : (t : ℕ) (s : Core A K) (pid : ℕ) (d : K.Description) (fd : Option ℕ) → Idle s t (opened_by s pid d fd)
  opened-idle t s pid d None = tt
  opened-idle t s pid d (Some fd) = tt

  open-idle : (t : ℕ) (s : Core A K) (w : Waiting A K) → Idle s t (try_open s w)
  open-idle t s w =
      trial_if (Idle s t) w.met (with_kept s (kept_at s w.kept 0) (λ o. opened_by s w.pid o.key (lowest s w.pid 0))) (Wait s still w.taken)
      (λ _. idle_kept t s (kept_at s w.kept 0) (λ o. opened_by s w.pid o.key (lowest s w.pid 0)) (λ o. opened-idle t s w.pid o.key (lowest s w.pid 0))) (λ _. stays_idle s t w.taken)

  pub try-idle : (s : Core A K) (w : Waiting A K) (call : Call A) (may_wait : Bool) → Idle s w.taken (try s w call may_wait)
  unfolding try
  try-idle s w (Call.Read fd n) may_wait = idle_kept w.taken s _ _ (λ o. read_node-idle w.taken s o.key o.description o.description.node n)
  try-idle s w (Call.Write fd bytes) may_wait = idle_kept w.taken s _ _ (λ o. write_node-idle w.taken s o.key o.description o.description.node bytes may_wait)
  try-idle s w (Call.OpenName name mode flags) may_wait = open-idle w.taken s w
  try-idle s w (Call.Splice from from_offset to to_offset len flags) may_wait = search (idle_kept, move-idle)
  try-idle s w (Call.Tee from to len flags) may_wait = search (idle_kept, move-idle)
  try-idle s w (Call.Poll entries wait) may_wait = poll-idle w.taken s entries w.kept may_wait
  try-idle s w (Call.Pipe nonblock direct) may_wait = stays_idle s w.taken w.taken
  try-idle s w (Call.Mkfifo name) may_wait = stays_idle s w.taken w.taken
  try-idle s w (Call.Dup fd) may_wait = stays_idle s w.taken w.taken
  try-idle s w (Call.Dup2 fd target) may_wait = stays_idle s w.taken w.taken
  try-idle s w (Call.DupFd fd least) may_wait = stays_idle s w.taken w.taken
  try-idle s w (Call.Close fd) may_wait = stays_idle s w.taken w.taken
  try-idle s w (Call.Lseek fd offset whence) may_wait = stays_idle s w.taken w.taken
  try-idle s w (Call.GetFl fd) may_wait = stays_idle s w.taken w.taken
  try-idle s w (Call.SetFl fd flags) may_wait = stays_idle s w.taken w.taken
  try-idle s w (Call.GetPipeSz fd) may_wait = stays_idle s w.taken w.taken
  try-idle s w (Call.SetPipeSz fd size) may_wait = stays_idle s w.taken w.taken
  try-idle s w (Call.Unlink name) may_wait = stays_idle s w.taken w.taken
  try-idle s w Call.Fork may_wait = stays_idle s w.taken w.taken
  try-idle s w Call.Exit may_wait = stays_idle s w.taken w.taken

  tried_in_vain : (s : Core A K) (c : ℕ) (w : Waiting A K) (t : Trial A K) → Idle s w.taken t → gets_on w.taken t ≡ false → ((tried_again c w t).reply ≡ Parked c) × MovesNoByte (tried_again c w t).flow
  tried_in_vain s c w (Done u flow reply) idle stuck = absurd (cc)
  tried_in_vain s c w (Wait u flow now) idle stuck = (refl, idle.1 (stuck_at now w.taken stuck))

  resumed_in_vain : (s : Core A K) (c : ℕ) (w : Option (Waiting A K)) → progresses s w ≡ false → ((resumed s c w).reply ≡ Parked c) × MovesNoByte (resumed s c w).flow
  resumed_in_vain s c None stuck = absurd (cc)
  resumed_in_vain s c (Some w) stuck = tried_in_vain s c w (try s w w.call true) (try-idle s w w.call true) stuck

pub waits_in_vain : {A : Type 0} (s : State A) (c : ℕ) → can_progress s.core c ≡ false → ((step s (Resume c)).reply ≡ Parked c) × MovesNoByte (step s (Resume c)).flow
unfolding step core_step happen
waits_in_vain s c stuck = resumed_in_vain s.core c (get nat_eq s.core.parked c) stuck
