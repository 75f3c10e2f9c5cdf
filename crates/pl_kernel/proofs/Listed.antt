-- Which lists the machine's replies have: only a read answers bytes, and only a poll masks.
use Rattle.std.proofs.Common.{◌≡◌, ℕ, ℤ, Bool, true, false, cond, Option, List, [], ◌∷◌, refl, sym, ◌∙◌, ap, nat_eq, length, drop, min, arith}
use Rattle.std.specs.Prelude.{◌||◌, ◌&&◌, ◌==◌, not, nat_lt, map, ⊤, if◌then◌else◌}
use Rattle.std.specs.List.{list_any}
use Rattle.std.specs.declared.option.Option.TheVariants.{None, Some}
use Rattle.std.proofs.lemmas.List.{length-take}
use Rattle.std.proofs.Math.Nat.{min-zero, zero-min}
use Rattle.pl_model.specs.Packets.{front}
use Rattle.pl_model.specs.declared.calls.Call.{Call}
use Rattle.pl_model.specs.declared.calls.Mode.{Mode}
use Rattle.pl_model.specs.declared.calls.Step.{Step}
use Rattle.pl_model.specs.declared.calls.Step.TheVariants.{Start, Begin, Resume, Interrupt}
use Rattle.pl_model.specs.declared.cases.ReadCase.{ReadCase}
use Rattle.pl_model.specs.declared.cases.WriteCase.{WriteCase}
use Rattle.pl_model.specs.declared.cases.MoveCase.{MoveCase}
use Rattle.pl_model.specs.declared.flags.OpenFlags.{OpenFlags}
use Rattle.pl_model.specs.declared.flags.PollMask.{PollMask}
use Rattle.pl_model.specs.declared.replies.Reply.TheVariants.{Bytes, Fault, NoProcess, CallsSpent, Parked}
use Rattle.pl_model.specs.declared.replies.Errno.TheVariants.{EBADF, EINTR, EINVAL}
use Rattle.pl_model.specs.Numbers.{last_call}
use Rattle.pl_model.specs.Map.{get}
use Rattle.pl_model.specs.Memory.{is_frugal, is_frugal_call}
use Rattle.pl_model.specs.Modes.{reads}
use Rattle.pl_model.specs.Keys.{Keys, Node, NewKeys, PipeNode, FileNode, Plain, Draws, drawn, drawing_map}
use Rattle.pl_model.specs.State.{Core, Pipe, Description, Open, Waiting, can_wait, described}
use Rattle.pl_model.specs.Trial.{Trial, Done, Wait, still, flowed, pipe_at, Begun, Begins, Tried, found, answered, tried}
use Rattle.pl_model.specs.Transfer.{count, file_at, read_row, write_row, write_case, read_pipe, write_pipe, read_file, write_file, read_node, write_node}
use Rattle.pl_model.specs.Splice.{Side, is_packet_pipe, move_case, move_row, source_of, target_of, try_move}
use Rattle.pl_model.specs.Poll.{masks, masks_reply, is_ready, try_poll}
use Rattle.pl_model.specs.Tables.{lowest, lowest_pid, entry_limit}
use Rattle.pl_model.specs.Begin.{open_fd, open_for, allowed, named_by, may_block, open_named, begin_pipe, begin_mkfifo, begin_open_name, begin_read, begin_write, begin_splice, begin_tee, begin_dup, begin_dup2, begin_dup_fd, begin_close, begin_lseek, begin_get_fl, begin_set_fl, begin_get_pipe_sz, begin_set_pipe_sz, begin_unlink, begin_fork}
use Rattle.pl_model.specs.Step.{Stepped, with_kept, kept_at, opened_by, try, try_open, begin, begun, happen, core_step, ended, first_tried, interrupted, parked, resumed, started, stepped, tried_again, waiting}
use Rattle.pl_model.proofs.by_call.Ways.{LeadsTo, Refusable, ways}
use Rattle.pl_model.proofs.by_call.Polls.{found_now, kept_now, open-described, poll-refused, poll-answered, poll-waits}
use Rattle.pl_transfers.specs.Readable.{readable, readable_on, bytes_of_try, bytes_again}
use Rattle.pl_polls.specs.Counts.{masks_if_ready, masks_begun, masks_of_try, masks_again}
use Rattle.pl_polls.proofs.by_call.Entries.{masks-each}
use Rattle.pl_kernel.specs.declared.sizes.ReplySizes.{ReplySizes}
use Rattle.pl_kernel.specs.Sizes.{no_list, sizes_of, sizes_begun}

abbrev only_bytes : ℕ → ReplySizes
only_bytes n = record { bytes = n; masks = 0 }

abbrev only_masks : ℕ → ReplySizes
only_masks n = record { bytes = 0; masks = n }

-- what is more than none is all that is held
none-held : (held : ℕ) → nat_lt 0 held ≡ false → held ≡ 0
none-held held e = grind (arith, e)

least : (n k held : ℕ) → min (min n k) held ≡ min n (min k held)
least n k held = grind arith

none-front : (n k held : ℕ) → k ≡ 0 → min n (min k held) ≡ 0
none-front n k held e = grind (arith, e)

-- what passes the test of a mode is open
allowed-is : {K : Keys} (test : Mode → Bool) (x : Option (Open K)) (o : Open K) → allowed test x ≡ Some o → x ≡ Some o
allowed-is test None o e = absurd (cc)
allowed-is test (Some x) o e = by (test x.description.mode) e
  where
    by : (b : Bool) → cond b (Some x) None ≡ Some o → Some x ≡ Some o
    by true e = e
    by false e = absurd (cc)

-- a call that is no read and no poll
abbrev IsOther : {A : Type 0} → Call A → Type 0
IsOther (Call.Read fd n) = ⊥
IsOther (Call.Poll entries wait) = ⊥
IsOther other = ⊤

module _ {A : Type 0} {K : Keys} where
  -- the sizes of what a try answers
  abbrev trial_sizes : Trial A K → ReplySizes
  trial_sizes (Done s flow reply) = sizes_of reply
  trial_sizes (Wait s flow taken) = no_list

  -- what a first try comes to has the list of the try, and so has what a later one comes to
  first-sizes : (before : Core A K) (w : Waiting A K) (may_wait : Bool) (t : Trial A K) → sizes_of (first_tried before w may_wait t).reply ≡ trial_sizes t
  first-sizes before w may_wait (Done s flow reply) = refl
  first-sizes before w false (Wait s flow taken) = refl
  first-sizes before w true (Wait s flow taken) = by (before.next_call == last_call)
    where
      by : (b : Bool) → sizes_of (cond b (stepped before CallsSpent) (record { state = parked (flowed s flow) (record w { taken = taken }); reply = Parked before.next_call; flow = flow })).reply ≡ no_list
      by true = refl
      by false = refl

  again-sizes : (c : ℕ) (w : Waiting A K) (t : Trial A K) → sizes_of (tried_again c w t).reply ≡ trial_sizes t
  again-sizes c w (Done s flow reply) = refl
  again-sizes c w (Wait s flow taken) = refl

  -- a try that answers no list
  abbrev IsBare : Trial A K → Type 0
  IsBare t = trial_sizes t ≡ no_list

  bare_if : (b : Bool) (x y : Trial A K) → IsBare x → IsBare y → IsBare (cond b x y)
  bare_if true x y f g = f
  bare_if false x y f g = g

  bare_kept : (s : Core A K) (o : Option (Open K)) (next : Open K → Trial A K) → ((x : Open K) → IsBare (next x)) → IsBare (with_kept s o next)
  bare_kept s None next h = refl
  bare_kept s (Some x) next h = h x

  write_row-bare : (s : Core A K) (p : K.Pipe) (bytes : List ℕ) (t : ℕ) (row : WriteCase) → IsBare (write_row s p bytes t row)
  write_row-bare s p bytes t WriteCase.Broken = refl
  write_row-bare s p bytes t WriteCase.CutShort = refl
  write_row-bare s p bytes t (WriteCase.Ends from to) = refl
  write_row-bare s p bytes t (WriteCase.Waits from to) = refl

  write_node-bare : (s : Core A K) (d : K.Description) (description : Description K) (node : Node K) (bytes : List ℕ) (t : ℕ) (w : Bool) → IsBare (write_node s d description node bytes t w)
  unfolding write_pipe write_file
  write_node-bare s d description (PipeNode p) bytes t w = write_row-bare s p bytes t (write_case (length bytes) t _ _ w)
  write_node-bare s d description (FileNode f) bytes t w = search bare_if

  move_row-bare : (s : Core A K) (from to : Side K) (is_tee : Bool) (row : MoveCase) → IsBare (move_row s from to is_tee row)
  move_row-bare s from to is_tee MoveCase.Broken = refl
  move_row-bare s from to is_tee MoveCase.EndOfInput = refl
  move_row-bare s from to is_tee MoveCase.Waits = refl
  move_row-bare s from to is_tee MoveCase.TooBig = refl
  move_row-bare s from to is_tee (MoveCase.Moves k) = refl

  move-bare : (s : Core A K) (from to : Side K) (len : ℕ) (is_tee : Bool) → IsBare (try_move s from to len is_tee)
  unfolding try_move
  move-bare s from to len is_tee = at (is_packet_pipe s from.description.node || is_packet_pipe s to.description.node)
    where
      at : (packets : Bool) → IsBare (cond packets (Done s still (Fault EINVAL)) (move_row s from to is_tee (move_case (source_of s from from.description.node) (target_of s to to.description.node) len)))
      at true = refl
      at false = move_row-bare s from to is_tee (move_case (source_of s from from.description.node) (target_of s to to.description.node) len)

  opened_by-bare : (s : Core A K) (pid : ℕ) (d : K.Description) (place : Option ℕ) → IsBare (opened_by s pid d place)
  opened_by-bare s pid d None = refl
  opened_by-bare s pid d (Some fd) = refl

  try_open-bare : (s : Core A K) (w : Waiting A K) → IsBare (try_open s w)
  try_open-bare s w = bare_if w.met _ _ (bare_kept s _ _ (λ o. opened_by-bare s w.pid o.key (lowest s w.pid 0))) refl

  -- a read of n bytes answers those of them that are there
  read_row-sizes : (s : Core A K) (p : K.Pipe) (pipe : Pipe) (n : ℕ) (some has_writer : Bool) → nat_lt 0 (front pipe) ≡ some →
      trial_sizes (read_row s p pipe (cond some (ReadCase.Gives (min n (front pipe))) (cond (not has_writer) ReadCase.EndOfFile ReadCase.Waits))) ≡ only_bytes (min n (min (front pipe) (length pipe.bytes)))
  read_row-sizes s p pipe n true has_writer e = ap only_bytes (length-take (min n (front pipe)) pipe.bytes ∙ least n (front pipe) (length pipe.bytes))
  read_row-sizes s p pipe n false true e = sym (ap only_bytes (none-front n (front pipe) (length pipe.bytes) (none-held (front pipe) e)))
  read_row-sizes s p pipe n false false e = sym (ap only_bytes (none-front n (front pipe) (length pipe.bytes) (none-held (front pipe) e)))

  read_node-sizes : (s : Core A K) (d : K.Description) (description : Description K) (node : Node K) (n : ℕ) → trial_sizes (read_node s d description node n) ≡ only_bytes (min n (readable_on s description node))
  unfolding read_pipe read_file
  read_node-sizes s d description (PipeNode p) n = read_row-sizes s p (pipe_at s p) n (nat_lt 0 (front (pipe_at s p))) _ refl
  read_node-sizes s d description (FileNode f) n = ap only_bytes (length-take n (drop description.offset (file_at s f)))

  read_kept-sizes : (s : Core A K) (o : Option (Open K)) (n : ℕ) → trial_sizes (with_kept s o (λ o. read_node s o.key o.description o.description.node n)) ≡ only_bytes (min n (readable s o))
  read_kept-sizes s None n = sym (ap only_bytes (min-zero n))
  read_kept-sizes s (Some o) n = read_node-sizes s o.key o.description o.description.node n

  -- and a poll a mask for each entry, where it doesn't wait
  poll-sizes : (s : Core A K) (entries : List (ℤ × PollMask)) (kept : List K.Description) (may_wait : Bool) →
      trial_sizes (try_poll s entries kept may_wait) ≡ only_masks (masks_if_ready (masks s entries (map (described s) kept)) may_wait (length entries))
  unfolding try_poll
  poll-sizes s entries kept may_wait = by (list_any is_ready (masks s entries (map (described s) kept)) || not may_wait)
    where
      by : (b : Bool) → trial_sizes (cond b (Done s still (masks_reply (masks s entries (map (described s) kept)))) (Wait s still 0)) ≡ only_masks (cond b (length entries) 0)
      by true = ap only_masks (masks-each s entries (map (described s) kept))
      by false = refl

  try-bare : (s : Core A K) (w : Waiting A K) (call : Call A) (may_wait : Bool) → IsOther call → IsBare (try s w call may_wait)
  unfolding try
  try-bare s w (Call.Read fd n) may_wait other = absurd other
  try-bare s w (Call.Poll entries wait) may_wait other = absurd other
  try-bare s w (Call.Pipe nonblock direct) may_wait other = refl
  try-bare s w (Call.Mkfifo name) may_wait other = refl
  try-bare s w (Call.OpenName name mode flags) may_wait other = try_open-bare s w
  try-bare s w (Call.Write fd bytes) may_wait other = bare_kept s _ _ (λ o. write_node-bare s o.key o.description o.description.node bytes w.taken may_wait)
  try-bare s w (Call.Splice from from_offset to to_offset len flags) may_wait other = search (bare_kept, move-bare)
  try-bare s w (Call.Tee from to len flags) may_wait other = search (bare_kept, move-bare)
  try-bare s w (Call.Dup fd) may_wait other = refl
  try-bare s w (Call.Dup2 fd target) may_wait other = refl
  try-bare s w (Call.DupFd fd least) may_wait other = refl
  try-bare s w (Call.Close fd) may_wait other = refl
  try-bare s w (Call.Lseek fd offset whence) may_wait other = refl
  try-bare s w (Call.GetFl fd) may_wait other = refl
  try-bare s w (Call.SetFl fd flags) may_wait other = refl
  try-bare s w (Call.GetPipeSz fd) may_wait other = refl
  try-bare s w (Call.SetPipeSz fd size) may_wait other = refl
  try-bare s w (Call.Unlink name) may_wait other = refl
  try-bare s w Call.Fork may_wait other = refl
  try-bare s w Call.Exit may_wait other = refl

  -- the sizes of what the next try of a parked call answers
  abbrev kept_sizes : Core A K → Waiting A K → Call A → ReplySizes
  kept_sizes s w call = record { bytes = bytes_of_try s w call; masks = masks_of_try s w call }

  try-sizes : (s : Core A K) (w : Waiting A K) (call : Call A) → trial_sizes (try s w call true) ≡ kept_sizes s w call
  unfolding try
  try-sizes s w (Call.Read fd n) = read_kept-sizes s (kept_at s w.kept 0) n
  try-sizes s w (Call.Poll entries wait) = poll-sizes s entries w.kept true
  try-sizes s w (Call.Pipe nonblock direct) = try-bare s w (Call.Pipe nonblock direct) true tt
  try-sizes s w (Call.Mkfifo name) = try-bare s w (Call.Mkfifo name) true tt
  try-sizes s w (Call.OpenName name mode flags) = try-bare s w (Call.OpenName name mode flags) true tt
  try-sizes s w (Call.Write fd bytes) = try-bare s w (Call.Write fd bytes) true tt
  try-sizes s w (Call.Splice from from_offset to to_offset len flags) = try-bare s w (Call.Splice from from_offset to to_offset len flags) true tt
  try-sizes s w (Call.Tee from to len flags) = try-bare s w (Call.Tee from to len flags) true tt
  try-sizes s w (Call.Dup fd) = try-bare s w (Call.Dup fd) true tt
  try-sizes s w (Call.Dup2 fd target) = try-bare s w (Call.Dup2 fd target) true tt
  try-sizes s w (Call.DupFd fd least) = try-bare s w (Call.DupFd fd least) true tt
  try-sizes s w (Call.Close fd) = try-bare s w (Call.Close fd) true tt
  try-sizes s w (Call.Lseek fd offset whence) = try-bare s w (Call.Lseek fd offset whence) true tt
  try-sizes s w (Call.GetFl fd) = try-bare s w (Call.GetFl fd) true tt
  try-sizes s w (Call.SetFl fd flags) = try-bare s w (Call.SetFl fd flags) true tt
  try-sizes s w (Call.GetPipeSz fd) = try-bare s w (Call.GetPipeSz fd) true tt
  try-sizes s w (Call.SetPipeSz fd size) = try-bare s w (Call.SetPipeSz fd size) true tt
  try-sizes s w (Call.Unlink name) = try-bare s w (Call.Unlink name) true tt
  try-sizes s w Call.Fork = refl
  try-sizes s w Call.Exit = refl

  resumed-sizes : (s : Core A K) (c : ℕ) (w : Option (Waiting A K)) → sizes_of (resumed s c w).reply ≡ record { bytes = bytes_again s w; masks = masks_again s w }
  resumed-sizes s c None = refl
  resumed-sizes s c (Some w) = again-sizes c w (try s w w.call true) ∙ try-sizes s w w.call

  -- a call that begins, and has these sizes
  abbrev HasSizes : Core A K → ℕ → Call A → ReplySizes → Begun A K → Type 0
  HasSizes s pid call sizes b = sizes_of (begun s pid call b).reply ≡ sizes

  abbrev AnswersBare : Core A K → ℕ → Call A → Begun A K → Type 0
  AnswersBare s pid call b = HasSizes s pid call no_list b

  refusable : (s : Core A K) (pid : ℕ) (call : Call A) → Refusable (AnswersBare s pid call)
  refusable s pid call = record { refused = λ errno. refl }

  tries-bare : (s u : Core A K) (pid : ℕ) (call : Call A) (kept : List K.Description) (met may_wait : Bool) → IsOther call → AnswersBare s pid call (Tried u kept met may_wait)
  tries-bare s u pid call kept met may_wait other =
      let w = waiting pid call kept met in
      first-sizes s w (may_wait && can_wait s pid) (try u w call may_wait) ∙ try-bare u w call may_wait other

  open_named-bare : (new : NewKeys K) (s : Core A K) (pid fd : ℕ) (name : List ℕ) (node : Option (Node K)) (mode : Mode) (flags : OpenFlags) → LeadsTo new (AnswersBare s pid (Call.OpenName name mode flags)) (open_named s pid fd name node mode flags)
  open_named-bare new s pid fd name None mode flags = search ways
  open_named-bare new s pid fd name (Some (FileNode f)) mode flags = search ways
  open_named-bare new s pid fd name (Some (PipeNode p)) mode flags = search (ways, refusable, tries-bare) depth 14

  begin-bare : (new : NewKeys K) (s : Core A K) (pid : ℕ) (call : Call A) → IsOther call → LeadsTo new (AnswersBare s pid call) (begin s pid call)
  unfolding begin begin_pipe begin_mkfifo begin_open_name begin_write begin_splice begin_tee begin_dup begin_dup2 begin_dup_fd begin_close begin_lseek begin_get_fl begin_set_fl begin_get_pipe_sz begin_set_pipe_sz begin_unlink begin_fork
  begin-bare new s pid (Call.Read fd n) other = absurd other
  begin-bare new s pid (Call.Poll entries wait) other = absurd other
  begin-bare new s pid (Call.Pipe nonblock direct) other = search (ways, refusable) depth 14
  begin-bare new s pid (Call.Mkfifo name) other = search (ways, refusable) depth 14
  begin-bare new s pid (Call.OpenName name mode flags) other = search (ways, refusable, open_named-bare) depth 14
  begin-bare new s pid (Call.Write fd bytes) other = search (ways, refusable, tries-bare) depth 14
  begin-bare new s pid (Call.Splice from from_offset to to_offset len flags) other = search (ways, refusable, tries-bare) depth 16
  begin-bare new s pid (Call.Tee from to len flags) other = search (ways, refusable, tries-bare) depth 16
  begin-bare new s pid (Call.Dup fd) other = search (ways, refusable) depth 14
  begin-bare new s pid (Call.Dup2 fd target) other = search (ways, refusable) depth 14
  begin-bare new s pid (Call.DupFd fd least) other = search (ways, refusable) depth 14
  begin-bare new s pid (Call.Close fd) other = search (ways, refusable) depth 14
  begin-bare new s pid (Call.Lseek fd offset whence) other = search (ways, refusable) depth 14
  begin-bare new s pid (Call.GetFl fd) other = search (ways, refusable) depth 14
  begin-bare new s pid (Call.SetFl fd flags) other = search (ways, refusable) depth 14
  begin-bare new s pid (Call.GetPipeSz fd) other = search (ways, refusable) depth 14
  begin-bare new s pid (Call.SetPipeSz fd size) other = search (ways, refusable) depth 14
  begin-bare new s pid (Call.Unlink name) other = search (ways, refusable) depth 14
  begin-bare new s pid Call.Fork other = search (ways, refusable) depth 14
  begin-bare new s pid Call.Exit other = search (ways, refusable)

  -- a read that begins
  begin_read-sizes : (new : NewKeys K) (s : Core A K) (pid : ℕ) (fd : ℤ) (n : ℕ) → LeadsTo new (HasSizes s pid (Call.Read fd n) (only_bytes (min n (readable s (open_for reads s pid fd))))) (begin s pid (Call.Read fd n))
  unfolding begin begin_read try LeadsTo
  begin_read-sizes new s pid fd n = by (open_for reads s pid fd) refl
    where
      call : Call A
      call = Call.Read fd n

      tried_at : (o : Open K) → described s o.key ≡ Some o → (some : Bool) → (n == 0) ≡ some →
          HasSizes s pid (Call.Read fd n) (only_bytes (min n (readable s (Some o)))) (drawn new (cond some (answered s (Bytes [])) (tried s (o.key ∷ []) false (may_block o.description))))
      tried_at o here true e =
          let none : n ≡ 0 = grind (arith, e) in
          sym (ap (λ m. only_bytes (min m (readable s (Some o)))) none ∙ ap only_bytes (zero-min (readable s (Some o))))
      tried_at o here false e =
          first-sizes s (waiting pid (Call.Read fd n) (o.key ∷ []) false) (may_block o.description && can_wait s pid) _
          ∙ read_kept-sizes s (described s o.key) n
          ∙ ap (λ z. only_bytes (min n (readable s z))) here

      by : (o : Option (Open K)) → open_for reads s pid fd ≡ o → HasSizes s pid (Call.Read fd n) (only_bytes (min n (readable s o))) (drawn new (found o EBADF (λ o. if n == 0 then answered s (Bytes []) else tried s (o.key ∷ []) false (may_block o.description))))
      by None e = sym (ap only_bytes (min-zero n))
      by (Some o) e = tried_at o (open-described s pid fd o (allowed-is reads (open_fd s pid fd) o e)) (n == 0) refl

  -- a poll that begins
  begin_poll-sizes : (new : NewKeys K) (s : Core A K) (pid : ℕ) (entries : List (ℤ × PollMask)) (wait : Bool) → s.processes pid ≡ true →
      sizes_of (drawn new (core_step s (Begin pid (Call.Poll entries wait)))).reply ≡ only_masks (masks_begun s pid entries wait)
  begin_poll-sizes new s pid entries wait process = over (nat_lt (entry_limit s.limits) (length entries)) refl
    where
      ready : (b may : Bool) → wait ≡ may → nat_lt (entry_limit s.limits) (length entries) ≡ false → list_any is_ready (found_now s pid entries) ≡ b →
          sizes_of (drawn new (core_step s (Begin pid (Call.Poll entries wait)))).reply ≡ only_masks (cond (b || not may) (length entries) 0)
      ready true may w few e =
          ap (λ z. sizes_of (drawn {X = Stepped A K} new z).reply) (poll-answered s pid entries wait process few (ap (λ b. b || not wait) e))
          ∙ ap only_masks (masks-each s entries (named_by s pid entries))
      ready false false w few e =
          ap (λ z. sizes_of (drawn {X = Stepped A K} new z).reply) (poll-answered s pid entries wait process few (λ i. e i || not (w i)))
          ∙ ap only_masks (masks-each s entries (named_by s pid entries))
      ready false true w few e =
          ap (λ z. sizes_of (drawn {X = Stepped A K} new z).reply) (poll-waits s pid entries wait process few e w)
          ∙ first-sizes s (waiting pid (Call.Poll entries wait) (kept_now s pid entries) false) (can_wait s pid) (Wait s still 0)

      over : (b : Bool) → nat_lt (entry_limit s.limits) (length entries) ≡ b →
          sizes_of (drawn new (core_step s (Begin pid (Call.Poll entries wait)))).reply ≡ only_masks (cond b 0 (masks_if_ready (masks s entries (named_by s pid entries)) wait (length entries)))
      over true e = ap (λ z. sizes_of (drawn {X = Stepped A K} new z).reply) (poll-refused s pid entries wait process e)
      over false e = ready (list_any is_ready (found_now s pid entries)) wait refl e refl

  -- the sizes of the reply to a step
  abbrev pub sizes_told : Core A K → Step A → ReplySizes
  sizes_told s Start = no_list
  sizes_told s (Begin pid call) = if s.processes pid then sizes_begun s pid call else no_list
  sizes_told s (Resume c) = record { bytes = bytes_again s (get nat_eq s.parked c); masks = masks_again s (get nat_eq s.parked c) }
  sizes_told s (Interrupt c) = no_list

  -- a call that leads to a reply of these sizes is a step with such a reply
  led : (new : NewKeys K) (s : Core A K) (pid : ℕ) (call : Call A) (sizes : ReplySizes) → s.processes pid ≡ true → LeadsTo new (HasSizes s pid call sizes) (begin s pid call) → sizes_of (drawn new (core_step s (Begin pid call))).reply ≡ sizes
  unfolding core_step happen LeadsTo
  led new s pid call sizes process leads =
      ap (λ b. sizes_of (drawn new (drawing_map (ended s) (cond b (drawing_map (begun s pid call) (begin s pid call)) (Plain (stepped s NoProcess))))).reply) process ∙ by (begin s pid call) leads
    where
      by : (b : Begins A K) → HasSizes s pid call sizes (drawn new b) → sizes_of (drawn new (drawing_map (ended s) (drawing_map (begun s pid call) b))).reply ≡ sizes
      by (Plain b) h = h
      by (Draws f) h = h

  led-bare : (new : NewKeys K) (s : Core A K) (pid : ℕ) (call : Call A) → s.processes pid ≡ true → IsOther call → sizes_of (drawn new (core_step s (Begin pid call))).reply ≡ no_list
  led-bare new s pid call process other = led new s pid call no_list process (begin-bare new s pid call other)

  begun-sizes : (new : NewKeys K) (s : Core A K) (pid : ℕ) (call : Call A) → s.processes pid ≡ true → sizes_of (drawn new (core_step s (Begin pid call))).reply ≡ sizes_begun s pid call
  begun-sizes new s pid (Call.Read fd n) process = led new s pid (Call.Read fd n) _ process (begin_read-sizes new s pid fd n)
  begun-sizes new s pid (Call.Poll entries wait) process = begin_poll-sizes new s pid entries wait process
  begun-sizes new s pid (Call.Pipe nonblock direct) process = led-bare new s pid (Call.Pipe nonblock direct) process tt
  begun-sizes new s pid (Call.Mkfifo name) process = led-bare new s pid (Call.Mkfifo name) process tt
  begun-sizes new s pid (Call.OpenName name mode flags) process = led-bare new s pid (Call.OpenName name mode flags) process tt
  begun-sizes new s pid (Call.Write fd bytes) process = led-bare new s pid (Call.Write fd bytes) process tt
  begun-sizes new s pid (Call.Splice from from_offset to to_offset len flags) process = led-bare new s pid (Call.Splice from from_offset to to_offset len flags) process tt
  begun-sizes new s pid (Call.Tee from to len flags) process = led-bare new s pid (Call.Tee from to len flags) process tt
  begun-sizes new s pid (Call.Dup fd) process = led-bare new s pid (Call.Dup fd) process tt
  begun-sizes new s pid (Call.Dup2 fd target) process = led-bare new s pid (Call.Dup2 fd target) process tt
  begun-sizes new s pid (Call.DupFd fd least) process = led-bare new s pid (Call.DupFd fd least) process tt
  begun-sizes new s pid (Call.Close fd) process = led-bare new s pid (Call.Close fd) process tt
  begun-sizes new s pid (Call.Lseek fd offset whence) process = led-bare new s pid (Call.Lseek fd offset whence) process tt
  begun-sizes new s pid (Call.GetFl fd) process = led-bare new s pid (Call.GetFl fd) process tt
  begun-sizes new s pid (Call.SetFl fd flags) process = led-bare new s pid (Call.SetFl fd flags) process tt
  begun-sizes new s pid (Call.GetPipeSz fd) process = led-bare new s pid (Call.GetPipeSz fd) process tt
  begun-sizes new s pid (Call.SetPipeSz fd size) process = led-bare new s pid (Call.SetPipeSz fd size) process tt
  begun-sizes new s pid (Call.Unlink name) process = led-bare new s pid (Call.Unlink name) process tt
  begun-sizes new s pid Call.Fork process = led-bare new s pid Call.Fork process tt
  begun-sizes new s pid Call.Exit process = led-bare new s pid Call.Exit process tt

  nobody-sizes : (new : NewKeys K) (s : Core A K) (pid : ℕ) (call : Call A) → s.processes pid ≡ false → sizes_of (drawn new (core_step s (Begin pid call))).reply ≡ no_list
  unfolding core_step happen
  nobody-sizes new s pid call nobody = ap (λ b. sizes_of (drawn new (drawing_map (ended s) (cond b (drawing_map (begun s pid call) (begin s pid call)) (Plain (stepped s NoProcess))))).reply) nobody

  pub reply-sizes : (new : NewKeys K) (s : Core A K) (x : Step A) → sizes_of (drawn new (core_step s x)).reply ≡ sizes_told s x
  unfolding core_step happen
  reply-sizes new s Start = by (lowest_pid s)
    where
      by : (pid : Option ℕ) → sizes_of (started s pid).reply ≡ no_list
      by None = refl
      by (Some pid) = refl
  reply-sizes new s (Begin pid call) = by (s.processes pid) refl
    where
      by : (b : Bool) → s.processes pid ≡ b → sizes_of (drawn new (core_step s (Begin pid call))).reply ≡ cond b (sizes_begun s pid call) no_list
      by true e = begun-sizes new s pid call e
      by false e = nobody-sizes new s pid call e
  reply-sizes new s (Resume c) = resumed-sizes s c (get nat_eq s.parked c)
  reply-sizes new s (Interrupt c) = by (get nat_eq s.parked c)
    where
      counted : (b : Bool) (n : ℕ) → sizes_of {A = A} (cond b (count n) (Fault EINTR)) ≡ no_list
      counted true n = refl
      counted false n = refl

      by : (w : Option (Waiting A K)) → sizes_of (interrupted s c w).reply ≡ no_list
      by None = refl
      by (Some w) = counted (nat_lt 0 w.taken) w.taken

  -- a call that takes no memory has no list
  frugal-call : (s : Core A K) (pid : ℕ) (call : Call A) → is_frugal_call call ≡ true → sizes_begun s pid call ≡ no_list
  frugal-call s pid (Call.Read fd n) h = absurd (cc)
  frugal-call s pid (Call.Poll entries wait) h = absurd (cc)
  frugal-call s pid (Call.Pipe nonblock direct) h = refl
  frugal-call s pid (Call.Mkfifo name) h = refl
  frugal-call s pid (Call.OpenName name mode flags) h = refl
  frugal-call s pid (Call.Write fd bytes) h = refl
  frugal-call s pid (Call.Splice from from_offset to to_offset len flags) h = refl
  frugal-call s pid (Call.Tee from to len flags) h = refl
  frugal-call s pid (Call.Dup fd) h = refl
  frugal-call s pid (Call.Dup2 fd target) h = refl
  frugal-call s pid (Call.DupFd fd least) h = refl
  frugal-call s pid (Call.Close fd) h = refl
  frugal-call s pid (Call.Lseek fd offset whence) h = refl
  frugal-call s pid (Call.GetFl fd) h = refl
  frugal-call s pid (Call.SetFl fd flags) h = refl
  frugal-call s pid (Call.GetPipeSz fd) h = refl
  frugal-call s pid (Call.SetPipeSz fd size) h = refl
  frugal-call s pid (Call.Unlink name) h = refl
  frugal-call s pid Call.Fork h = refl
  frugal-call s pid Call.Exit h = refl

  pub frugal-sizes : (s : Core A K) (x : Step A) → is_frugal x ≡ true → sizes_told s x ≡ no_list
  frugal-sizes s Start h = absurd (cc)
  frugal-sizes s (Begin pid call) h = by (s.processes pid)
    where
      by : (b : Bool) → cond b (sizes_begun s pid call) no_list ≡ no_list
      by true = frugal-call s pid call h
      by false = refl
  frugal-sizes s (Resume c) h = absurd (cc)
  frugal-sizes s (Interrupt c) h = refl
