-- Which calls stay parked through what a step does.
use Rattle.std.proofs.Common.{◌≡◌, ℕ, ℤ, ◌+◌, Bool, true, false, cond, List, [], ◌∷◌, Option, length, nat_eq, refl, ◌∙◌, ap}
use Rattle.std.specs.Prelude.{◌||◌, ◌&&◌, ◌==◌, not, is_some, option_map}
use Rattle.std.specs.List.{filter}
use Rattle.std.specs.declared.option.Option.TheVariants.{None, Some}
use Rattle.std.proofs.lemmas.Bool.{and_right, false_from_ne_true, eq-eqb, eqb-true, eqb-false}
use Rattle.pl_model.specs.declared.calls.Call.{Call}
use Rattle.pl_model.specs.declared.calls.Mode.{Mode}
use Rattle.pl_model.specs.declared.calls.Whence.{Whence}
use Rattle.pl_model.specs.declared.cases.ReadCase.{ReadCase}
use Rattle.pl_model.specs.declared.cases.WriteCase.{WriteCase}
use Rattle.pl_model.specs.declared.cases.MoveCase.{MoveCase}
use Rattle.pl_model.specs.declared.flags.OpenFlags.{OpenFlags}
use Rattle.pl_model.specs.declared.flags.SpliceFlags.{SpliceFlags}
use Rattle.pl_model.specs.declared.flags.PollMask.{PollMask}
use Rattle.pl_model.specs.declared.replies.Errno.TheVariants.{EINVAL}
use Rattle.pl_model.specs.declared.replies.Reply.TheVariants.{Fault, CallsSpent, Parked}
use Rattle.pl_model.specs.Numbers.{last_call}
use Rattle.pl_model.specs.Map.{Map, get}
use Rattle.pl_model.specs.Keys.{Node, NewKeys, PipeNode, FileNode}
use Rattle.pl_model.specs.State.{Core, Pipe, Description, Waiting, named, can_wait}
use Rattle.pl_model.specs.Trial.{Trial, Flow, Done, Wait, Begun, Refused, Answered, Tried, still, flowed, pipe_at}
use Rattle.pl_model.specs.Transfer.{moved_to, read_row, write_row, read_case, write_case, read_pipe, write_pipe, read_file, write_file, read_node, write_node}
use Rattle.pl_model.specs.Splice.{Side, is_packet_pipe, move_case, move_row, source_of, target_of, source_advanced, target_put, advanced, start, try_move}
use Rattle.pl_model.specs.Poll.{try_poll}
use Rattle.pl_model.specs.Tables.{exit}
use Rattle.pl_model.specs.Fifo.{meet, is_open_without}
use Rattle.pl_model.specs.Begin.{open_named, begin_pipe, begin_mkfifo, begin_open_name, begin_read, begin_write, begin_splice, begin_tee, begin_poll, begin_dup, begin_dup2, begin_dup_fd, begin_close, begin_lseek, begin_get_fl, begin_set_fl, begin_get_pipe_sz, begin_set_pipe_sz, begin_unlink, begin_fork}
use Rattle.pl_model.specs.Step.{opened_by, try, try_open, begin, begun, first_tried, tried_again, waiting, stepped, parked, without_call}
use Rattle.pl_model.specs.Touching.{stands_at, keeps_at, touches_by, is_exit}
use Rattle.pl_model.specs.TouchingLaw.{opens_name}
use Rattle.pl_model.specs.Numbered.{numbers}
use Rattle.pl_model.proofs.by_call.Ways.{BegunAll, LeadsTo, TrialAll, begun_plain, ways}
use Rattle.pl_model.proofs.settling.Meeting.{met_by, meet-get}
use Rattle.pl_model.proofs.streams.Does.{flowed_parked}
use Rattle.pl_model.proofs.streams.Maps.{put_other, append_old}
use Rattle.pl_model.proofs.touching.Changing.{no_two}

-- what passes the test under the number stays under it
filter_stays : {X : Type 0} (t : ℕ × X → Bool) (es : Map ℕ X) (n : ℕ) (w : X) → ((k : ℕ) → nat_eq k n ≡ true → t (k, w) ≡ true) → get nat_eq es n ≡ Some w → get nat_eq (filter t es) n ≡ Some w
filter_stays t [] n w passes here = here
filter_stays t (e ∷ es) n w passes here = at (nat_eq e.0 n) (t e) refl refl here (filter_stays t es n w passes)
  where
    at : (a b : Bool) → nat_eq e.0 n ≡ a → t e ≡ b → cond a (Some e.1) (get nat_eq es n) ≡ Some w → (get nat_eq es n ≡ Some w → get nat_eq (filter t es) n ≡ Some w) →
        get nat_eq (cond b (e ∷ filter t es) (filter t es)) n ≡ Some w
    at true true i p here rest = ap (λ z. cond z (Some e.1) (get nat_eq (filter t es) n)) i ∙ here
    at true false i p here rest = (let same : e.1 ≡ w = cc in absurd (no_two (ap (λ z. t (e.0, z)) same ∙ passes e.0 i) p))
    at false true i p here rest = ap (λ z. cond z (Some e.1) (get nat_eq (filter t es) n)) i ∙ rest here
    at false false i p here rest = rest here

-- A try parks no call, and takes none away.
module _ {A : Type 0} (s : Core A numbers) where
  -- the same calls are parked
  abbrev pub AsParked : Core A numbers → Type 0
  AsParked u = u.parked ≡ s.parked

  read_row_parked : (p : ℕ) (pipe : Pipe) (row : ReadCase) → TrialAll AsParked (read_row s p pipe row)
  read_row_parked p pipe (ReadCase.Gives n) = refl
  read_row_parked p pipe ReadCase.EndOfFile = refl
  read_row_parked p pipe ReadCase.Waits = refl

  write_row_parked : (p : ℕ) (bytes : List ℕ) (t : ℕ) (row : WriteCase) → TrialAll AsParked (write_row s p bytes t row)
  write_row_parked p bytes t WriteCase.Broken = refl
  write_row_parked p bytes t WriteCase.CutShort = refl
  write_row_parked p bytes t (WriteCase.Ends from to) = refl
  write_row_parked p bytes t (WriteCase.Waits from to) = refl

  read_node_parked : (d : ℕ) (x : Description numbers) (node : Node numbers) (n : ℕ) → TrialAll AsParked (read_node s d x node n)
  unfolding read_pipe read_file
  read_node_parked d x (PipeNode p) n = read_row_parked p (pipe_at s p) (read_case n _ _)
  read_node_parked d x (FileNode f) n = refl

  write_node_parked : (d : ℕ) (x : Description numbers) (node : Node numbers) (bytes : List ℕ) (t : ℕ) (may_wait : Bool) → TrialAll AsParked (write_node s d x node bytes t may_wait)
  unfolding write_pipe write_file
  write_node_parked d x (PipeNode p) bytes t may_wait = write_row_parked p bytes t (write_case (length bytes) t _ _ may_wait)
  write_node_parked d x (FileNode f) bytes t may_wait = search ways

  advanced_parked : (u : Core A numbers) (x : Side numbers) (k : ℕ) → AsParked u → AsParked (advanced u x k)
  advanced_parked u x k h = at (is_some x.given)
    where
      at : (b : Bool) → AsParked (cond b u (moved_to u x.key x.description (start x + k)))
      at true = h
      at false = h

  source_parked : (x : Side numbers) (node : Node numbers) (k : ℕ) → AsParked (source_advanced s x node k)
  source_parked x (PipeNode p) k = refl
  source_parked x (FileNode f) k = advanced_parked s x k refl

  target_parked : (u : Core A numbers) (x : Side numbers) (node : Node numbers) (bytes : List ℕ) → AsParked u → AsParked (target_put u x node bytes)
  target_parked u x (PipeNode p) bytes h = h
  target_parked u x (FileNode f) bytes h = advanced_parked _ x (length bytes) h

  move_row_parked : (from to : Side numbers) (is_tee : Bool) (row : MoveCase) → TrialAll AsParked (move_row s from to is_tee row)
  move_row_parked from to is_tee MoveCase.Broken = refl
  move_row_parked from to is_tee MoveCase.EndOfInput = refl
  move_row_parked from to is_tee MoveCase.Waits = refl
  move_row_parked from to is_tee MoveCase.TooBig = refl
  move_row_parked from to is_tee (MoveCase.Moves k) = target_parked _ to to.description.node _ (source_parked from from.description.node _)

  move_parked : (from to : Side numbers) (len : ℕ) (is_tee : Bool) → TrialAll AsParked (try_move s from to len is_tee)
  unfolding try_move
  move_parked from to len is_tee = at (is_packet_pipe s from.description.node || is_packet_pipe s to.description.node)
    where
      at : (packets : Bool) → TrialAll AsParked (cond packets (Done s still (Fault EINVAL)) (move_row s from to is_tee (move_case (source_of s from from.description.node) (target_of s to to.description.node) len)))
      at true = refl
      at false = move_row_parked from to is_tee (move_case (source_of s from from.description.node) (target_of s to to.description.node) len)

  poll_parked : (entries : List (ℤ × PollMask)) (kept : List ℕ) (may_wait : Bool) → TrialAll AsParked (try_poll s entries kept may_wait)
  unfolding try_poll
  poll_parked entries kept may_wait = search ways

  opened_parked : (pid d : ℕ) (place : Option ℕ) → TrialAll AsParked (opened_by s pid d place)
  opened_parked pid d None = refl
  opened_parked pid d (Some fd) = refl

  open_parked : (w : Waiting A numbers) → TrialAll AsParked (try_open s w)
  open_parked w = search (ways, opened_parked)

  -- a try of any call
  pub try_parked : (w : Waiting A numbers) (call : Call A) (may_wait : Bool) → TrialAll AsParked (try s w call may_wait)
  unfolding try
  try_parked w (Call.Read fd n) may_wait = search (ways, read_node_parked)
  try_parked w (Call.Write fd bytes) may_wait = search (ways, write_node_parked)
  try_parked w (Call.Splice from from_offset to to_offset len flags) may_wait = search (ways, move_parked)
  try_parked w (Call.Tee from to len flags) may_wait = search (ways, move_parked)
  try_parked w (Call.Poll entries wait) may_wait = poll_parked entries w.kept may_wait
  try_parked w (Call.OpenName name mode flags) may_wait = open_parked w
  try_parked w call may_wait = refl

-- A call that waits stays parked where another call begins, if it isn't its process that ends and it meets no other end.
module _ {A : Type 0} (c : Core A numbers) (new : NewKeys numbers) (n : ℕ) (w : Waiting A numbers) (here : get nat_eq c.parked n ≡ Some w) where
  -- it is parked as it was
  abbrev pub Stays : Core A numbers → Type 0
  Stays u = get nat_eq u.parked n ≡ Some w

  pipe_stays : (pid : ℕ) (nonblock direct : Bool) → LeadsTo new (BegunAll Stays) (begin_pipe c pid nonblock direct)
  unfolding begin_pipe
  pipe_stays pid nonblock direct = search ways depth 14

  mkfifo_stays : (name : List ℕ) → LeadsTo new (BegunAll Stays) (begin_mkfifo c name)
  unfolding begin_mkfifo
  mkfifo_stays name = search ways depth 14

  read_stays : (pid : ℕ) (fd : ℤ) (k : ℕ) → LeadsTo new (BegunAll Stays) (begin_read c pid fd k)
  unfolding begin_read
  read_stays pid fd k = search ways depth 14

  write_stays : (pid : ℕ) (fd : ℤ) (bytes : List ℕ) → LeadsTo new (BegunAll Stays) (begin_write c pid fd bytes)
  unfolding begin_write
  write_stays pid fd bytes = search ways depth 14

  splice_stays : (pid : ℕ) (from : ℤ) (from_offset : Option ℕ) (to : ℤ) (to_offset : Option ℕ) (len : ℕ) (flags : SpliceFlags) → LeadsTo new (BegunAll Stays) (begin_splice c pid from from_offset to to_offset len flags)
  unfolding begin_splice
  splice_stays pid from from_offset to to_offset len flags = search ways depth 16

  tee_stays : (pid : ℕ) (from to : ℤ) (len : ℕ) (flags : SpliceFlags) → LeadsTo new (BegunAll Stays) (begin_tee c pid from to len flags)
  unfolding begin_tee
  tee_stays pid from to len flags = search ways depth 16

  poll_stays : (pid : ℕ) (entries : List (ℤ × PollMask)) (wait : Bool) → LeadsTo new (BegunAll Stays) (begin_poll c pid entries wait)
  unfolding begin_poll
  poll_stays pid entries wait = search ways depth 14

  dup_stays : (pid : ℕ) (fd : ℤ) → LeadsTo new (BegunAll Stays) (begin_dup c pid fd)
  unfolding begin_dup
  dup_stays pid fd = search ways depth 14

  dup2_stays : (pid : ℕ) (fd target : ℤ) → LeadsTo new (BegunAll Stays) (begin_dup2 c pid fd target)
  unfolding begin_dup2
  dup2_stays pid fd target = search ways depth 14

  dup_fd_stays : (pid : ℕ) (fd least : ℤ) → LeadsTo new (BegunAll Stays) (begin_dup_fd c pid fd least)
  unfolding begin_dup_fd
  dup_fd_stays pid fd least = search ways depth 14

  close_stays : (pid : ℕ) (fd : ℤ) → LeadsTo new (BegunAll Stays) (begin_close c pid fd)
  unfolding begin_close
  close_stays pid fd = search ways depth 14

  lseek_stays : (pid : ℕ) (fd offset : ℤ) (whence : Whence) → LeadsTo new (BegunAll Stays) (begin_lseek c pid fd offset whence)
  unfolding begin_lseek
  lseek_stays pid fd offset whence = search ways depth 14

  get_fl_stays : (pid : ℕ) (fd : ℤ) → LeadsTo new (BegunAll Stays) (begin_get_fl c pid fd)
  unfolding begin_get_fl
  get_fl_stays pid fd = search ways depth 14

  set_fl_stays : (pid : ℕ) (fd : ℤ) (flags : OpenFlags) → LeadsTo new (BegunAll Stays) (begin_set_fl c pid fd flags)
  unfolding begin_set_fl
  set_fl_stays pid fd flags = search ways depth 14

  get_pipe_sz_stays : (pid : ℕ) (fd : ℤ) → LeadsTo new (BegunAll Stays) (begin_get_pipe_sz c pid fd)
  unfolding begin_get_pipe_sz
  get_pipe_sz_stays pid fd = search ways depth 14

  set_pipe_sz_stays : (pid : ℕ) (fd : ℤ) (size : ℕ) → LeadsTo new (BegunAll Stays) (begin_set_pipe_sz c pid fd size)
  unfolding begin_set_pipe_sz
  set_pipe_sz_stays pid fd size = search ways depth 14

  unlink_stays : (name : List ℕ) → LeadsTo new (BegunAll Stays) (begin_unlink c name)
  unfolding begin_unlink
  unlink_stays name = search ways depth 14

  fork_stays : (pid : ℕ) → LeadsTo new (BegunAll Stays) (begin_fork c pid)
  unfolding begin_fork
  fork_stays pid = search ways depth 14

  -- an open meets no call that keeps no description of the FIFO
  meet_stays : (p : ℕ) (mode : Mode) → keeps_at c (PipeNode p) w ≡ false → Stays (meet c p mode)
  meet_stays p mode off =
      meet-get c p mode n ∙ ap (option_map (met_by c p mode)) here
      ∙ ap (λ b. Some (cond b (record w { met = true }) w)) (and_right (is_open_without mode w.call) (keeps_at c (PipeNode p) w) off)

  truncate_stays : (b : Bool) (u v : Core A numbers) → Stays u → Stays v → Stays (cond b u v)
  truncate_stays true u v h k = h
  truncate_stays false u v h k = k

  -- no call at the node that the name stands for
  abbrev NotOpened : Option (Node numbers) → Type 0
  NotOpened o = (node : Node numbers) → keeps_at c node w ≡ true → stands_at node o ≡ false

  named_stays : (pid fd : ℕ) (name : List ℕ) (o : Option (Node numbers)) (mode : Mode) (flags : OpenFlags) → NotOpened o → LeadsTo new (BegunAll Stays) (open_named c pid fd name o mode flags)
  named_stays pid fd name None mode flags off = search ways
  named_stays pid fd name (Some (FileNode f)) mode flags off = search (ways, truncate_stays)
  named_stays pid fd name (Some (PipeNode p)) mode flags off = search (ways, met) depth 14
    where
      met : Stays (meet c p mode)
      met = meet_stays p mode (false_from_ne_true _ (λ k. no_two (eq-eqb p p refl) (off (PipeNode p) k)))

  open_stays : (pid : ℕ) (name : List ℕ) (mode : Mode) (flags : OpenFlags) → NotOpened (named c name) → LeadsTo new (BegunAll Stays) (begin_open_name c pid name mode flags)
  unfolding begin_open_name
  open_stays pid name mode flags off = search (ways, named_stays) depth 14

  exit_stays : (pid : ℕ) → nat_eq w.pid pid ≡ false → Stays (exit c pid)
  exit_stays pid other = filter_stays (λ e. not (nat_eq e.1.pid pid)) c.parked n w (λ k e. ap not other) here

  -- the checks of a call that opens no name
  pub other_stays : (pid : ℕ) (call : Call A) → opens_name call ≡ false → (is_exit call && nat_eq w.pid pid) ≡ false → LeadsTo new (BegunAll Stays) (begin c pid call)
  unfolding begin
  other_stays pid (Call.Pipe nonblock direct) none other = pipe_stays pid nonblock direct
  other_stays pid (Call.Mkfifo name) none other = mkfifo_stays name
  other_stays pid (Call.OpenName name mode flags) none other = absurd (cc)
  other_stays pid (Call.Read fd k) none other = read_stays pid fd k
  other_stays pid (Call.Write fd bytes) none other = write_stays pid fd bytes
  other_stays pid (Call.Splice from from_offset to to_offset len flags) none other = splice_stays pid from from_offset to to_offset len flags
  other_stays pid (Call.Tee from to len flags) none other = tee_stays pid from to len flags
  other_stays pid (Call.Poll entries wait) none other = poll_stays pid entries wait
  other_stays pid (Call.Dup fd) none other = dup_stays pid fd
  other_stays pid (Call.Dup2 fd target) none other = dup2_stays pid fd target
  other_stays pid (Call.DupFd fd least) none other = dup_fd_stays pid fd least
  other_stays pid (Call.Close fd) none other = close_stays pid fd
  other_stays pid (Call.Lseek fd offset whence) none other = lseek_stays pid fd offset whence
  other_stays pid (Call.GetFl fd) none other = get_fl_stays pid fd
  other_stays pid (Call.SetFl fd flags) none other = set_fl_stays pid fd flags
  other_stays pid (Call.GetPipeSz fd) none other = get_pipe_sz_stays pid fd
  other_stays pid (Call.SetPipeSz fd size) none other = set_pipe_sz_stays pid fd size
  other_stays pid (Call.Unlink name) none other = unlink_stays name
  other_stays pid Call.Fork none other = fork_stays pid
  other_stays pid Call.Exit none other = begun_plain new (BegunAll Stays) _ (exit_stays pid other)

  -- those of any call that touches none of what this one keeps
  pub begin_stays : (pid : ℕ) (call : Call A) → (is_exit call && nat_eq w.pid pid) ≡ false → ((node : Node numbers) → keeps_at c node w ≡ true → touches_by c node pid call ≡ false) →
      LeadsTo new (BegunAll Stays) (begin c pid call)
  unfolding begin touches_by
  begin_stays pid (Call.OpenName name mode flags) other off = open_stays pid name mode flags off
  begin_stays pid call other off = other_stays pid call refl other

  -- what a try leaves, as the call was parked before it
  flow_stays : (s u : Core A numbers) (flow : Flow numbers) → Stays s → u.parked ≡ s.parked → Stays (flowed u flow)
  flow_stays s u flow h same = ap (λ es. get nat_eq es n) (flowed_parked u flow ∙ same) ∙ h

  first_stays : (s : Core A numbers) (v : Waiting A numbers) (may_wait : Bool) (t : Trial A numbers) → Stays s → TrialAll (AsParked s) t → Stays (first_tried c v may_wait t).state
  first_stays s v may_wait (Done u flow reply) h k = flow_stays s u flow h k
  first_stays s v false (Wait u flow taken) h k = here
  first_stays s v true (Wait u flow taken) h k = spent (c.next_call == last_call)
    where
      spent : (b : Bool) → Stays (cond b (stepped c CallsSpent) (record { state = parked (flowed u flow) (record v { taken = taken }); reply = Parked c.next_call; flow = flow })).state
      spent true = here
      spent false = append_old (flowed u flow).parked (flowed u flow).next_call n (record v { taken = taken }) w (flow_stays s u flow h k)

  -- and its answer, or its first try
  pub begun_stays : (pid : ℕ) (call : Call A) (b : Begun A numbers) → BegunAll Stays b → Stays (begun c pid call b).state
  begun_stays pid call (Refused errno) k = here
  begun_stays pid call (Answered u reply) k = k
  begun_stays pid call (Tried u kept met may_wait) k = first_stays u (waiting pid call kept met) (may_wait && can_wait c pid) _ k (try_parked u (waiting pid call kept met) call may_wait)

  -- another call ends
  pub end_stays : (u : Core A numbers) (k : ℕ) → nat_eq k n ≡ false → Stays u → Stays (without_call u k)
  end_stays u k other h = filter_stays (λ e. not (nat_eq k e.0)) u.parked n w (λ q e. ap not (ap (nat_eq k) (eqb-true q n e) ∙ other)) h

  -- or is tried again
  pub again_stays : (k : ℕ) (v : Waiting A numbers) (t : Trial A numbers) → nat_eq k n ≡ false → TrialAll (AsParked c) t → Stays (tried_again k v t).state
  again_stays k v (Done u flow reply) other same = end_stays (flowed u flow) k other (flow_stays c u flow here same)
  again_stays k v (Wait u flow taken) other same = put_other (flowed u flow).parked k n (record v { taken = taken }) (eqb-false k n other) ∙ flow_stays c u flow here same
