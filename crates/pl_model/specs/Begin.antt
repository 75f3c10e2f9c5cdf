-- How each call begins: its checks in order, and then its answer or its first try.
use Rattle.std.specs.Prelude.{ℕ, ℤ, pos, negsuc, ◌+◌, ◌+ℤ◌, Bool, true, false, not, ◌==◌, ◌&&◌, ◌||◌, nat_lt, nat_le, List, [], ◌∷◌, length, map, Option, option_and_then, option_map, is_none, is_some, if◌then◌else◌}
use Rattle.std.specs.List.{list_any, filter, filter_map}
use Rattle.std.specs.declared.option.Option.TheVariants.{None, Some}
use Rattle.pl_model.specs.declared.calls.Limits.{Limits}
use Rattle.pl_model.specs.declared.calls.Mode.{Mode}
use Rattle.pl_model.specs.declared.calls.Whence.{Whence}
use Rattle.pl_model.specs.declared.calls.Whence.TheVariants.{Set, Cur, End}
use Rattle.pl_model.specs.declared.flags.OpenFlags.{OpenFlags}
use Rattle.pl_model.specs.declared.flags.SpliceFlags.{SpliceFlags}
use Rattle.pl_model.specs.declared.flags.PollMask.{PollMask}
use Rattle.pl_model.specs.declared.replies.Reply.TheVariants.{Pid, Fd, Fds, Bytes, Offset, Flags, Size, Unit}
use Rattle.pl_model.specs.declared.replies.Errno.TheVariants.{EAGAIN, EBADF, EBUSY, EEXIST, EINVAL, EMFILE, ENAMETOOLONG, ENFILE, ENOENT, ENOSPC, ENXIO, EOVERFLOW, EPERM, ESPIPE}
use Rattle.pl_model.specs.Numbers.{last_call, most_name_bytes, most_capacity, greatest_offset}
use Rattle.pl_model.specs.Modes.{reads, writes, for_reading, for_writing}
use Rattle.pl_model.specs.Flags.{has, creat, excl, trunc, append, nonblock, splice_nonblock, nonblock_if, write_end_flags, status_flags, flags_set}
use Rattle.pl_model.specs.Keys.{Keys, Node, NewKeys, Draws, PipeNode, FileNode}
use Rattle.pl_model.specs.State.{Core, Description, Open, described, named, can_name, can_wait, row, set_file, set_pipe, set_description, pipe_made}
use Rattle.pl_model.specs.Live.{live_count}
use Rattle.pl_model.specs.Packets.{used}
use Rattle.pl_model.specs.Trial.{Begins, Begun, Answered, Tried, pipe_at, answered, tried, refuse_if, found}
use Rattle.pl_model.specs.Transfer.{count, file_at, moved_to}
use Rattle.pl_model.specs.Capacity.{rounded_capacity, pipe_of, set_capacity}
use Rattle.pl_model.specs.Poll.{masks, masks_reply}
use Rattle.pl_model.specs.Tables.{descriptor_limit, entry_limit, description_limit, lowest, lowest_pid, install, close_row, describe, create_file, forget_name, fork}
use Rattle.pl_model.specs.Fifo.{create_fifo, can_open, meet}

-- the place of an open descriptor in its table
abbrev pub natural : ℤ → ℕ
natural (pos n) = n
natural (negsuc n) = 0

-- POSIX.1-2017, getrlimit, RLIMIT_NOFILE: whether a descriptor may be numbered so.
abbrev pub is_descriptor : Limits → ℤ → Bool
is_descriptor limits (pos n) = nat_lt n (descriptor_limit limits)
is_descriptor limits (negsuc n) = false

-- the number, where it isn't below 0
abbrev pub unsigned : ℤ → Option ℕ
unsigned (pos n) = Some n
unsigned (negsuc n) = None

abbrev pub is_negative : ℤ → Bool
is_negative (pos n) = false
is_negative (negsuc n) = true

-- Our own: a slash or a NUL. No name has one, as there are no directories.
abbrev pub is_never_in_name : ℕ → Bool
is_never_in_name b = b == 47 || b == 0

-- splice(2), EINVAL: an offset above the greatest one
abbrev pub is_too_far : Option ℕ → Bool
is_too_far None = false
is_too_far (Some n) = nat_lt greatest_offset n

module _ {K : Keys} where
  -- the file that the node is, if it is one
  abbrev pub file_of : Node K → Option K.File
  file_of (PipeNode p) = None
  file_of (FileNode f) = Some f

  -- POSIX.1-2017, read and write, O_NONBLOCK: whether a call on the description may wait.
  abbrev pub may_block : Description K → Bool
  may_block description = not (has description.flags.0 nonblock)

  abbrev pub is_pipe : Node K → Bool
  is_pipe (PipeNode p) = true
  is_pipe (FileNode f) = false

  abbrev pub is_same_pipe : Node K → Node K → Bool
  is_same_pipe (PipeNode p) (PipeNode q) = K.same_pipe p q
  is_same_pipe node other = false

  -- a pipe whose description doesn't wait
  abbrev pub is_nonblocking_pipe : Description K → Bool
  is_nonblocking_pipe description = is_pipe description.node && has description.flags.0 nonblock

  -- splice(2), tee(2), SPLICE_F_NONBLOCK: whether a call between two descriptions may wait. That O_NONBLOCK of a pipe's description
  -- counts too is our own choice.
  abbrev pub may_wait_between : SpliceFlags → Description K → Description K → Bool
  may_wait_between flags from to = not (has flags.0 splice_nonblock) && not (is_nonblocking_pipe from || is_nonblocking_pipe to)

  -- the open description, where its mode passes the test
  abbrev pub allowed : (Mode → Bool) → Option (Open K) → Option (Open K)
  allowed test None = None
  allowed test (Some o) = if test o.description.mode then Some o else None

  -- the descriptions that are open
  abbrev pub keys_of : List (Option (Open K)) → List K.Description
  keys_of opens = filter_map (option_map (λ o. o.key)) opens

module _ {A : Type 0} {K : Keys} where
  -- what the descriptor names
  abbrev pub open_fd : Core A K → ℕ → ℤ → Option (Open K)
  open_fd s pid fd = option_and_then (described s) (row s pid fd)

  abbrev pub open_for : (Mode → Bool) → Core A K → ℕ → ℤ → Option (Open K)
  open_for test s pid fd = allowed test (open_fd s pid fd)

  -- a pipe with a read end and a write end, under new keys
  abbrev pub make_pipe : Core A K → NewKeys K → (pid first second : ℕ) → (packets : Bool) → (of_reader of_writer : OpenFlags) → Core A K
  make_pipe s new pid first second packets of_reader of_writer =
      let node = PipeNode new.pipe in
      let with_pipe = set_pipe s new.pipe (pipe_made packets) in
      let with_reader = install (describe with_pipe new.description node for_reading of_reader) pid first new.description in
      install (describe with_reader new.other_description node for_writing of_writer) pid second new.other_description

  -- POSIX.1-2017, pipe: EMFILE, ENFILE; pipe(2), O_NONBLOCK and O_DIRECT.
  unfoldable pub begin_pipe : Core A K → ℕ → (nonblocking packets : Bool) → Begins A K
  begin_pipe s pid nonblocking packets =
      found (lowest s pid 0) EMFILE (λ first.
      found (lowest s pid (first + 1)) EMFILE (λ second.
      refuse_if (nat_lt (description_limit s.limits) (live_count s + 2)) ENFILE
      (Draws (λ new. Answered (make_pipe s new pid first second packets (nonblock_if nonblocking) (write_end_flags nonblocking packets)) (Fds (pos first) (pos second))))))

  -- POSIX.1-2017, open and unlink: ENOENT of an empty name, ENAMETOOLONG. That a slash or a NUL is EINVAL is our own choice.
  abbrev pub check_name : List ℕ → Begins A K → Begins A K
  check_name name next =
      refuse_if (length name == 0) ENOENT
      (refuse_if (nat_lt most_name_bytes (length name)) ENAMETOOLONG
      (refuse_if (list_any is_never_in_name name) EINVAL next))

  -- POSIX.1-2017, open, O_TRUNC: a file that is opened for writing loses its bytes. That another keeps them is our own choice.
  abbrev pub truncated : Core A K → K.File → Mode → OpenFlags → Core A K
  truncated s f mode flags = if has flags.0 trunc && writes mode then set_file s f [] else s

  -- POSIX.1-2017, open: the descriptor names a new description on the node, whose offset is 0.
  abbrev pub open_at : Core A K → K.Description → ℕ → ℕ → Node K → Mode → OpenFlags → Begun A K
  open_at s d pid fd node mode flags = Answered (install (describe s d node mode (status_flags flags)) pid fd d) (Fd (pos fd))

  -- POSIX.1-2017, mkfifo: EEXIST, ENOSPC.
  unfoldable pub begin_mkfifo : Core A K → List ℕ → Begins A K
  begin_mkfifo s name =
      check_name name
      (refuse_if (is_some (named s name)) EEXIST
      (refuse_if (not (can_name s)) ENOSPC
      (Draws (λ new. Answered (create_fifo s name new.pipe) Unit))))

  -- The call waits, with the description that it opens, which counts as an end (our own). It meets the opens that wait for that end;
  -- where no number is left for it, or too many calls wait, it meets none.
  abbrev pub await_other_end : Core A K → ℕ → K.Pipe → Mode → OpenFlags → Begins A K
  await_other_end s pid p mode flags =
      if s.next_call == last_call || not (can_wait s pid) then tried s [] false true
      else Draws (λ new. Tried (describe (meet s p mode) new.description (PipeNode p) mode (status_flags flags)) (new.description ∷ []) false true)

  -- POSIX.1-2017, open: a FIFO without the other end that this open needs is waited for, or ENXIO with O_NONBLOCK.
  abbrev pub open_fifo : Core A K → ℕ → ℕ → K.Pipe → Mode → OpenFlags → Begins A K
  open_fifo s pid fd p mode flags =
      if can_open s p mode flags then Draws (λ new. open_at (meet s p mode) new.description pid fd (PipeNode p) mode flags)
      else refuse_if (has flags.0 nonblock) ENXIO (await_other_end s pid p mode flags)

  -- What a name stands for is opened, or made where it stands for nothing (POSIX.1-2017, open, ENOSPC).
  abbrev pub open_named : Core A K → ℕ → ℕ → List ℕ → Option (Node K) → Mode → OpenFlags → Begins A K
  open_named s pid fd name None mode flags =
      refuse_if (not (can_name s)) ENOSPC
      (Draws (λ new. open_at (create_file s name new.file) new.description pid fd (FileNode new.file) mode flags))
  open_named s pid fd name (Some (FileNode f)) mode flags =
      Draws (λ new. open_at (truncated s f mode flags) new.description pid fd (FileNode f) mode flags)
  open_named s pid fd name (Some (PipeNode p)) mode flags = open_fifo s pid fd p mode flags

  -- POSIX.1-2017, open: EEXIST, ENOENT, EMFILE, ENFILE. That O_EXCL has no effect without O_CREAT is our own choice.
  unfoldable pub begin_open_name : Core A K → ℕ → List ℕ → Mode → OpenFlags → Begins A K
  begin_open_name s pid name mode flags =
      let node = named s name in
      check_name name
      (refuse_if (is_some node && (has flags.0 creat && has flags.0 excl)) EEXIST
      (refuse_if (is_none node && not (has flags.0 creat)) ENOENT
      (found (lowest s pid 0) EMFILE (λ fd.
      refuse_if (nat_le (description_limit s.limits) (live_count s)) ENFILE
      (open_named s pid fd name node mode flags)))))

  -- POSIX.1-2017, read: EBADF. That a read of 0 bytes has no other effect is our own choice.
  unfoldable pub begin_read : Core A K → ℕ → ℤ → ℕ → Begins A K
  begin_read s pid fd n =
      found (open_for reads s pid fd) EBADF (λ o.
      if n == 0 then answered s (Bytes [])
      else tried s (o.key ∷ []) false (may_block o.description))

  -- POSIX.1-2017, write: EBADF. That a write of 0 bytes has no other effect, also without readers, is our own choice.
  unfoldable pub begin_write : Core A K → ℕ → ℤ → List ℕ → Begins A K
  begin_write s pid fd bytes =
      found (open_for writes s pid fd) EBADF (λ o.
      if length bytes == 0 then answered s (count 0)
      else tried s (o.key ∷ []) false (may_block o.description))

  -- splice(2): EBADF; ESPIPE of an offset that is given for a pipe; EINVAL of one that is too large, of two files, of the same pipe,
  -- and of a file that is open with O_APPEND. That a splice of 0 bytes is answered before all else is our own choice.
  unfoldable pub begin_splice : Core A K → ℕ → (from : ℤ) → (from_offset : Option ℕ) → (to : ℤ) → (to_offset : Option ℕ) → (len : ℕ) → SpliceFlags → Begins A K
  begin_splice s pid from from_offset to to_offset len flags =
      if len == 0 then answered s (count 0) else
      found (open_for reads s pid from) EBADF (λ source.
      found (open_for writes s pid to) EBADF (λ target.
      let a = source.description in
      let b = target.description in
      refuse_if ((is_pipe a.node && is_some from_offset) || (is_pipe b.node && is_some to_offset)) ESPIPE
      (refuse_if (is_too_far from_offset || is_too_far to_offset) EINVAL
      (refuse_if (not (is_pipe a.node) && not (is_pipe b.node)) EINVAL
      (refuse_if (is_same_pipe a.node b.node) EINVAL
      (refuse_if (not (is_pipe b.node) && has b.flags.0 append) EINVAL
      (tried s (source.key ∷ target.key ∷ []) false (may_wait_between flags a b))))))))

  -- tee(2): EBADF; EINVAL of what is no pipe, and of the same pipe. That a tee of 0 bytes is answered before all else is our own
  -- choice.
  unfoldable pub begin_tee : Core A K → ℕ → (from to : ℤ) → (len : ℕ) → SpliceFlags → Begins A K
  begin_tee s pid from to len flags =
      if len == 0 then answered s (count 0) else
      found (open_for reads s pid from) EBADF (λ source.
      found (open_for writes s pid to) EBADF (λ target.
      let a = source.description in
      let b = target.description in
      refuse_if (not (is_pipe a.node && is_pipe b.node)) EINVAL
      (refuse_if (is_same_pipe a.node b.node) EINVAL
      (tried s (source.key ∷ target.key ∷ []) false (may_wait_between flags a b)))))

  -- what the descriptors of a poll name, but for the negative ones
  abbrev pub named_by : Core A K → ℕ → List (ℤ × PollMask) → List (Option (Open K))
  named_by s pid entries = map (λ e. open_fd s pid e.0) (filter (λ e. not (is_negative e.0)) entries)

  -- POSIX.1-2017, poll: EINVAL of more entries than a poll may have. Where a descriptor isn't open, the poll is answered at once, as it has
  -- found that.
  unfoldable pub begin_poll : Core A K → ℕ → List (ℤ × PollMask) → (wait : Bool) → Begins A K
  begin_poll s pid entries wait =
      let opens = named_by s pid entries in
      refuse_if (nat_lt (entry_limit s.limits) (length entries)) EINVAL
      (if list_any is_none opens then answered s (masks_reply (masks s entries opens))
      else tried s (keys_of opens) false wait)

  -- POSIX.1-2017, dup: EBADF, EMFILE.
  unfoldable pub begin_dup : Core A K → ℕ → ℤ → Begins A K
  begin_dup s pid fd =
      found (open_fd s pid fd) EBADF (λ o.
      found (lowest s pid 0) EMFILE (λ least.
      answered (install s pid least o.key) (Fd (pos least))))

  -- POSIX.1-2017, dup2: EBADF. The target names the description in place of what it named; where that is the same one,
  -- nothing changes.
  unfoldable pub begin_dup2 : Core A K → ℕ → ℤ → ℤ → Begins A K
  begin_dup2 s pid fd target =
      found (open_fd s pid fd) EBADF (λ o.
      refuse_if (not (is_descriptor s.limits target)) EBADF
      (answered (install s pid (natural target) o.key) (Fd target)))

  -- POSIX.1-2017, fcntl, F_DUPFD: EBADF, EINVAL, EMFILE.
  unfoldable pub begin_dup_fd : Core A K → ℕ → ℤ → ℤ → Begins A K
  begin_dup_fd s pid fd least =
      found (open_fd s pid fd) EBADF (λ o.
      refuse_if (not (is_descriptor s.limits least)) EINVAL
      (found (lowest s pid (natural least)) EMFILE (λ free.
      answered (install s pid free o.key) (Fd (pos free)))))

  -- POSIX.1-2017, close: EBADF.
  unfoldable pub begin_close : Core A K → ℕ → ℤ → Begins A K
  begin_close s pid fd =
      found (open_fd s pid fd) EBADF (λ o.
      answered (close_row s pid (natural fd)) Unit)

  -- POSIX.1-2017, lseek: where an offset is counted from.
  abbrev pub seek_base : Core A K → Description K → K.File → Whence → ℕ
  seek_base s description f Set = 0
  seek_base s description f Cur = description.offset
  seek_base s description f End = length (file_at s f)

  -- POSIX.1-2017, lseek: EBADF, ESPIPE, EINVAL, EOVERFLOW. An offset may be past the end of the file.
  unfoldable pub begin_lseek : Core A K → ℕ → ℤ → ℤ → Whence → Begins A K
  begin_lseek s pid fd offset whence =
      found (open_fd s pid fd) EBADF (λ o.
      found (file_of o.description.node) ESPIPE (λ f.
      found (unsigned (pos (seek_base s o.description f whence) +ℤ offset)) EINVAL (λ n.
      refuse_if (nat_lt greatest_offset n) EOVERFLOW
      (answered (moved_to s o.key o.description n) (Offset n)))))

  -- POSIX.1-2017, fcntl, F_GETFL: EBADF.
  unfoldable pub begin_get_fl : Core A K → ℕ → ℤ → Begins A K
  begin_get_fl s pid fd =
      found (open_fd s pid fd) EBADF (λ o.
      answered s (Flags o.description.mode o.description.flags))

  -- POSIX.1-2017, fcntl, F_SETFL: EBADF.
  unfoldable pub begin_set_fl : Core A K → ℕ → ℤ → OpenFlags → Begins A K
  begin_set_fl s pid fd flags =
      found (open_fd s pid fd) EBADF (λ o.
      answered (set_description s o.key (record o.description { flags = flags_set o.description.flags flags })) Unit)

  -- fcntl(2), F_GETPIPE_SZ: EBADF. That it is EBADF of what is no pipe too is our own choice. Either end may be named.
  unfoldable pub begin_get_pipe_sz : Core A K → ℕ → ℤ → Begins A K
  begin_get_pipe_sz s pid fd =
      found (open_fd s pid fd) EBADF (λ o.
      found (pipe_of o.description.node) EBADF (λ p.
      answered s (Size (pipe_at s p).capacity)))

  -- fcntl(2), F_SETPIPE_SZ: EBADF, EPERM above the greatest capacity, EBUSY where the pipe takes more. That it is EBADF of what is
  -- no pipe too, and that the limit is on what the size is rounded to, is our own choice.
  unfoldable pub begin_set_pipe_sz : Core A K → ℕ → ℤ → ℕ → Begins A K
  begin_set_pipe_sz s pid fd size =
      found (open_fd s pid fd) EBADF (λ o.
      found (pipe_of o.description.node) EBADF (λ p.
      refuse_if (nat_lt most_capacity size || nat_lt s.limits.capacity_max (rounded_capacity size)) EPERM
      (refuse_if (nat_lt (rounded_capacity size) (used (pipe_at s p))) EBUSY
      (answered (set_capacity s p (rounded_capacity size)) (Size (rounded_capacity size))))))

  -- POSIX.1-2017, unlink: ENOENT. What the name stood for lives on while it is open.
  unfoldable pub begin_unlink : Core A K → List ℕ → Begins A K
  begin_unlink s name =
      check_name name
      (refuse_if (is_none (named s name)) ENOENT
      (answered (forget_name s name) Unit))

  -- POSIX.1-2017, fork: EAGAIN.
  unfoldable pub begin_fork : Core A K → ℕ → Begins A K
  begin_fork s pid =
      found (lowest_pid s) EAGAIN (λ child.
      answered (fork s pid child) (Pid child))
