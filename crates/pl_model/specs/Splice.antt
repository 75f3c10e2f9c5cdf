-- Splice and tee: bytes that go from one description to another.
use Rattle.std.specs.Prelude.{ℕ, ◌+◌, ◌-◌, Bool, true, false, not, ◌==◌, ◌&&◌, ◌||◌, nat_lt, min, List, length, take, drop, Option, is_some, unwrap_or, if◌then◌else◌}
use Rattle.std.specs.declared.option.Option.TheVariants.{None, Some}
use Rattle.pl_model.specs.declared.cases.Source.{Source}
use Rattle.pl_model.specs.declared.cases.Target.{Target}
use Rattle.pl_model.specs.declared.cases.MoveCase.{MoveCase}
use Rattle.pl_model.specs.declared.replies.Reply.TheVariants.{Fault}
use Rattle.pl_model.specs.declared.replies.Errno.TheVariants.{EFBIG, EINVAL, EPIPE}
use Rattle.pl_model.specs.Keys.{Keys, Node, PipeNode, FileNode}
use Rattle.pl_model.specs.State.{Core, Description, Open, set_file}
use Rattle.pl_model.specs.Packets.{is_byte_queue}
use Rattle.pl_model.specs.Live.{readers, writers}
use Rattle.pl_model.specs.Trial.{Trial, Done, Wait, still, pipe_at}
use Rattle.pl_model.specs.Transfer.{room, put_bytes, count, file_at, moved_to}

abbrev pub to_be_had : Source → ℕ
to_be_had (Source.Pipe held has_writer) = held
to_be_had (Source.File left) = left

abbrev pub room_of : Target → ℕ
room_of (Target.Pipe room has_reader) = room
room_of (Target.File room) = room

-- splice(2): nothing more can come from an empty pipe that nobody can write to, nor from a file at its end or past it.
abbrev pub is_at_end : Source → Bool
is_at_end (Source.Pipe held has_writer) = held == 0 && not has_writer
is_at_end (Source.File left) = left == 0

-- POSIX.1-2017, write, EPIPE: nobody can read what would go in.
abbrev pub is_broken : Target → Bool
is_broken (Target.Pipe room has_reader) = not has_reader
is_broken (Target.File room) = false

abbrev pub is_full_pipe : Target → Bool
is_full_pipe (Target.Pipe room has_reader) = room == 0
is_full_pipe (Target.File room) = false

-- splice(2), tee(2): at most len bytes, len not 0, go over. The first row that holds decides (the order is our own).
abbrev pub move_case : Source → Target → (len : ℕ) → MoveCase
move_case source target len =
    if is_broken target then MoveCase.Broken
    else if is_at_end source then MoveCase.EndOfInput
    else if to_be_had source == 0 then MoveCase.Waits
    else if is_full_pipe target then MoveCase.Waits
    else if room_of target == 0 then MoveCase.TooBig
    else MoveCase.Moves (min len (min (to_be_had source) (room_of target)))

-- one side of a splice: a description with its key, and the offset that was given for it
pub record Side (K : Keys) : Type 0 where
  pub key : K.Description
  pub description : Description K
  pub given : Option ℕ

module _ {K : Keys} where
  abbrev pub side : Open K → Option ℕ → Side K
  side o given = record { key = o.key; description = o.description; given = given }

  -- splice(2): a file gives or takes bytes at the offset that was given, or else at its own.
  abbrev pub start : Side K → ℕ
  start x = unwrap_or x.given x.description.offset

  -- a pipe that gives k bytes loses them; those of a tee stay
  abbrev pub leaves : (is_tee : Bool) → Node K → ℕ → Option (K.Pipe × ℕ)
  leaves true node k = None
  leaves false (PipeNode p) k = Some (p, k)
  leaves false (FileNode f) k = None

  -- a pipe gains the bytes at its end
  abbrev pub enters : Node K → List ℕ → Option (K.Pipe × List ℕ)
  enters (PipeNode p) bytes = Some (p, bytes)
  enters (FileNode f) bytes = None

module _ {A : Type 0} {K : Keys} where
  -- the bytes that a source has to give
  abbrev pub bytes_from : Core A K → Side K → Node K → List ℕ
  bytes_from s from (PipeNode p) = (pipe_at s p).bytes
  bytes_from s from (FileNode f) = drop (start from) (file_at s f)

  abbrev pub source_of : Core A K → Side K → Node K → Source
  source_of s from (PipeNode p) = Source.Pipe (length (pipe_at s p).bytes) (nat_lt 0 (writers s p))
  source_of s from (FileNode f) = Source.File (length (file_at s f) - start from)

  abbrev pub target_of : Core A K → Side K → Node K → Target
  target_of s to (PipeNode p) = Target.Pipe (room (pipe_at s p)) (nat_lt 0 (readers s p))
  target_of s to (FileNode f) = Target.File (s.limits.file_max - start to)

  -- splice(2): the offset that was given stays the caller's, and the description's own advances where none was.
  abbrev pub advanced : Core A K → Side K → ℕ → Core A K
  advanced s x k = if is_some x.given then s else moved_to s x.key x.description (start x + k)

  abbrev pub source_advanced : Core A K → Side K → Node K → ℕ → Core A K
  source_advanced s from (PipeNode p) k = s
  source_advanced s from (FileNode f) k = advanced s from k

  abbrev pub target_put : Core A K → Side K → Node K → List ℕ → Core A K
  target_put s to (PipeNode p) bytes = s
  target_put s to (FileNode f) bytes = advanced (set_file s f (put_bytes (file_at s f) (start to) bytes)) to (length bytes)

  -- these bytes go over
  abbrev pub moved : Core A K → (from to : Side K) → (is_tee : Bool) → List ℕ → Trial A K
  moved s from to is_tee bytes =
      Done (target_put (source_advanced s from from.description.node (length bytes)) to to.description.node bytes)
      (record { out = leaves is_tee from.description.node (length bytes); into = enters to.description.node bytes })
      (count (length bytes))

  abbrev pub move_row : Core A K → (from to : Side K) → (is_tee : Bool) → MoveCase → Trial A K
  move_row s from to is_tee MoveCase.Broken = Done s still (Fault EPIPE)
  move_row s from to is_tee MoveCase.EndOfInput = Done s still (count 0)
  move_row s from to is_tee MoveCase.Waits = Wait s still 0
  move_row s from to is_tee MoveCase.TooBig = Done s still (Fault EFBIG)
  move_row s from to is_tee (MoveCase.Moves k) = moved s from to is_tee (take k (bytes_from s from from.description.node))

  -- pipe(2), O_DIRECT: the node is a packet pipe.
  abbrev pub is_packet_pipe : Core A K → Node K → Bool
  is_packet_pipe s (PipeNode p) = not (is_byte_queue (pipe_at s p))
  is_packet_pipe s (FileNode f) = false

  -- splice(2), tee(2): one try, which moves, or copies, at most len bytes. That one of a packet pipe is EINVAL is our own choice.
  unfoldable pub try_move : Core A K → (from to : Side K) → (len : ℕ) → (is_tee : Bool) → Trial A K
  try_move s from to len is_tee =
      if is_packet_pipe s from.description.node || is_packet_pipe s to.description.node then Done s still (Fault EINVAL)
      else move_row s from to is_tee (move_case (source_of s from from.description.node) (target_of s to to.description.node) len)
