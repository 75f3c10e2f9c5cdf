-- Reads and writes of one description.
use Rattle.std.specs.Prelude.{ℕ, ◌+◌, ◌-◌, Bool, not, true, false, ◌==◌, ◌&&◌, nat_lt, nat_le, min, List, [], ◌++◌, length, take, drop, replicate, slice_range, if◌then◌else◌, unwrap_or}
use Rattle.pl_model.specs.declared.cases.ReadCase.{ReadCase}
use Rattle.pl_model.specs.declared.cases.WriteCase.{WriteCase}
use Rattle.pl_model.specs.declared.replies.Reply.{Reply}
use Rattle.pl_model.specs.declared.replies.Reply.TheVariants.{Count, Bytes, Fault}
use Rattle.pl_model.specs.declared.replies.Errno.TheVariants.{EFBIG, EPIPE}
use Rattle.pl_model.specs.Numbers.{pipe_buf}
use Rattle.pl_model.specs.Flags.{has, append}
use Rattle.pl_model.specs.Keys.{Keys, Node, PipeNode, FileNode}
use Rattle.pl_model.specs.State.{Core, Pipe, Description, set_file, set_description}
use Rattle.pl_model.specs.Packets.{used, front, spent}
use Rattle.pl_model.specs.Live.{readers, writers}
use Rattle.pl_model.specs.Trial.{Trial, Done, Wait, still, loses, gains, pipe_at}

-- pipe(7), Pipe capacity: how many more bytes the pipe can hold. A packet pipe has room for PIPE_BUF bytes for each free place.
abbrev pub room : Pipe → ℕ
room pipe = pipe.capacity - used pipe

-- POSIX.1-2017, read: a read of n bytes, n not 0, of a pipe of which it can get so many. The first row that holds decides.
abbrev pub read_case : (n front : ℕ) (has_writer : Bool) → ReadCase
read_case n front has_writer =
    if nat_lt 0 front then ReadCase.Gives (min n front)
    else if not has_writer then ReadCase.EndOfFile
    else ReadCase.Waits

-- POSIX.1-2017, write, and pipe(7), PIPE_BUF: a write of n bytes, n not 0, of which t were taken before, to a pipe with
-- so much room. The first row that holds decides.
abbrev pub write_case : (n t room : ℕ) (has_reader may_wait : Bool) → WriteCase
write_case n t room has_reader may_wait =
    if not has_reader && t == 0 then WriteCase.Broken
    else if not has_reader then WriteCase.CutShort
    else if nat_le n pipe_buf && nat_le n room then WriteCase.Ends 0 n
    else if nat_le n pipe_buf then WriteCase.Waits t t
    else if not may_wait && nat_lt 0 room then WriteCase.Ends 0 (min n room)
    else if not may_wait then WriteCase.Waits t t
    else if nat_le (n - t) room then WriteCase.Ends t n
    else WriteCase.Waits t (t + room)

-- POSIX.1-2017, write, and lseek on gaps: the file padded with zeros to the offset, its bytes from there on replaced, the
-- rest past them kept.
abbrev pub put_bytes : List ℕ → ℕ → List ℕ → List ℕ
put_bytes file offset bytes = (take offset file ++ replicate (offset - length file) 0) ++ (bytes ++ drop (offset + length bytes) file)

-- n bytes are written
abbrev pub count : {A : Type 0} → ℕ → Reply A
count n = Count n false

module _ {K : Keys} where
  -- POSIX.1-2017, open, O_APPEND: where a write of the description begins in the file.
  abbrev pub start_of : Description K → List ℕ → ℕ
  start_of description file = if has description.flags.0 append then length file else description.offset

module _ {A : Type 0} {K : Keys} where
  abbrev pub file_at : Core A K → K.File → List ℕ
  file_at s f = unwrap_or (s.files f) []

  -- the description of the key, with its offset at o
  abbrev pub moved_to : Core A K → K.Description → Description K → ℕ → Core A K
  moved_to s d description o = set_description s d (record description { offset = o })

  abbrev pub read_row : Core A K → K.Pipe → Pipe → ReadCase → Trial A K
  read_row s p pipe (ReadCase.Gives n) = Done s (loses p (spent pipe n)) (Bytes (take n pipe.bytes))
  read_row s p pipe ReadCase.EndOfFile = Done s still (Bytes [])
  read_row s p pipe ReadCase.Waits = Wait s still 0

  -- POSIX.1-2017, read: of a pipe, n not 0.
  unfoldable pub read_pipe : Core A K → K.Pipe → Pipe → ℕ → Trial A K
  read_pipe s p pipe n = read_row s p pipe (read_case n (front pipe) (nat_lt 0 (writers s p)))

  -- POSIX.1-2017, read: of a regular file, from the offset on, which advances.
  unfoldable pub read_file : Core A K → K.Description → Description K → List ℕ → ℕ → Trial A K
  read_file s d description file n =
      let got = take n (drop description.offset file) in
      Done (moved_to s d description (description.offset + length got)) still (Bytes got)

  -- t bytes were taken before
  abbrev pub write_row : Core A K → K.Pipe → List ℕ → ℕ → WriteCase → Trial A K
  write_row s p bytes t WriteCase.Broken = Done s still (Fault EPIPE)
  write_row s p bytes t WriteCase.CutShort = Done s still (Count t true)
  write_row s p bytes t (WriteCase.Ends from to) = Done s (gains p (slice_range bytes from to)) (count to)
  write_row s p bytes t (WriteCase.Waits from to) = Wait s (gains p (slice_range bytes from to)) to

  -- POSIX.1-2017, write: to a pipe, the bytes not none.
  unfoldable pub write_pipe : Core A K → K.Pipe → Pipe → List ℕ → ℕ → Bool → Trial A K
  write_pipe s p pipe bytes t may_wait = write_row s p bytes t (write_case (length bytes) t (room pipe) (nat_lt 0 (readers s p)) may_wait)

  -- POSIX.1-2017, write: to a regular file, as many bytes as the limit of its length leaves room for; `EFBIG` where it
  -- leaves none.
  unfoldable pub write_file : Core A K → K.Description → Description K → K.File → List ℕ → Trial A K
  write_file s d description f bytes =
      let file = file_at s f in
      let start = start_of description file in
      let written = take (s.limits.file_max - start) bytes in
      if nat_le s.limits.file_max start then Done s still (Fault EFBIG)
      else Done (moved_to (set_file s f (put_bytes file start written)) d description (start + length written)) still (count (length written))

  abbrev pub read_node : Core A K → K.Description → Description K → Node K → ℕ → Trial A K
  read_node s d description (PipeNode p) n = read_pipe s p (pipe_at s p) n
  read_node s d description (FileNode f) n = read_file s d description (file_at s f) n

  abbrev pub write_node : Core A K → K.Description → Description K → Node K → List ℕ → ℕ → Bool → Trial A K
  write_node s d description (PipeNode p) bytes t may_wait = write_pipe s p (pipe_at s p) bytes t may_wait
  write_node s d description (FileNode f) bytes t may_wait = write_file s d description f bytes
