-- What a line of a script asks (our own): one pattern for each line, over its words. The versions differ at `pipe` and `write`.
use Rattle.std.specs.Prelude.{ℕ, ◌^◌, ℤ, List, [], ◌∷◌, Bool, true, false, ◌==◌, if◌then◌else◌, Option, Some, None, codes}
use Rattle.std.specs.Str.{bytes_eq}
use Rattle.pl_model.specs.declared.calls.Call.{Call}
use Rattle.pl_model.specs.declared.calls.Call.TheVariants.{Pipe, Mkfifo, OpenName, Read, Write, Splice, Tee, Poll, Dup, Dup2, DupFd, Close, Lseek, GetFl, SetFl, GetPipeSz, SetPipeSz, Unlink, Fork, Exit}
use Rattle.pl_model.specs.declared.calls.Step.TheVariants.{Start, Begin, Resume, Interrupt}
use Rattle.pl_model.specs.declared.flags.SpliceFlags.{SpliceFlags}
use Rattle.pl_model.specs.declared.script.Line.{Line}
use Rattle.pl_model.specs.declared.script.Line.TheVariants.{Do, File}
use Rattle.pl_model.specs.declared.script.Version.{Version}
use Rattle.pl_model.specs.declared.script.Version.TheVariants.{One, Two}
use Rattle.pl_model.specs.Flags.{has, nonblock, direct}
use Rattle.pl_model.specs.Words.{◌>>=◌, words, without_return, number, signed, signed_long, bytes_of, name_of, mode_of, whence_of, open_flags_if_any, pipe_flags_if_any, splice_flags_if_any, flags_or_none, offset_of, entries_of, wait_of}

abbrev pub is_comment : List ℕ → Bool
is_comment [] = false
is_comment (c ∷ cs) = c == 35

-- `FD OFF`, one side of a splice
abbrev pub side_of : List ℕ → List ℕ → Option (ℤ × Option ℕ)
side_of fd offset = do
  f ← signed fd
  o ← offset_of offset
  Some (f, o)

-- `LEN [FLAGS]`
unfoldable pub len_and_flags : List (List ℕ) → Option (ℕ × SpliceFlags)
len_and_flags (len ∷ flags) = do
  n ← number (2 ^ 32) len
  fs ← splice_flags_if_any flags
  Some (n, fs)
len_and_flags [] = None

module _ {A : Type 0} where
  -- `P pipe [nonblock]`, and in version 2 `P pipe [FLAGS]`
  unfoldable pub pipe_of : Version → List (List ℕ) → Option (Call A)
  pipe_of One [] = Some (Pipe false false)
  pipe_of One (flag ∷ []) = if bytes_eq flag (codes "nonblock") then Some (Pipe true false) else None
  pipe_of One _ = None
  pipe_of Two flags = pipe_flags_if_any flags >>= λ fs. Some (Pipe (has fs.0 nonblock) (has fs.0 direct))

  -- `P mkfifo NAME`
  unfoldable pub mkfifo_of : List (List ℕ) → Option (Call A)
  mkfifo_of (name ∷ []) = name_of name >>= λ n. Some (Mkfifo n)
  mkfifo_of _ = None

  -- `P open NAME MODE [FLAGS]`
  unfoldable pub open_name_of : List (List ℕ) → Option (Call A)
  open_name_of (name ∷ mode ∷ flags) = do
    m ← mode_of mode
    fs ← open_flags_if_any flags
    n ← name_of name
    Some (OpenName n m fs)
  open_name_of _ = None

  -- `P read FD N`
  unfoldable pub read_of : List (List ℕ) → Option (Call A)
  read_of (fd ∷ n ∷ []) = do
    f ← signed fd
    k ← number (2 ^ 32) n
    Some (Read f k)
  read_of _ = None

  -- `P write FD BYTES`
  unfoldable pub write_of : Version → List (List ℕ) → Option (Call A)
  write_of version (fd ∷ bytes ∷ []) = do
    f ← signed fd
    b ← bytes_of version bytes
    Some (Write f b)
  write_of version _ = None

  -- `P splice FD OFF FD OFF LEN [FLAGS]`
  unfoldable pub splice_of : List (List ℕ) → Option (Call A)
  splice_of (from ∷ from_offset ∷ to ∷ to_offset ∷ rest) = do
    f ← side_of from from_offset
    t ← side_of to to_offset
    n ← len_and_flags rest
    Some (Splice f.0 f.1 t.0 t.1 n.0 n.1)
  splice_of _ = None

  -- `P tee FD FD LEN [FLAGS]`
  unfoldable pub tee_of : List (List ℕ) → Option (Call A)
  tee_of (from ∷ to ∷ rest) = do
    f ← signed from
    t ← signed to
    n ← len_and_flags rest
    Some (Tee f t n.0 n.1)
  tee_of _ = None

  -- `P poll now ENTRY ..` and `P poll wait ENTRY ..`
  unfoldable pub poll_of : List (List ℕ) → Option (Call A)
  poll_of (when ∷ entries) = do
    w ← wait_of when
    es ← entries_of entries
    Some (Poll es w)
  poll_of [] = None

  -- `P dup FD`
  unfoldable pub dup_of : List (List ℕ) → Option (Call A)
  dup_of (fd ∷ []) = signed fd >>= λ f. Some (Dup f)
  dup_of _ = None

  -- `P dup2 FD FD`
  unfoldable pub dup2_of : List (List ℕ) → Option (Call A)
  dup2_of (fd ∷ target ∷ []) = do
    f ← signed fd
    t ← signed target
    Some (Dup2 f t)
  dup2_of _ = None

  -- `P dupfd FD N`
  unfoldable pub dup_fd_of : List (List ℕ) → Option (Call A)
  dup_fd_of (fd ∷ least ∷ []) = do
    f ← signed fd
    n ← signed least
    Some (DupFd f n)
  dup_fd_of _ = None

  -- `P close FD`
  unfoldable pub close_of : List (List ℕ) → Option (Call A)
  close_of (fd ∷ []) = signed fd >>= λ f. Some (Close f)
  close_of _ = None

  -- `P lseek FD OFFSET WHENCE`
  unfoldable pub lseek_of : List (List ℕ) → Option (Call A)
  lseek_of (fd ∷ offset ∷ whence ∷ []) = do
    f ← signed fd
    o ← signed_long offset
    w ← whence_of whence
    Some (Lseek f o w)
  lseek_of _ = None

  -- `P getfl FD`
  unfoldable pub get_fl_of : List (List ℕ) → Option (Call A)
  get_fl_of (fd ∷ []) = signed fd >>= λ f. Some (GetFl f)
  get_fl_of _ = None

  -- `P setfl FD FLAGS`
  unfoldable pub set_fl_of : List (List ℕ) → Option (Call A)
  set_fl_of (fd ∷ flags ∷ []) = do
    f ← signed fd
    fs ← flags_or_none flags
    Some (SetFl f fs)
  set_fl_of _ = None

  -- `P getsz FD`
  unfoldable pub get_pipe_sz_of : List (List ℕ) → Option (Call A)
  get_pipe_sz_of (fd ∷ []) = signed fd >>= λ f. Some (GetPipeSz f)
  get_pipe_sz_of _ = None

  -- `P setsz FD N`
  unfoldable pub set_pipe_sz_of : List (List ℕ) → Option (Call A)
  set_pipe_sz_of (fd ∷ size ∷ []) = do
    f ← signed fd
    n ← number (2 ^ 32) size
    Some (SetPipeSz f n)
  set_pipe_sz_of _ = None

  -- `P unlink NAME`
  unfoldable pub unlink_of : List (List ℕ) → Option (Call A)
  unlink_of (name ∷ []) = name_of name >>= λ n. Some (Unlink n)
  unlink_of _ = None

  -- `P fork`
  unfoldable pub fork_of : List (List ℕ) → Option (Call A)
  fork_of [] = Some Fork
  fork_of _ = None

  -- `P exit`
  unfoldable pub exit_of : List (List ℕ) → Option (Call A)
  exit_of [] = Some Exit
  exit_of _ = None

  -- the name of a call, and the words after it
  unfoldable pub call_of : Version → List ℕ → List (List ℕ) → Option (Call A)
  call_of version name rest =
      if bytes_eq name (codes "pipe") then pipe_of version rest
      else if bytes_eq name (codes "mkfifo") then mkfifo_of rest
      else if bytes_eq name (codes "open") then open_name_of rest
      else if bytes_eq name (codes "read") then read_of rest
      else if bytes_eq name (codes "write") then write_of version rest
      else if bytes_eq name (codes "splice") then splice_of rest
      else if bytes_eq name (codes "tee") then tee_of rest
      else if bytes_eq name (codes "poll") then poll_of rest
      else if bytes_eq name (codes "dup") then dup_of rest
      else if bytes_eq name (codes "dup2") then dup2_of rest
      else if bytes_eq name (codes "dupfd") then dup_fd_of rest
      else if bytes_eq name (codes "close") then close_of rest
      else if bytes_eq name (codes "lseek") then lseek_of rest
      else if bytes_eq name (codes "getfl") then get_fl_of rest
      else if bytes_eq name (codes "setfl") then set_fl_of rest
      else if bytes_eq name (codes "getsz") then get_pipe_sz_of rest
      else if bytes_eq name (codes "setsz") then set_pipe_sz_of rest
      else if bytes_eq name (codes "unlink") then unlink_of rest
      else if bytes_eq name (codes "fork") then fork_of rest
      else if bytes_eq name (codes "exit") then exit_of rest
      else None

  -- `start`
  unfoldable pub start_of : List (List ℕ) → Option (Line A)
  start_of [] = Some (Do Start)
  start_of _ = None

  -- `resume C`
  unfoldable pub resume_of : List (List ℕ) → Option (Line A)
  resume_of (c ∷ []) = number (2 ^ 64) c >>= λ n. Some (Do (Resume n))
  resume_of _ = None

  -- `interrupt C`
  unfoldable pub interrupt_of : List (List ℕ) → Option (Line A)
  interrupt_of (c ∷ []) = number (2 ^ 64) c >>= λ n. Some (Do (Interrupt n))
  interrupt_of _ = None

  -- `file NAME`
  unfoldable pub file_of : List (List ℕ) → Option (Line A)
  file_of (name ∷ []) = name_of name >>= λ n. Some (File n)
  file_of _ = None

  -- `P CALL ..`, the process of pid P begins a call
  unfoldable pub begin_of : Version → List ℕ → List (List ℕ) → Option (Line A)
  begin_of version pid (name ∷ rest) = do
    p ← number (2 ^ 32) pid
    c ← call_of version name rest
    Some (Do (Begin p c))
  begin_of version pid [] = None

  -- the first word of a line, and the words after it
  unfoldable pub words_line : Version → List ℕ → List (List ℕ) → Option (Line A)
  words_line version word rest =
      if bytes_eq word (codes "start") then start_of rest
      else if bytes_eq word (codes "resume") then resume_of rest
      else if bytes_eq word (codes "interrupt") then interrupt_of rest
      else if bytes_eq word (codes "file") then file_of rest
      else begin_of version word rest

  -- a line without words, and a comment, ask nothing
  unfoldable pub line_of_words : Version → List (List ℕ) → Option (Option (Line A))
  line_of_words version [] = Some None
  line_of_words version (word ∷ rest) = if is_comment word then Some None else (words_line version word rest >>= λ asked. Some (Some asked))

  -- What a line asks: `None` is a bad line, `Some None` one that asks nothing.
  unfoldable pub line : Version → List ℕ → Option (Option (Line A))
  line version bytes = line_of_words version (words (without_return bytes))
