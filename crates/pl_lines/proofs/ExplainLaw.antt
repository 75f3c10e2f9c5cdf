-- A line is explained exactly if it is bad: what each form says, and the kinds of its words.
use Rattle.std.proofs.Common.{◌≡◌, ℕ, ◌^◌, Bool, true, false, ◌&&◌, cond, List, [], ◌∷◌, Option, Some, None, refl, sym, ap, ◌∙◌}
use Rattle.std.specs.Prelude.{ℤ, is_some, codes}
use Rattle.std.specs.Option.{is_none}
use Rattle.std.specs.Str.{bytes_eq}
use Rattle.pl_model.specs.declared.calls.Call.{Call}
use Rattle.pl_model.specs.declared.calls.Call.TheVariants.{Pipe, Mkfifo, OpenName, Read, Write, Splice, Tee, Poll, Dup, Dup2, DupFd, Close, Lseek, GetFl, SetFl, GetPipeSz, SetPipeSz, Unlink}
use Rattle.pl_model.specs.declared.calls.Step.TheVariants.{Begin, Resume, Interrupt}
use Rattle.pl_model.specs.declared.calls.Mode.{Mode}
use Rattle.pl_model.specs.declared.flags.SpliceFlags.{SpliceFlags}
use Rattle.pl_model.specs.declared.script.Line.{Line}
use Rattle.pl_model.specs.declared.script.Line.TheVariants.{Do, File}
use Rattle.pl_model.specs.declared.script.Version.{Version}
use Rattle.pl_model.specs.declared.script.Version.TheVariants.{One, Two}
use Rattle.pl_model.specs.Flags.{has, nonblock, direct}
use Rattle.pl_model.specs.Words.{◌>>=◌, words, without_return, number, signed, signed_long, bytes_of, name_of, mode_of, whence_of, flags_if_any, flags_of, open_flag, pipe_flag, splice_flag, as_open_flags, as_splice_flags, flags_or_none, offset_of, entry_of, entries_of, wait_of}
use Rattle.pl_model.specs.Lines.{is_comment, len_and_flags, pipe_of, mkfifo_of, open_name_of, read_of, write_of, splice_of, tee_of, poll_of, dup_of, dup2_of, dup_fd_of, close_of, lseek_of, get_fl_of, set_fl_of, get_pipe_sz_of, set_pipe_sz_of, unlink_of, fork_of, exit_of, call_of, start_of, resume_of, interrupt_of, file_of, begin_of, words_line, line_of_words, line}
use Rattle.pl_words.specs.declared.reasons.Wanted.TheVariants as kind
use Rattle.pl_words.specs.declared.reasons.Reason.TheVariants.{Missing, Not}
use Rattle.pl_lines.specs.declared.kinds.Expected.{Expected}
use Rattle.pl_lines.specs.declared.kinds.Expected.TheVariants.{Needed, Optional, Repeated}
use Rattle.pl_lines.specs.Explained.{pipe_kinds, later_call_kinds, call_kinds, first_fault, call_fault, begin_fault, words_fault, explained}
use Rattle.pl_lines.proofs.Fitting.{fits, faultless, or_rest, no1, no2, no3, and_true, one, two, three, flag, named_faultless, Judges, judged, choose, Alike, alike}

-- one side of a splice
abbrev pair : Option ℤ → Option (Option ℕ) → Option (ℤ × Option ℕ)
pair fd offset = fd >>= λ f. offset >>= λ o. Some (f, o)

module _ (A : Type 0) (version : Version) where
  -- ---- calls with one word, or none

  mkfifo : (ws : List (List ℕ)) → is_some (mkfifo_of {A = A} ws) ≡ fits version (Needed kind.Name ∷ []) ws
  unfolding mkfifo_of
  mkfifo [] = refl
  mkfifo (name ∷ []) = one {Z = Call A} (name_of name) (λ n. Mkfifo n)
  mkfifo (name ∷ w ∷ ws) = no1 (is_some (name_of name))

  unlink : (ws : List (List ℕ)) → is_some (unlink_of {A = A} ws) ≡ fits version (Needed kind.Name ∷ []) ws
  unfolding unlink_of
  unlink [] = refl
  unlink (name ∷ []) = one {Z = Call A} (name_of name) (λ n. Unlink n)
  unlink (name ∷ w ∷ ws) = no1 (is_some (name_of name))

  dup : (ws : List (List ℕ)) → is_some (dup_of {A = A} ws) ≡ fits version (Needed kind.Descriptor ∷ []) ws
  unfolding dup_of
  dup [] = refl
  dup (fd ∷ []) = one {Z = Call A} (signed fd) (λ f. Dup f)
  dup (fd ∷ w ∷ ws) = no1 (is_some (signed fd))

  close : (ws : List (List ℕ)) → is_some (close_of {A = A} ws) ≡ fits version (Needed kind.Descriptor ∷ []) ws
  unfolding close_of
  close [] = refl
  close (fd ∷ []) = one {Z = Call A} (signed fd) (λ f. Close f)
  close (fd ∷ w ∷ ws) = no1 (is_some (signed fd))

  get_fl : (ws : List (List ℕ)) → is_some (get_fl_of {A = A} ws) ≡ fits version (Needed kind.Descriptor ∷ []) ws
  unfolding get_fl_of
  get_fl [] = refl
  get_fl (fd ∷ []) = one {Z = Call A} (signed fd) (λ f. GetFl f)
  get_fl (fd ∷ w ∷ ws) = no1 (is_some (signed fd))

  get_pipe_sz : (ws : List (List ℕ)) → is_some (get_pipe_sz_of {A = A} ws) ≡ fits version (Needed kind.Descriptor ∷ []) ws
  unfolding get_pipe_sz_of
  get_pipe_sz [] = refl
  get_pipe_sz (fd ∷ []) = one {Z = Call A} (signed fd) (λ f. GetPipeSz f)
  get_pipe_sz (fd ∷ w ∷ ws) = no1 (is_some (signed fd))

  fork : (ws : List (List ℕ)) → is_some (fork_of {A = A} ws) ≡ fits version [] ws
  unfolding fork_of
  fork [] = refl
  fork (w ∷ ws) = refl

  exit : (ws : List (List ℕ)) → is_some (exit_of {A = A} ws) ≡ fits version [] ws
  unfolding exit_of
  exit [] = refl
  exit (w ∷ ws) = refl

  -- ---- calls with two words and three

  read : (ws : List (List ℕ)) → is_some (read_of {A = A} ws) ≡ fits version (Needed kind.Descriptor ∷ Needed kind.Size ∷ []) ws
  unfolding read_of
  read [] = refl
  read (fd ∷ []) = no1 (is_some (signed fd))
  read (fd ∷ n ∷ []) = two {Z = Call A} (signed fd) (number (2 ^ 32) n) (λ f k. Read f k)
  read (fd ∷ n ∷ w ∷ ws) = no2 (is_some (signed fd)) (is_some (number (2 ^ 32) n))

  write : (ws : List (List ℕ)) → is_some (write_of {A = A} version ws) ≡ fits version (Needed kind.Descriptor ∷ Needed kind.Bytes ∷ []) ws
  unfolding write_of
  write [] = refl
  write (fd ∷ []) = no1 (is_some (signed fd))
  write (fd ∷ bytes ∷ []) = two {Z = Call A} (signed fd) (bytes_of version bytes) (λ f b. Write f b)
  write (fd ∷ bytes ∷ w ∷ ws) = no2 (is_some (signed fd)) (is_some (bytes_of version bytes))

  dup2 : (ws : List (List ℕ)) → is_some (dup2_of {A = A} ws) ≡ fits version (Needed kind.Descriptor ∷ Needed kind.Descriptor ∷ []) ws
  unfolding dup2_of
  dup2 [] = refl
  dup2 (fd ∷ []) = no1 (is_some (signed fd))
  dup2 (fd ∷ target ∷ []) = two {Z = Call A} (signed fd) (signed target) (λ f t. Dup2 f t)
  dup2 (fd ∷ target ∷ w ∷ ws) = no2 (is_some (signed fd)) (is_some (signed target))

  dup_fd : (ws : List (List ℕ)) → is_some (dup_fd_of {A = A} ws) ≡ fits version (Needed kind.Descriptor ∷ Needed kind.Descriptor ∷ []) ws
  unfolding dup_fd_of
  dup_fd [] = refl
  dup_fd (fd ∷ []) = no1 (is_some (signed fd))
  dup_fd (fd ∷ least ∷ []) = two {Z = Call A} (signed fd) (signed least) (λ f n. DupFd f n)
  dup_fd (fd ∷ least ∷ w ∷ ws) = no2 (is_some (signed fd)) (is_some (signed least))

  set_fl : (ws : List (List ℕ)) → is_some (set_fl_of {A = A} ws) ≡ fits version (Needed kind.Descriptor ∷ Needed kind.StatusFlags ∷ []) ws
  unfolding set_fl_of
  set_fl [] = refl
  set_fl (fd ∷ []) = no1 (is_some (signed fd))
  set_fl (fd ∷ flags ∷ []) = two {Z = Call A} (signed fd) (flags_or_none flags) (λ f fs. SetFl f fs)
  set_fl (fd ∷ flags ∷ w ∷ ws) = no2 (is_some (signed fd)) (is_some (flags_or_none flags))

  set_pipe_sz : (ws : List (List ℕ)) → is_some (set_pipe_sz_of {A = A} ws) ≡ fits version (Needed kind.Descriptor ∷ Needed kind.Size ∷ []) ws
  unfolding set_pipe_sz_of
  set_pipe_sz [] = refl
  set_pipe_sz (fd ∷ []) = no1 (is_some (signed fd))
  set_pipe_sz (fd ∷ size ∷ []) = two {Z = Call A} (signed fd) (number (2 ^ 32) size) (λ f n. SetPipeSz f n)
  set_pipe_sz (fd ∷ size ∷ w ∷ ws) = no2 (is_some (signed fd)) (is_some (number (2 ^ 32) size))

  lseek : (ws : List (List ℕ)) → is_some (lseek_of {A = A} ws) ≡ fits version (Needed kind.Descriptor ∷ Needed kind.SeekOffset ∷ Needed kind.Whence ∷ []) ws
  unfolding lseek_of
  lseek [] = refl
  lseek (fd ∷ []) = no1 (is_some (signed fd))
  lseek (fd ∷ offset ∷ []) = no2 (is_some (signed fd)) (is_some (signed_long offset))
  lseek (fd ∷ offset ∷ whence ∷ []) = three {W = Call A} (signed fd) (signed_long offset) (whence_of whence) (λ f o w. Lseek f o w)
  lseek (fd ∷ offset ∷ whence ∷ w ∷ ws) = no3 (is_some (signed fd)) (is_some (signed_long offset)) (is_some (whence_of whence))

  -- ---- calls with flags that may be left out

  -- the name comes last in the definition
  opens : (name : Option (List ℕ)) (mode : Option Mode) (flags : Option ℕ)
      → is_some {T = Call A} (mode >>= λ m. (flags >>= λ bits. Some (as_open_flags bits)) >>= λ fs. name >>= λ n. Some (OpenName n m fs))
      ≡ (is_some name && (is_some mode && (is_some flags && true)))
  opens None None flags = refl
  opens None (Some m) None = refl
  opens None (Some m) (Some bits) = refl
  opens (Some n) None flags = refl
  opens (Some n) (Some m) None = refl
  opens (Some n) (Some m) (Some bits) = refl

  opens_plain : (name : Option (List ℕ)) (mode : Option Mode) → is_some {T = Call A} (mode >>= λ m. name >>= λ n. Some (OpenName n m (as_open_flags 0))) ≡ (is_some name && (is_some mode && true))
  opens_plain None None = refl
  opens_plain None (Some m) = refl
  opens_plain (Some n) None = refl
  opens_plain (Some n) (Some m) = refl

  too_many_to_open : (name : Bool) (mode : Option Mode) (flags : Bool) → is_some {T = Call A} (mode >>= λ m. None) ≡ (name && (is_some mode && (flags && false)))
  too_many_to_open name None flags = no1 name
  too_many_to_open name (Some m) flags = no2 name flags

  open_name : (ws : List (List ℕ)) → is_some (open_name_of {A = A} ws) ≡ fits version (Needed kind.Name ∷ Needed kind.Mode ∷ Optional kind.OpenFlags ∷ []) ws
  unfolding open_name_of flags_if_any
  open_name [] = refl
  open_name (name ∷ []) = no1 (is_some (name_of name))
  open_name (name ∷ mode ∷ []) = opens_plain (name_of name) (mode_of mode)
  open_name (name ∷ mode ∷ flags ∷ []) = opens (name_of name) (mode_of mode) (flags_of open_flag flags)
  open_name (name ∷ mode ∷ flags ∷ w ∷ ws) = too_many_to_open (is_some (name_of name)) (mode_of mode) (is_some (flags_of open_flag flags))

  -- how many bytes go over, and the flags
  lens : (len : Option ℕ) (flags : Option ℕ) → is_some {T = ℕ × SpliceFlags} (len >>= λ n. (flags >>= λ bits. Some (as_splice_flags bits)) >>= λ fs. Some (n, fs)) ≡ (is_some len && (is_some flags && true))
  lens None flags = refl
  lens (Some n) None = refl
  lens (Some n) (Some bits) = refl

  too_many_lens : (len : Option ℕ) (flags : Bool) → is_some {T = ℕ × SpliceFlags} (len >>= λ n. None) ≡ (is_some len && (flags && false))
  too_many_lens None flags = refl
  too_many_lens (Some n) flags = no1 flags

  len_flags : (ws : List (List ℕ)) → is_some (len_and_flags ws) ≡ fits version (Needed kind.Size ∷ Optional kind.SpliceFlags ∷ []) ws
  unfolding len_and_flags flags_if_any
  len_flags [] = refl
  len_flags (len ∷ []) = one {Z = ℕ × SpliceFlags} (number (2 ^ 32) len) (λ n. (n, as_splice_flags 0))
  len_flags (len ∷ flags ∷ []) = lens (number (2 ^ 32) len) (flags_of splice_flag flags)
  len_flags (len ∷ flags ∷ w ∷ ws) = too_many_lens (number (2 ^ 32) len) (is_some (flags_of splice_flag flags))

  tees : (from to : Option ℤ) (rest : Option (ℕ × SpliceFlags)) → is_some {T = Call A} (from >>= λ f. to >>= λ t. rest >>= λ n. Some (Tee f t n.0 n.1)) ≡ (is_some from && (is_some to && is_some rest))
  tees None to rest = refl
  tees (Some f) None rest = refl
  tees (Some f) (Some t) None = refl
  tees (Some f) (Some t) (Some n) = refl

  tee : (ws : List (List ℕ)) → is_some (tee_of {A = A} ws) ≡ fits version (Needed kind.Descriptor ∷ Needed kind.Descriptor ∷ Needed kind.Size ∷ Optional kind.SpliceFlags ∷ []) ws
  unfolding tee_of
  tee [] = refl
  tee (from ∷ []) = no1 (is_some (signed from))
  tee (from ∷ to ∷ rest) = tees (signed from) (signed to) (len_and_flags rest) ∙ ap (λ b. is_some (signed from) && (is_some (signed to) && b)) (len_flags rest)

  splices : (from : Option ℤ) (from_offset : Option (Option ℕ)) (to : Option ℤ) (to_offset : Option (Option ℕ)) (rest : Option (ℕ × SpliceFlags))
      → is_some {T = Call A} (pair from from_offset >>= λ f. pair to to_offset >>= λ t. rest >>= λ n. Some (Splice f.0 f.1 t.0 t.1 n.0 n.1))
      ≡ (is_some from && (is_some from_offset && (is_some to && (is_some to_offset && is_some rest))))
  splices None from_offset to to_offset rest = refl
  splices (Some f) None to to_offset rest = refl
  splices (Some f) (Some o) None to_offset rest = refl
  splices (Some f) (Some o) (Some t) None rest = refl
  splices (Some f) (Some o) (Some t) (Some p) None = refl
  splices (Some f) (Some o) (Some t) (Some p) (Some n) = refl

  splice : (ws : List (List ℕ)) → is_some (splice_of {A = A} ws)
      ≡ fits version (Needed kind.Descriptor ∷ Needed kind.Offset ∷ Needed kind.Descriptor ∷ Needed kind.Offset ∷ Needed kind.Size ∷ Optional kind.SpliceFlags ∷ []) ws
  unfolding splice_of
  splice [] = refl
  splice (from ∷ []) = no1 (is_some (signed from))
  splice (from ∷ from_offset ∷ []) = no2 (is_some (signed from)) (is_some (offset_of from_offset))
  splice (from ∷ from_offset ∷ to ∷ []) = no3 (is_some (signed from)) (is_some (offset_of from_offset)) (is_some (signed to))
  splice (from ∷ from_offset ∷ to ∷ to_offset ∷ rest) =
      splices (signed from) (offset_of from_offset) (signed to) (offset_of to_offset) (len_and_flags rest)
      ∙ ap (λ b. is_some (signed from) && (is_some (offset_of from_offset) && (is_some (signed to) && (is_some (offset_of to_offset) && b)))) (len_flags rest)

  -- ---- polls

  entries : (ws : List (List ℕ)) → is_some (entries_of ws) ≡ fits version (Repeated kind.Entry ∷ []) ws
  unfolding entries_of
  entries [] = refl
  entries (word ∷ ws) = both (entry_of word) (entries_of ws) ∙ ap (λ b. is_some (entry_of word) && b) (entries ws)
    where
      both : {X : Type 0} (x : Option X) (xs : Option (List X)) → is_some (x >>= λ e. xs >>= λ es. Some (e ∷ es)) ≡ (is_some x && is_some xs)
      both None xs = refl
      both (Some e) None = refl
      both (Some e) (Some es) = refl

  poll : (ws : List (List ℕ)) → is_some (poll_of {A = A} ws) ≡ fits version (Needed kind.When ∷ Repeated kind.Entry ∷ []) ws
  unfolding poll_of
  poll [] = refl
  poll (when ∷ rest) = two {Z = Call A} (wait_of when) (entries_of rest) (λ w es. Poll es w) ∙ ap (λ b. is_some (wait_of when) && b) (and_true (is_some (entries_of rest)) ∙ entries rest)

-- ---- pipes

plain_pipe : (A : Type 0) (ws : List (List ℕ)) → is_some (pipe_of {A = A} One ws) ≡ fits One (Optional kind.Nonblock ∷ []) ws
unfolding pipe_of
plain_pipe A [] = refl
plain_pipe A (word ∷ []) = flag {Z = Call A} (bytes_eq word (codes "nonblock")) (Pipe true false)
plain_pipe A (word ∷ w ∷ ws) = no1 (bytes_eq word (codes "nonblock"))

pipe_with_flags : (A : Type 0) (ws : List (List ℕ)) → is_some (pipe_of {A = A} Two ws) ≡ fits Two (Optional kind.PipeFlags ∷ []) ws
unfolding pipe_of flags_if_any
pipe_with_flags A [] = refl
pipe_with_flags A (word ∷ []) = made (flags_of pipe_flag word)
  where
    made : (flags : Option ℕ) → is_some {T = Call A} ((flags >>= λ bits. Some (as_open_flags bits)) >>= λ fs. Some (Pipe (has fs.0 nonblock) (has fs.0 direct))) ≡ (is_some flags && true)
    made None = refl
    made (Some bits) = refl
pipe_with_flags A (word ∷ w ∷ ws) = no1 (is_some (flags_of pipe_flag word))

pipe : (A : Type 0) (version : Version) (ws : List (List ℕ)) → is_some (pipe_of {A = A} version ws) ≡ fits version (pipe_kinds version) ws
pipe A One ws = plain_pipe A ws
pipe A Two ws = pipe_with_flags A ws

-- ---- all calls

module _ (A : Type 0) (version : Version) where
  nothing : (ws : List (List ℕ)) → Judges {X = Call A} version ws None None
  nothing ws = record { same = refl }

  by : (ws : List (List ℕ)) (said : Option (Call A)) (expected : List Expected) → is_some said ≡ fits version expected ws → Judges version ws said (Some expected)
  by ws said expected same = judged version ws said expected same

  calls : (name : List ℕ) (ws : List (List ℕ)) → Judges version ws (call_of {A = A} version name ws) (call_kinds version name)
  unfolding call_of call_kinds later_call_kinds
  calls name ws =
      choose (bytes_eq name (codes "pipe")) (by ws _ _ (pipe A version ws))
      (choose (bytes_eq name (codes "mkfifo")) (by ws _ _ (mkfifo A version ws))
      (choose (bytes_eq name (codes "open")) (by ws _ _ (open_name A version ws))
      (choose (bytes_eq name (codes "read")) (by ws _ _ (read A version ws))
      (choose (bytes_eq name (codes "write")) (by ws _ _ (write A version ws))
      (choose (bytes_eq name (codes "splice")) (by ws _ _ (splice A version ws))
      (choose (bytes_eq name (codes "tee")) (by ws _ _ (tee A version ws))
      (choose (bytes_eq name (codes "poll")) (by ws _ _ (poll A version ws))
      (choose (bytes_eq name (codes "dup")) (by ws _ _ (dup A version ws))
      (choose (bytes_eq name (codes "dup2")) (by ws _ _ (dup2 A version ws))
      (choose (bytes_eq name (codes "dupfd")) (by ws _ _ (dup_fd A version ws))
      (choose (bytes_eq name (codes "close")) (by ws _ _ (close A version ws))
      (choose (bytes_eq name (codes "lseek")) (by ws _ _ (lseek A version ws))
      (choose (bytes_eq name (codes "getfl")) (by ws _ _ (get_fl A version ws))
      (choose (bytes_eq name (codes "setfl")) (by ws _ _ (set_fl A version ws))
      (choose (bytes_eq name (codes "getsz")) (by ws _ _ (get_pipe_sz A version ws))
      (choose (bytes_eq name (codes "setsz")) (by ws _ _ (set_pipe_sz A version ws))
      (choose (bytes_eq name (codes "unlink")) (by ws _ _ (unlink A version ws))
      (choose (bytes_eq name (codes "fork")) (by ws _ _ (fork A version ws))
      (choose (bytes_eq name (codes "exit")) (by ws _ _ (exit A version ws)) (nothing ws))))))))))))))))))))

  -- ---- lines

  begins : (pid : List ℕ) (ws : List (List ℕ)) → is_none (begin_fault version pid ws) ≡ is_some (begin_of {A = A} version pid ws)
  unfolding begin_of
  begins pid [] = or_rest (is_some (number (2 ^ 32) pid)) (record { word = 1; reason = Not kind.First }) (Some (record { word = 2; reason = Missing kind.CallName })) ∙ sym (no1 (is_some (number (2 ^ 32) pid)))
  begins pid (name ∷ ws) =
      or_rest (is_some (number (2 ^ 32) pid)) (record { word = 1; reason = Not kind.First }) (call_fault version (name ∷ ws))
      ∙ ap (λ b. is_some (number (2 ^ 32) pid) && b) (named_faultless version (call_kinds version name) ws ∙ sym (calls name ws).same ∙ sym (and_true (is_some (call_of {A = A} version name ws))))
      ∙ sym (two {Z = Line A} (number (2 ^ 32) pid) (call_of {A = A} version name ws) (λ p c. Do (Begin p c)))

  starts : (ws : List (List ℕ)) → is_some (start_of {A = A} ws) ≡ fits version [] ws
  unfolding start_of
  starts [] = refl
  starts (w ∷ ws) = refl

  resumes : (ws : List (List ℕ)) → is_some (resume_of {A = A} ws) ≡ fits version (Needed kind.CallNumber ∷ []) ws
  unfolding resume_of
  resumes [] = refl
  resumes (c ∷ []) = one {Z = Line A} (number (2 ^ 64) c) (λ n. Do (Resume n))
  resumes (c ∷ w ∷ ws) = no1 (is_some (number (2 ^ 64) c))

  interrupts : (ws : List (List ℕ)) → is_some (interrupt_of {A = A} ws) ≡ fits version (Needed kind.CallNumber ∷ []) ws
  unfolding interrupt_of
  interrupts [] = refl
  interrupts (c ∷ []) = one {Z = Line A} (number (2 ^ 64) c) (λ n. Do (Interrupt n))
  interrupts (c ∷ w ∷ ws) = no1 (is_some (number (2 ^ 64) c))

  files : (ws : List (List ℕ)) → is_some (file_of {A = A} ws) ≡ fits version (Needed kind.Name ∷ []) ws
  unfolding file_of
  files [] = refl
  files (name ∷ []) = one {Z = Line A} (name_of name) (λ n. File n)
  files (name ∷ w ∷ ws) = no1 (is_some (name_of name))

  -- the words behind the first of another line
  other : (expected : List Expected) (ws : List (List ℕ)) (said : Option (Line A)) → is_some said ≡ fits version expected ws → Alike (first_fault version 2 expected ws) said
  other expected ws said same = record { same = faultless version ws 2 expected ∙ sym same }

  begun : (pid : List ℕ) (ws : List (List ℕ)) → Alike (begin_fault version pid ws) (begin_of {A = A} version pid ws)
  begun pid ws = record { same = begins pid ws }

  by_first : (word : List ℕ) (ws : List (List ℕ)) → Alike (words_fault version word ws) (words_line {A = A} version word ws)
  unfolding words_fault words_line
  by_first word ws =
      alike (bytes_eq word (codes "start")) (other [] ws _ (starts ws))
      (alike (bytes_eq word (codes "resume")) (other (Needed kind.CallNumber ∷ []) ws _ (resumes ws))
      (alike (bytes_eq word (codes "interrupt")) (other (Needed kind.CallNumber ∷ []) ws _ (interrupts ws))
      (alike (bytes_eq word (codes "file")) (other (Needed kind.Name ∷ []) ws _ (files ws)) (begun word ws))))

  asks : (said : Option (Line A)) → is_some (said >>= λ asked. Some (Some asked)) ≡ is_some said
  asks None = refl
  asks (Some asked) = refl

  by_words : (ws : List (List ℕ)) → is_none (explained version ws) ≡ is_some (line_of_words {A = A} version ws)
  unfolding explained line_of_words
  by_words [] = refl
  by_words (word ∷ ws) = comment (is_comment word)
    where
      comment : (b : Bool) → is_none (cond b None (words_fault version word ws)) ≡ is_some (cond b (Some None) (words_line {A = A} version word ws >>= λ asked. Some (Some asked)))
      comment true = refl
      comment false = (by_first word ws).same ∙ sym (asks (words_line {A = A} version word ws))

pub explains : (A : Type 0) (version : Version) (bytes : List ℕ) → is_none (explained version (words (without_return bytes))) ≡ is_some (line {A = A} version bytes)
unfolding line
explains A version bytes = by_words A version (words (without_return bytes))
