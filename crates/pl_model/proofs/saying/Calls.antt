-- The words of each call, read again.
use Rattle.std.proofs.Common.{◌≡◌, ℕ, ◌^◌, ◌<◌, ◌≤◌, Bool, true, List, [], ◌∷◌, length, refl, arith, w32, w64, SFits}
use Rattle.std.specs.Prelude.{ℤ, Option, Some, IfSome, codes}
use Rattle.std.specs.List.{All, list_all}
use Rattle.std.specs.Fmt.{decimal, signed_decimal}
use Rattle.pl_model.specs.declared.calls.Call.{Call}
use Rattle.pl_model.specs.declared.calls.Call.TheVariants.{Pipe, Mkfifo, OpenName, Read, Write, Splice, Tee, Poll, Dup, Dup2, DupFd, Close, Lseek, GetFl, SetFl, GetPipeSz, SetPipeSz, Unlink, Fork, Exit}
use Rattle.pl_model.specs.declared.calls.Mode.{Mode}
use Rattle.pl_model.specs.declared.calls.Whence.{Whence}
use Rattle.pl_model.specs.declared.flags.OpenFlags.{OpenFlags}
use Rattle.pl_model.specs.declared.flags.SpliceFlags.{SpliceFlags}
use Rattle.pl_model.specs.declared.flags.PollMask.{PollMask}
use Rattle.pl_model.specs.declared.script.Version.TheVariants.{Two}
use Rattle.pl_model.specs.Numbers.{most_bytes}
use Rattle.pl_model.specs.Flags.{open_names, splice_names}
use Rattle.pl_model.specs.Words.{◌>>=◌, number, splice_flags_if_any}
use Rattle.pl_model.specs.Lines.{side_of, len_and_flags, mkfifo_of, open_name_of, read_of, write_of, splice_of, tee_of, poll_of, dup_of, dup2_of, dup_fd_of, close_of, lseek_of, get_fl_of, set_fl_of, get_pipe_sz_of, set_pipe_sz_of, unlink_of, fork_of, exit_of, call_of}
use Rattle.pl_model.specs.Said.{IsByte, said_offset, said_flags, are_named, call_words, is_call_sayable, CallFits}
use Rattle.pl_model.proofs.saying.Joined.{IsWord, AreWords}
use Rattle.pl_model.proofs.saying.Numerals.{number_of_decimal, decimal_word, signed_of_decimal, signed_long_of_decimal, signed_word, wider}
use Rattle.pl_model.proofs.saying.Seams.{word_by}
use Rattle.pl_model.proofs.saying.Pieces.{bytes_back, bytes_word}
use Rattle.pl_model.proofs.saying.Names.{name_back, name_word}
use Rattle.pl_model.proofs.saying.Flags.{open_back, open_words, splice_back, splice_words, set_fl_back, set_fl_word, pipe_back, pipe_words}
use Rattle.pl_model.proofs.saying.Entries.{Fits, is_named, mode_back, mode_word, whence_back, whence_word, wait_back, wait_word, offset_back, offset_word, entries_back, entries_words}

fd_word : (fd : ℤ) → SFits w32 fd → IsWord (signed_decimal fd)
fd_word fd fits = signed_word fd (wider fd fits)

size_back : (n : ℕ) → n < 2 ^ 32 → number (2 ^ 32) (decimal n) ≡ Some n
size_back n lt = number_of_decimal (2 ^ 32) n lt (omega arith)

size_word : (n : ℕ) → n < 2 ^ 32 → IsWord (decimal n)
size_word n lt = decimal_word n (omega arith)

side_back : (fd : ℤ) (offset : Option ℕ) → SFits w32 fd → IfSome offset (λ n. n < 2 ^ 64) → side_of (signed_decimal fd) (said_offset offset) ≡ Some (fd, offset)
side_back fd offset fits fits_too = rw (signed_of_decimal fd fits, offset_back offset fits_too) refl

abbrev pair : ℕ → SpliceFlags → Option (ℕ × SpliceFlags)
pair n f = Some (n, f)

len_back : (len : ℕ) (flags : SpliceFlags) → len < 2 ^ 32 → are_named splice_names flags.0 ≡ true → len_and_flags (decimal len ∷ said_flags flags.0 splice_names) ≡ Some (len, flags)
unfolding len_and_flags
len_back len flags lt named = says (number (2 ^ 32) (decimal len)) (splice_flags_if_any (said_flags flags.0 splice_names)) (size_back len lt) (splice_back flags named)
  where
    says : (o : Option ℕ) (fs : Option SpliceFlags) → o ≡ Some len → fs ≡ Some flags → (o >>= λ n. fs >>= pair n) ≡ Some (len, flags)
    says o fs p q = rw (p, q) refl

-- these words say the call
abbrev pub Says : {A : Type 0} → List (List ℕ) → Call A → Type 0
Says [] call = ⊥
Says (name ∷ rest) call = call_of Two name rest ≡ Some call

module _ (A : Type 0) where
  abbrev Back : Call A → Type 0
  Back call = Says {A = A} (call_words call) call

  -- ---- of names

  mkfifo_back : (name : List ℕ) → All IsByte name → Back (Mkfifo name)
  unfolding call_words call_of mkfifo_of
  mkfifo_back name fits = rw (name_back name fits) refl

  unlink_back : (name : List ℕ) → All IsByte name → Back (Unlink name)
  unfolding call_words call_of unlink_of
  unlink_back name fits = rw (name_back name fits) refl

  open_name_back : (name : List ℕ) (mode : Mode) (flags : OpenFlags) → All IsByte name → are_named open_names flags.0 ≡ true → Back (OpenName name mode flags)
  unfolding call_words call_of open_name_of
  open_name_back name mode flags fits named = rw (mode_back mode, open_back flags named, name_back name fits) refl

  -- ---- of bytes

  read_back : (fd : ℤ) (n : ℕ) → SFits w32 fd → n < 2 ^ 32 → Back (Read fd n)
  unfolding call_words call_of read_of
  read_back fd n fits lt = rw (signed_of_decimal fd fits, size_back n lt) refl

  write_back : (fd : ℤ) (bytes : List ℕ) → SFits w32 fd → All IsByte bytes → length bytes ≤ most_bytes → Back (Write fd bytes)
  unfolding call_words call_of write_of
  write_back fd bytes fits all few = rw (signed_of_decimal fd fits, bytes_back bytes all few) refl

  lseek_back : (fd offset : ℤ) (whence : Whence) → SFits w32 fd → SFits w64 offset → Back (Lseek fd offset whence)
  unfolding call_words call_of lseek_of
  lseek_back fd offset whence fits fits_too = rw (signed_of_decimal fd fits, signed_long_of_decimal offset fits_too, whence_back whence) refl

  -- ---- from pipe to pipe

  made_back : (nonblock direct : Bool) → Back (Pipe nonblock direct)
  unfolding call_words call_of
  made_back nonblock direct = pipe_back nonblock direct

  splice_call_back : (from : ℤ) (from_offset : Option ℕ) (to : ℤ) (to_offset : Option ℕ) (len : ℕ) (flags : SpliceFlags)
      → SFits w32 from → IfSome from_offset (λ n. n < 2 ^ 64) → SFits w32 to → IfSome to_offset (λ n. n < 2 ^ 64) → len < 2 ^ 32 → are_named splice_names flags.0 ≡ true
      → Back (Splice from from_offset to to_offset len flags)
  unfolding call_words call_of splice_of
  splice_call_back from from_offset to to_offset len flags p q r s lt named =
      rw (side_back from from_offset p q, side_back to to_offset r s, len_back len flags lt named) refl

  tee_back : (from to : ℤ) (len : ℕ) (flags : SpliceFlags) → SFits w32 from → SFits w32 to → len < 2 ^ 32 → are_named splice_names flags.0 ≡ true
      → Back (Tee from to len flags)
  unfolding call_words call_of tee_of
  tee_back from to len flags p q lt named = rw (signed_of_decimal from p, signed_of_decimal to q, len_back len flags lt named) refl

  poll_back : (entries : List (ℤ × PollMask)) (wait : Bool) → list_all is_named entries ≡ true → All Fits entries → Back (Poll entries wait)
  unfolding call_words call_of poll_of
  poll_back entries wait named fits = rw (wait_back wait, entries_back entries named fits) refl

  -- ---- of descriptors

  dup_back : (fd : ℤ) → SFits w32 fd → Back (Dup fd)
  unfolding call_words call_of dup_of
  dup_back fd fits = rw (signed_of_decimal fd fits) refl

  dup2_back : (fd target : ℤ) → SFits w32 fd → SFits w32 target → Back (Dup2 fd target)
  unfolding call_words call_of dup2_of
  dup2_back fd target p q = rw (signed_of_decimal fd p, signed_of_decimal target q) refl

  dup_fd_back : (fd least : ℤ) → SFits w32 fd → SFits w32 least → Back (DupFd fd least)
  unfolding call_words call_of dup_fd_of
  dup_fd_back fd least p q = rw (signed_of_decimal fd p, signed_of_decimal least q) refl

  close_back : (fd : ℤ) → SFits w32 fd → Back (Close fd)
  unfolding call_words call_of close_of
  close_back fd fits = rw (signed_of_decimal fd fits) refl

  get_fl_back : (fd : ℤ) → SFits w32 fd → Back (GetFl fd)
  unfolding call_words call_of get_fl_of
  get_fl_back fd fits = rw (signed_of_decimal fd fits) refl

  set_fl_call_back : (fd : ℤ) (flags : OpenFlags) → SFits w32 fd → are_named open_names flags.0 ≡ true → Back (SetFl fd flags)
  unfolding call_words call_of set_fl_of
  set_fl_call_back fd flags fits named = rw (signed_of_decimal fd fits, set_fl_back flags named) refl

  get_size_back : (fd : ℤ) → SFits w32 fd → Back (GetPipeSz fd)
  unfolding call_words call_of get_pipe_sz_of
  get_size_back fd fits = rw (signed_of_decimal fd fits) refl

  set_size_back : (fd : ℤ) (size : ℕ) → SFits w32 fd → size < 2 ^ 32 → Back (SetPipeSz fd size)
  unfolding call_words call_of set_pipe_sz_of
  set_size_back fd size fits lt = rw (signed_of_decimal fd fits, size_back size lt) refl

  -- ---- of processes

  fork_back : Back Fork
  unfolding call_words call_of fork_of
  fork_back = refl

  exit_back : Back Exit
  unfolding call_words call_of exit_of
  exit_back = refl

  pub call_back : (call : Call A) → is_call_sayable call ≡ true → CallFits call → Back call
  call_back (Pipe nonblock direct) named fits = made_back nonblock direct
  call_back (Mkfifo name) named fits = mkfifo_back name fits
  call_back (OpenName name mode flags) named fits = open_name_back name mode flags fits named
  call_back (Read fd n) named fits = read_back fd n fits.0 fits.1
  call_back (Write fd bytes) named fits = write_back fd bytes fits.0 fits.1 fits.2
  call_back (Splice from from_offset to to_offset len flags) named fits =
      splice_call_back from from_offset to to_offset len flags fits.0 fits.1 fits.2 fits.3 fits.4 named
  call_back (Tee from to len flags) named fits = tee_back from to len flags fits.0 fits.1 fits.2 named
  call_back (Poll entries wait) named fits = poll_back entries wait named fits
  call_back (Dup fd) named fits = dup_back fd fits
  call_back (Dup2 fd target) named fits = dup2_back fd target fits.0 fits.1
  call_back (DupFd fd least) named fits = dup_fd_back fd least fits.0 fits.1
  call_back (Close fd) named fits = close_back fd fits
  call_back (Lseek fd offset whence) named fits = lseek_back fd offset whence fits.0 fits.1
  call_back (GetFl fd) named fits = get_fl_back fd fits
  call_back (SetFl fd flags) named fits = set_fl_call_back fd flags fits named
  call_back (GetPipeSz fd) named fits = get_size_back fd fits
  call_back (SetPipeSz fd size) named fits = set_size_back fd size fits.0 fits.1
  call_back (Unlink name) named fits = unlink_back name fits
  call_back Fork named fits = fork_back
  call_back Exit named fits = exit_back

  -- ---- their words

  pub call_are_words : (call : Call A) → is_call_sayable call ≡ true → CallFits call → AreWords (call_words call)
  unfolding call_words
  call_are_words (Pipe nonblock direct) named fits = (word_by (codes "pipe") refl, pipe_words nonblock direct)
  call_are_words (Mkfifo name) named fits = (word_by (codes "mkfifo") refl, (name_word name fits, tt))
  call_are_words (OpenName name mode flags) named fits = (word_by (codes "open") refl, (name_word name fits, (mode_word mode, open_words flags named)))
  call_are_words (Read fd n) named fits = (word_by (codes "read") refl, (fd_word fd fits.0, (size_word n fits.1, tt)))
  call_are_words (Write fd bytes) named fits = (word_by (codes "write") refl, (fd_word fd fits.0, (bytes_word bytes fits.1 fits.2, tt)))
  call_are_words (Splice from from_offset to to_offset len flags) named fits =
      (word_by (codes "splice") refl, (fd_word from fits.0, (offset_word from_offset fits.1, (fd_word to fits.2, (offset_word to_offset fits.3, (size_word len fits.4, splice_words flags named))))))
  call_are_words (Tee from to len flags) named fits = (word_by (codes "tee") refl, (fd_word from fits.0, (fd_word to fits.1, (size_word len fits.2, splice_words flags named))))
  call_are_words (Poll entries wait) named fits = (word_by (codes "poll") refl, (wait_word wait, entries_words entries named fits))
  call_are_words (Dup fd) named fits = (word_by (codes "dup") refl, (fd_word fd fits, tt))
  call_are_words (Dup2 fd target) named fits = (word_by (codes "dup2") refl, (fd_word fd fits.0, (fd_word target fits.1, tt)))
  call_are_words (DupFd fd least) named fits = (word_by (codes "dupfd") refl, (fd_word fd fits.0, (fd_word least fits.1, tt)))
  call_are_words (Close fd) named fits = (word_by (codes "close") refl, (fd_word fd fits, tt))
  call_are_words (Lseek fd offset whence) named fits = (word_by (codes "lseek") refl, (fd_word fd fits.0, (signed_word offset fits.1, (whence_word whence, tt))))
  call_are_words (GetFl fd) named fits = (word_by (codes "getfl") refl, (fd_word fd fits, tt))
  call_are_words (SetFl fd flags) named fits = (word_by (codes "setfl") refl, (fd_word fd fits, (set_fl_word flags named, tt)))
  call_are_words (GetPipeSz fd) named fits = (word_by (codes "getsz") refl, (fd_word fd fits, tt))
  call_are_words (SetPipeSz fd size) named fits = (word_by (codes "setsz") refl, (fd_word fd fits.0, (size_word size fits.1, tt)))
  call_are_words (Unlink name) named fits = (word_by (codes "unlink") refl, (name_word name fits, tt))
  call_are_words Fork named fits = (word_by (codes "fork") refl, tt)
  call_are_words Exit named fits = (word_by (codes "exit") refl, tt)
