-- What the definitions answer of splices and tees in small examples.
use Rattle.std.specs.Prelude.{◌≡◌, ℕ, ◌+◌, Bool, false, pos, List, [], ◌∷◌, ◌++◌, map, Option, Some, None, replicate, codes}
use Rattle.pl_model.specs.declared.calls.Call.{Call}
use Rattle.pl_model.specs.declared.calls.Mode.{Mode}
use Rattle.pl_model.specs.declared.calls.Step.{Step}
use Rattle.pl_model.specs.declared.calls.Step.TheVariants.{Start, Begin, Resume, Interrupt}
use Rattle.pl_model.specs.declared.calls.Whence.TheVariants.{Set, Cur}
use Rattle.pl_model.specs.declared.replies.Reply.TheVariants.{Fd, Fds, Count, Bytes, Offset, Unit, Fault, Parked, NoCall}
use Rattle.pl_model.specs.declared.replies.Errno.TheVariants.{EAGAIN, EBADF, EFBIG, EINTR, EINVAL, EPIPE, ESPIPE}
use Rattle.pl_model.specs.Flags.{append, creat, splice_nonblock}
use Rattle.pl_model.specs.State.{file_bytes}
use Rattle.pl_model.specs.Numbered.{opening}
use Rattle.pl_model.specs.Chunks.{OfCall, AtPlace, chunks, outs}
use Rattle.pl_model.specs.Fates.{Answered, fate_begun}
use Rattle.pl_model.specs.Run.{after}
use Rattle.pl_model.specs.Worked.{usual, pipe, read, write, close, Answers, AnswersFrom}
use Rattle.pl_model.specs.WorkedFiles.{open_name, lseek, AnswersWithin}
use Rattle.pl_model.specs.WorkedStream.{first_state}

module _ {A : Type 0} where
  -- what the process of pid 1 does
  abbrev pub splice_with : ℕ → (from : ℕ) → (from_offset : Option ℕ) → (to : ℕ) → (to_offset : Option ℕ) → (len : ℕ) → Step A
  splice_with flags from from_offset to to_offset len = Begin 1 (Call.Splice (pos from) from_offset (pos to) to_offset len (record { 0 = flags }))

  abbrev pub splice : (from : ℕ) → (from_offset : Option ℕ) → (to : ℕ) → (to_offset : Option ℕ) → (len : ℕ) → Step A
  splice = splice_with 0

  abbrev pub tee : (from to len : ℕ) → Step A
  tee from to len = Begin 1 (Call.Tee (pos from) (pos to) len (record { 0 = 0 }))

  -- steps that all find memory
  abbrev pub unmarked : List (Step A) → List (Step A × Bool)
  unmarked steps = map (λ x. (x, false)) steps

-- after these steps, where a file has at most this many bytes, the file of the name has these
abbrev pub LeavesFile : (A : Type 0) → ℕ → List (Step A) → List ℕ → List ℕ → Type 0
LeavesFile A most steps name bytes =
    (first_call : ℕ) → file_bytes (after (opening {A = A} (usual first_call most)) (unmarked (Start ∷ steps))).core name ≡ Some bytes

-- two pipes share the bytes that were copied, and then each has its own
abbrev pub SharedTail : Type 0 → Type 0
SharedTail A =
    Answers A
    (pipe ∷ pipe ∷ write 1 (codes "ab") ∷ tee 0 3 2 ∷ write 1 (codes "c") ∷ write 3 (codes "d") ∷ read 0 10 ∷ read 2 10 ∷ [])
    (Fds (pos 0) (pos 1) ∷ Fds (pos 2) (pos 3) ∷ Count 2 false ∷ Count 2 false ∷ Count 1 false ∷ Count 1 false ∷ Bytes (codes "abc") ∷ Bytes (codes "abd") ∷ [])

abbrev pub splice_and_overwrite : {A : Type 0} → List (Step A)
splice_and_overwrite =
    open_name (codes "f") Mode.Both creat ∷ write 0 (codes "old") ∷ pipe ∷ splice 0 (Some 0) 2 None 10 ∷ lseek 0 (pos 0) Set ∷ write 0 (codes "new") ∷ read 1 10 ∷ []

-- a later write to the file doesn't change the bytes that went over
pub record BytesOfTheMoment (A : Type 0) : Type 0 where
  pub replies : AnswersWithin A 16 splice_and_overwrite
      (Fd (pos 0) ∷ Count 3 false ∷ Fds (pos 1) (pos 2) ∷ Count 3 false ∷ Offset 0 ∷ Count 3 false ∷ Bytes (codes "old") ∷ [])
  pub file : LeavesFile A 16 splice_and_overwrite (codes "f") (codes "new")

abbrev pub splice_to_an_offset : {A : Type 0} → List (Step A)
splice_to_an_offset =
    pipe ∷ open_name (codes "f") Mode.Both creat ∷ write 1 (codes "ab") ∷ splice 0 None 2 (Some 10) 5 ∷ lseek 2 (pos 0) Cur ∷ []

-- the offset that is given is past the end of the file, and the description's own stays
pub record SpliceToAnOffset (A : Type 0) : Type 0 where
  pub replies : AnswersWithin A 16
      (splice_to_an_offset ++ (splice 0 (Some 0) 2 None 5 ∷ splice_with splice_nonblock 0 None 2 None 5 ∷ close 1 ∷ splice 0 None 2 None 5 ∷ []))
      (Fds (pos 0) (pos 1) ∷ Fd (pos 2) ∷ Count 2 false ∷ Count 2 false ∷ Offset 0 ∷ Fault ESPIPE ∷ Fault EAGAIN ∷ Unit ∷ Count 0 false ∷ [])
  pub file : LeavesFile A 16 splice_to_an_offset (codes "f") (replicate 10 0 ++ codes "ab")

abbrev pub SplicesAndTeesRefused : Type 0 → Type 0
SplicesAndTeesRefused A =
    Answers A
    (pipe ∷ open_name (codes "a") Mode.Both (creat + append) ∷ open_name (codes "b") Mode.Both creat ∷ splice 0 None 1 None 5 ∷ splice 2 None 3 None 5
    ∷ splice 0 None 2 None 5 ∷ splice 99 None 98 None 0 ∷ splice 99 None 1 None 5 ∷ tee 0 3 5 ∷ tee 1 0 5 ∷ [])
    (Fds (pos 0) (pos 1) ∷ Fd (pos 2) ∷ Fd (pos 3) ∷ Fault EINVAL ∷ Fault EINVAL
    ∷ Fault EINVAL ∷ Count 0 false ∷ Fault EBADF ∷ Fault EINVAL ∷ Fault EBADF ∷ [])

-- both wait for bytes, and a splice that is interrupted moved none; nobody can read what would go in
abbrev pub MovesThatWait : Type 0 → Type 0
MovesThatWait A =
    AnswersFrom A 1
    (pipe ∷ pipe ∷ splice 0 None 3 None 5 ∷ tee 0 3 5 ∷ write 1 (codes "ab") ∷ Resume 2 ∷ Resume 1 ∷ read 2 9 ∷ splice 0 None 3 None 5 ∷ Interrupt 3 ∷ close 2
    ∷ splice 0 None 3 None 5 ∷ tee 0 3 5 ∷ Resume 3 ∷ [])
    (Fds (pos 0) (pos 1) ∷ Fds (pos 2) (pos 3) ∷ Parked 1 ∷ Parked 2 ∷ Count 2 false ∷ Count 2 false ∷ Count 2 false ∷ Bytes (codes "abab") ∷ Parked 3 ∷ Fault EINTR ∷ Unit
    ∷ Fault EPIPE ∷ Fault EPIPE ∷ NoCall ∷ [])

-- a file takes as many bytes as it has room for, gives none from its end on, and its own offset advances
abbrev pub SplicesAtTheEndOfAFile : Type 0 → Type 0
SplicesAtTheEndOfAFile A =
    AnswersWithin A 16
    (pipe ∷ open_name (codes "f") Mode.Both creat ∷ write 1 (codes "abcd") ∷ lseek 2 (pos 14) Set ∷ splice 0 None 2 None 9 ∷ lseek 2 (pos 0) Cur ∷ splice 0 None 2 None 9
    ∷ splice 2 None 1 None 9 ∷ splice 2 (Some 99) 1 None 9 ∷ read 0 9 ∷ [])
    (Fds (pos 0) (pos 1) ∷ Fd (pos 2) ∷ Count 4 false ∷ Offset 14 ∷ Count 2 false ∷ Offset 16 ∷ Fault EFBIG
    ∷ Count 0 false ∷ Count 0 false ∷ Bytes (codes "cd") ∷ [])

module _ {A : Type 0} where
  -- A tee waits for bytes, and a splice then takes the same.
  abbrev pub before_the_tee : List (Step A)
  before_the_tee = Start ∷ pipe ∷ pipe ∷ []

  abbrev pub after_the_tee : List (Step A)
  after_the_tee = write 1 (codes "abc") ∷ Resume 1 ∷ splice 0 None 3 None 2 ∷ read 0 9 ∷ read 2 9 ∷ []

  abbrev pub copied_and_moved : List (Step A × Bool)
  copied_and_moved = unmarked (before_the_tee ++ (tee 0 3 2 ∷ after_the_tee))

-- The tee's chunk has no out, the splice's is its out, and what each added is one chunk.
pub record MovesInPieces (A : Type 0) (file_max : ℕ) : Type 0 where
  pub chunks_of_source : chunks (first_state {A = A} file_max) copied_and_moved 0 ≡ record { tag = AtPlace 4; bytes = codes "abc" } ∷ []
  pub outs_of_source : outs (first_state {A = A} file_max) copied_and_moved 0 ≡ record { tag = AtPlace 6; bytes = codes "ab" } ∷ record { tag = AtPlace 7; bytes = codes "c" } ∷ []
  pub chunks_of_target : chunks (first_state {A = A} file_max) copied_and_moved 1 ≡ record { tag = OfCall 1; bytes = codes "ab" } ∷ record { tag = AtPlace 6; bytes = codes "ab" } ∷ []
  pub outs_of_target : outs (first_state {A = A} file_max) copied_and_moved 1 ≡ record { tag = AtPlace 8; bytes = codes "abab" } ∷ []
  pub fate : fate_begun (after (first_state {A = A} file_max) (unmarked before_the_tee)) (tee 0 3 2) (unmarked after_the_tee)
      ≡ record { ending = Answered (Count 2 false); taken = 2 }

-- for any greatest size of a file
abbrev pub PiecesOfMoves : Type 0 → Type 0
PiecesOfMoves A = (file_max : ℕ) → MovesInPieces A file_max
