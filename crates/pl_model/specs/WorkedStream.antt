-- The pieces of small runs, for any greatest size of a file.
use Rattle.std.specs.Prelude.{◌≡◌, ℕ, Bool, true, false, pos, replicate, codes, List, [], ◌∷◌, ◌++◌}
use Rattle.pl_model.specs.declared.calls.Call.{Call}
use Rattle.pl_model.specs.declared.calls.Step.{Step}
use Rattle.pl_model.specs.declared.calls.Step.TheVariants.{Start, Begin, Resume}
use Rattle.pl_model.specs.declared.replies.Reply.TheVariants.{Count}
use Rattle.pl_model.specs.Numbered.{State, opening}
use Rattle.pl_model.specs.Chunks.{OfCall, AtPlace, ForgottenAt, chunks, outs}
use Rattle.pl_model.specs.Fates.{Answered, fate_begun}
use Rattle.pl_model.specs.Run.{after}
use Rattle.pl_model.specs.Worked.{usual, pipe, fork, read, write, close}

module _ {A : Type 0} where
  abbrev pub first_state : ℕ → State A
  first_state file_max = opening (usual 1 file_max)

  -- Process 2 writes 1,000 bytes between the turns of the 70,000 of process 1; a read that finds no memory is passed over.
  abbrev pub before_the_large_write : List (Step A × Bool)
  before_the_large_write = (Start, false) ∷ (pipe, false) ∷ (fork, false) ∷ []

  abbrev pub large_write : Step A
  large_write = write 1 (replicate 70000 97)

  abbrev pub after_the_large_write : List (Step A × Bool)
  after_the_large_write =
      (read 0 1000, true) ∷ (read 0 1000, false) ∷ (Begin 2 (Call.Write (pos 1) (replicate 1000 98)), false) ∷ (Resume 1, false) ∷ (read 0 65536, false)
      ∷ (Resume 1, false) ∷ []

  abbrev pub interleaved : List (Step A × Bool)
  interleaved = before_the_large_write ++ ((large_write, false) ∷ after_the_large_write)

  -- A pipe that loses both its ends forgets what it holds.
  abbrev pub given_up : List (Step A × Bool)
  given_up = (Start, false) ∷ (pipe, false) ∷ (write 1 (codes "ab"), false) ∷ (read 0 1, false) ∷ (close 0, false) ∷ (close 1, false) ∷ []

-- The large write's chunks are its bytes in order, the small write's is whole, and each read's out is what it was answered.
pub record InterleavedInPieces (A : Type 0) (file_max : ℕ) : Type 0 where
  pub chunks : chunks (first_state {A = A} file_max) interleaved 0
      ≡ record { tag = OfCall 1; bytes = replicate 65536 97 } ∷ record { tag = AtPlace 6; bytes = replicate 1000 98 } ∷ record { tag = OfCall 1; bytes = replicate 4464 97 } ∷ []
  pub outs : outs (first_state {A = A} file_max) interleaved 0
      ≡ record { tag = AtPlace 5; bytes = replicate 1000 97 } ∷ record { tag = AtPlace 8; bytes = replicate 64536 97 ++ replicate 1000 98 } ∷ []
  pub fate : fate_begun (after (first_state {A = A} file_max) before_the_large_write) large_write after_the_large_write
      ≡ record { ending = Answered (Count 70000 false); taken = 70000 }

-- What was read is one out, and what was left is forgotten as the last end goes.
abbrev pub ForgottenInPieces : (A : Type 0) → ℕ → Type 0
ForgottenInPieces A file_max =
    outs (first_state {A = A} file_max) given_up 0 ≡ record { tag = AtPlace 3; bytes = codes "a" } ∷ record { tag = ForgottenAt 5; bytes = codes "b" } ∷ []

-- both, for any greatest size of a file
pub record RunsInPieces (A : Type 0) : Type 0 where
  pub interleaved : (file_max : ℕ) → InterleavedInPieces A file_max
  pub forgotten : (file_max : ℕ) → ForgottenInPieces A file_max
