-- Which calls that wait can get on, in small examples.
use Rattle.std.specs.Prelude.{◌≡◌, pos, negsuc, Bool, true, false, List, [], ◌∷◌, replicate, codes, None}
use Rattle.pl_model.specs.declared.calls.Mode.{Mode}
use Rattle.pl_model.specs.declared.calls.Step.{Step}
use Rattle.pl_model.specs.declared.calls.Step.TheVariants.{Start, Resume, Interrupt}
use Rattle.pl_model.specs.declared.calls.Whence.TheVariants.{Set, End}
use Rattle.pl_model.specs.Flags.{creat, nonblock, trunc, poll_in}
use Rattle.pl_model.specs.Numbered.{State, opening, step}
use Rattle.pl_model.specs.Waking.{can_progress}
use Rattle.pl_model.specs.Worked.{pipe, read, write, close, fork, exit, usual}
use Rattle.pl_model.specs.WorkedFiles.{open_name, lseek}
use Rattle.pl_model.specs.WorkedCapacity.{set_pipe_sz}
use Rattle.pl_model.specs.WorkedFifo.{mkfifo}
use Rattle.pl_model.specs.WorkedSplice.{splice, tee}
use Rattle.pl_model.specs.WorkedPoll.{poll_wait}

-- whether the call of number 1 can get on, after each of these steps
abbrev pub can_after : {A : Type 0} → State A → List (Step A) → List Bool
can_after s [] = []
can_after s (x ∷ xs) = can_progress (step s x).state.core 1 ∷ can_after (step s x).state xs

-- After a new kernel's first step, which starts the process of pid 1, come these steps, and the call can get on so after each. Where no call
-- waits under the number, the answer comes at once.
abbrev pub GetsOn : (A : Type 0) → List (Step A) → List Bool → Type 0
GetsOn A steps wanted = can_after (step (opening {A = A} (usual 1 100)) Start).state steps ≡ wanted

-- A read that waits can get on while something is held, and once the last writer left.
abbrev pub ReadGetsOn : Type 0 → Type 0
ReadGetsOn A = GetsOn A (pipe ∷ read 0 5 ∷ write 1 (codes "a") ∷ read 0 1 ∷ close 1 ∷ Resume 1 ∷ []) (true ∷ false ∷ true ∷ false ∷ true ∷ true ∷ [])

-- A small write that waits can get on once there is room for all of it, and once the last reader left.
abbrev pub SmallWriteGetsOn : Type 0 → Type 0
SmallWriteGetsOn A =
    GetsOn A
    (pipe ∷ set_pipe_sz 1 4096 ∷ write 1 (replicate 4000 97) ∷ write 1 (replicate 100 98) ∷ read 0 3 ∷ read 0 1 ∷ write 1 (codes "a") ∷ close 0 ∷ [])
    (true ∷ true ∷ true ∷ false ∷ false ∷ true ∷ false ∷ true ∷ [])

-- A large write that waits can get on where there is room for a byte. Its Resume puts that in, and then it can't. Interrupted, it is gone.
abbrev pub LargeWriteGetsOn : Type 0 → Type 0
LargeWriteGetsOn A =
    GetsOn A
    (pipe ∷ set_pipe_sz 1 4096 ∷ write 1 (replicate 5000 97) ∷ read 0 1 ∷ Resume 1 ∷ set_pipe_sz 1 8192 ∷ Resume 1 ∷ Interrupt 1 ∷ [])
    (true ∷ true ∷ false ∷ true ∷ false ∷ true ∷ true ∷ true ∷ [])

-- A poll that waits can get on while something that it asks for is found, by any of its entries.
abbrev pub PollGetsOn : Type 0 → Type 0
PollGetsOn A =
    GetsOn A
    (pipe ∷ poll_wait ((pos 1, 0) ∷ (negsuc 0, poll_in) ∷ (pos 0, poll_in) ∷ []) ∷ write 1 (codes "a") ∷ read 0 1 ∷ close 0 ∷ close 1 ∷ [])
    (true ∷ false ∷ true ∷ false ∷ false ∷ false ∷ [])

-- An open that waits can get on once it met its other end, for good.
abbrev pub OpenGetsOn : Type 0 → Type 0
OpenGetsOn A =
    GetsOn A
    (mkfifo (codes "q") ∷ open_name (codes "q") Mode.Read 0 ∷ mkfifo (codes "r") ∷ open_name (codes "q") Mode.Write nonblock ∷ close 0 ∷ [])
    (true ∷ false ∷ false ∷ true ∷ true ∷ [])

-- A splice from a file into a full pipe can get on once there is room, and once no bytes are left behind its offset.
abbrev pub SpliceGetsOn : Type 0 → Type 0
SpliceGetsOn A =
    GetsOn A
    (open_name (codes "f") Mode.Both creat ∷ write 0 (codes "abc") ∷ lseek 0 (pos 0) Set ∷ pipe ∷ set_pipe_sz 2 4096 ∷ write 2 (replicate 4096 97)
    ∷ splice 0 None 2 None 5 ∷ lseek 0 (pos 0) End ∷ lseek 0 (pos 2) Set ∷ open_name (codes "f") Mode.Write trunc ∷ write 3 (codes "abc") ∷ read 1 1 ∷ [])
    (true ∷ true ∷ true ∷ true ∷ true ∷ true ∷ false ∷ true ∷ false ∷ true ∷ false ∷ true ∷ [])

-- A tee that waits can get on where its source holds something and its target has room, and once a process left its source's last writer.
abbrev pub TeeGetsOn : Type 0 → Type 0
TeeGetsOn A =
    GetsOn A
    (pipe ∷ pipe ∷ set_pipe_sz 3 4096 ∷ tee 0 3 5 ∷ write 3 (replicate 4096 97) ∷ write 1 (codes "a") ∷ read 2 1 ∷ read 0 1 ∷ fork ∷ close 1 ∷ exit 2 ∷ [])
    (true ∷ true ∷ true ∷ false ∷ false ∷ false ∷ true ∷ false ∷ false ∷ false ∷ true ∷ [])
