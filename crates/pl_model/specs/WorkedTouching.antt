-- Which nodes a step touches, in small examples.
use Rattle.std.specs.Prelude.{◌≡◌, pos, Bool, true, false, List, [], ◌∷◌, map, codes}
use Rattle.pl_model.specs.declared.calls.Mode.{Mode}
use Rattle.pl_model.specs.declared.calls.Step.{Step}
use Rattle.pl_model.specs.declared.calls.Step.TheVariants.{Start, Resume, Interrupt}
use Rattle.pl_model.specs.declared.calls.Whence.TheVariants.{Set}
use Rattle.pl_model.specs.Flags.{creat, poll_in}
use Rattle.pl_model.specs.Keys.{Node, PipeNode, FileNode}
use Rattle.pl_model.specs.Numbered.{numbers, State, opening, step}
use Rattle.pl_model.specs.Touching.{touches}
use Rattle.pl_model.specs.Worked.{pipe, read, write, close, dup, dup2, get_fl, fork, exit, usual}
use Rattle.pl_model.specs.WorkedFiles.{open_name, lseek, unlink}
use Rattle.pl_model.specs.WorkedFifo.{mkfifo}
use Rattle.pl_model.specs.WorkedSplice.{tee}
use Rattle.pl_model.specs.WorkedPoll.{poll_wait}

-- which of these nodes each of the steps touches, one after another
abbrev pub touched : {A : Type 0} → State A → List (Node numbers) → List (Step A) → List (List Bool)
touched s nodes [] = []
touched s nodes (x ∷ xs) = map (touches s.core x) nodes ∷ touched (step s x).state nodes xs

-- After a new kernel's first step, which starts the process of pid 1, come these steps.
abbrev pub Touches : (A : Type 0) → List (Node numbers) → List (Step A) → List (List Bool) → Type 0
Touches A nodes steps wanted = touched (step (opening {A = A} (usual 1 100)) Start).state nodes steps ≡ wanted

-- Two pipes: what is done at one of them doesn't touch the other, and to add a descriptor, a poll or a process touches neither.
abbrev pub PipesAreTouched : Type 0 → Type 0
PipesAreTouched A =
    Touches A
    (PipeNode 0 ∷ PipeNode 1 ∷ [])
    (pipe ∷ pipe ∷ read 0 5 ∷ write 3 (codes "a") ∷ dup 3 ∷ poll_wait ((pos 0, poll_in) ∷ []) ∷ fork ∷ close 2 ∷ tee 0 3 5 ∷ Resume 1 ∷ Interrupt 3 ∷ exit 2 ∷ dup2 3 1 ∷ read 9 1 ∷ [])
    ((false ∷ false ∷ []) ∷ (false ∷ false ∷ []) ∷ (true ∷ false ∷ []) ∷ (false ∷ true ∷ []) ∷ (false ∷ false ∷ []) ∷ (false ∷ false ∷ []) ∷ (false ∷ false ∷ []) ∷ (false ∷ true ∷ [])
    ∷ (true ∷ true ∷ []) ∷ (true ∷ false ∷ []) ∷ (true ∷ true ∷ []) ∷ (true ∷ true ∷ []) ∷ (true ∷ false ∷ []) ∷ (false ∷ false ∷ []) ∷ [])

-- A file: an open touches it if the name stands for it, and the name alone may come and go.
abbrev pub FileIsTouched : Type 0 → Type 0
FileIsTouched A =
    Touches A
    (FileNode 0 ∷ [])
    (open_name (codes "f") Mode.Both creat ∷ open_name (codes "f") Mode.Read 0 ∷ write 0 (codes "abc") ∷ lseek 0 (pos 0) Set ∷ get_fl 0 ∷ unlink (codes "f") ∷ open_name (codes "f") Mode.Read 0 ∷ read 1 2 ∷ close 0 ∷ [])
    ((false ∷ []) ∷ (true ∷ []) ∷ (true ∷ []) ∷ (true ∷ []) ∷ (false ∷ []) ∷ (false ∷ []) ∷ (false ∷ []) ∷ (true ∷ []) ∷ (true ∷ []) ∷ [])

-- A FIFO: each open touches it, also one that waits, and so does the end of one that waits.
abbrev pub FifoIsTouched : Type 0 → Type 0
FifoIsTouched A =
    Touches A
    (PipeNode 0 ∷ [])
    (mkfifo (codes "q") ∷ open_name (codes "q") Mode.Read 0 ∷ Interrupt 1 ∷ open_name (codes "q") Mode.Read 0 ∷ open_name (codes "q") Mode.Write 0 ∷ Resume 2 ∷ Resume 2 ∷ [])
    ((false ∷ []) ∷ (true ∷ []) ∷ (true ∷ []) ∷ (true ∷ []) ∷ (true ∷ []) ∷ (true ∷ []) ∷ (false ∷ []) ∷ [])
