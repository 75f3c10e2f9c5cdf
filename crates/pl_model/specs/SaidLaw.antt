-- What a record says of a step is that step.
use Rattle.std.specs.Prelude.{◌≡◌, ◌≢◌, ℕ, List, All, true, Some}
use Rattle.pl_model.specs.declared.calls.Step.{Step}
use Rattle.pl_model.specs.declared.script.Line.TheVariants.{Do, File}
use Rattle.pl_model.specs.declared.script.Version.TheVariants.{Two}
use Rattle.pl_model.specs.Lines.{line}
use Rattle.pl_model.specs.Said.{said_step, said_file, is_sayable, IsByte, StepFits}

-- The line of a step asks for that very step, if it is one that a line can say, with numbers of Rust's types.
abbrev pub StepsReadBack : Type 0 → Type 0
StepsReadBack A = (x : Step A) → is_sayable x ≡ true → StepFits x → line Two (said_step x) ≡ Some (Some (Do x))

-- The line of a file's name asks for the bytes of that very file.
abbrev pub FilesReadBack : Type 0 → Type 0
FilesReadBack A = (name : List ℕ) → All IsByte name → line {A = A} Two (said_file name) ≡ Some (Some (File name))

-- a line feed ends a line
abbrev pub IsOneLine : List ℕ → Type 0
IsOneLine text = All (λ c. c ≢ 10) text

abbrev pub StepsAreLines : Type 0 → Type 0
StepsAreLines A = (x : Step A) → is_sayable x ≡ true → StepFits x → IsOneLine (said_step x)

abbrev pub FilesAreLines : Type 0
FilesAreLines = (name : List ℕ) → All IsByte name → IsOneLine (said_file name)
