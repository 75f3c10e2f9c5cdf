-- What reading and writing came to.
use Rattle.std.specs.Prelude.{◌≡◌, ◌<◌, ◌≤◌, ℕ, List, length, take, Bool, true, ◌==◌, Result, Ok, Err, Option, IfSome}
use Rattle.std.specs.Io.KnownBytes.{Appends}
use Rattle.pl_model.specs.Numbers.{most_script_bytes}
use Rattle.pl_script.specs.declared.fault.ScriptFault.{ScriptFault}
use Rattle.pl_script.specs.declared.fault.ScriptFault.TheVariants as faults

-- a write failed, or took no byte
abbrev pub took_nothing : {E : Type 0} → Result ℕ E → Bool
took_nothing (Ok n) = n == 0
took_nothing (Err e) = true

-- Why a script wasn't read: a read failed, or it is too long, or memory was wanting. The two Bools say whether a read had
-- failed before, and has failed now.
abbrev pub WasNotRead : Option (List ℕ) → Bool → Bool → ScriptFault → Type 0
WasNotRead remaining before after faults.Read = after ≡ true
WasNotRead remaining before after faults.TooLong =
    (after ≡ before) × IfSome remaining (λ script. most_script_bytes < length script)
WasNotRead remaining before after faults.NoMemory = after ≡ before
WasNotRead remaining before after faults.Write = ⊥
WasNotRead remaining before after (faults.BadLine n) = ⊥

-- the front of the bytes was written, and all of them at `Ok`
abbrev pub WritesFront : {X E : Type 0} → Option (List ℕ) → Option (List ℕ) → Result X E → List ℕ → Type 0
WritesFront old new (Ok x) bytes = Appends old new bytes
WritesFront old new (Err e) bytes = (count : ℕ) × (count ≤ length bytes) × Appends old new (take count bytes)
