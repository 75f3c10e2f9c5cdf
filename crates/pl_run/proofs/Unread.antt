-- A run for which there was no memory.
use Rattle.std.proofs.Common.{inl, ℕ, List, [], Bool, Option, Some, None, Err, IfSome, refl}
use Rattle.std.specs.Io.KnownBytes.{Appends}
use Rattle.std.proofs.KnownBytes.{Appends-nil}
use Rattle.pl_model.specs.declared.calls.Limits.{Limits}
use Rattle.pl_script.specs.declared.fault.ScriptFault.TheVariants as script
use Rattle.pl_run.specs.declared.fault.Fault.TheVariants.{NoMemory}
use Rattle.pl_run.specs.Program.{IsRunWithin}

-- whatever the input gives, nothing was written
pub not_run : (explain : Bool) (limits : Limits) (input output : Option (List ℕ))
    → IfSome input (λ bytes. (written : List ℕ) × Appends output output written × IsRunWithin explain limits bytes (Err NoMemory) written)
not_run explain limits None output = tt
not_run explain limits (Some bytes) output = ([], Appends-nil output, (Err script.NoMemory, refl, inl refl))
