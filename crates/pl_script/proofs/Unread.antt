-- A script that wasn't read.
use Rattle.std.proofs.Common.{ℕ, List, [], Bool, Option, Some, None, Err, inl, refl}
use Rattle.std.specs.Prelude.{IfSome}
use Rattle.std.specs.Io.KnownBytes.{Appends}
use Rattle.std.proofs.KnownBytes.{Appends-nil}
use Rattle.pl_model.specs.declared.calls.Limits.{Limits}
use Rattle.pl_script.specs.declared.fault.ScriptFault.{ScriptFault}
use Rattle.pl_script.specs.declared.fault.ScriptFault.TheVariants as faults
use Rattle.pl_script.specs.Streams.{WasNotRead}
use Rattle.pl_script.specs.Running.{IsRun}

-- nothing of it was run, and nothing written
pub unread : (A : Type 0) (remaining o : Option (List ℕ)) (before after : Bool) (limits : Limits) (fault : ScriptFault) → WasNotRead remaining before after fault
    → IfSome remaining (λ script. (text : List ℕ) × Appends o o text × IsRun A script limits (Err fault) text)
unread A None o before after limits fault h = tt
unread A (Some script) o before after limits faults.Read h = ([], Appends-nil o, refl)
unread A (Some script) o before after limits faults.TooLong h = ([], Appends-nil o, (h.1, refl))
unread A (Some script) o before after limits faults.NoMemory h = ([], Appends-nil o, inl refl)
unread A (Some script) o before after limits faults.Write h = absurd h
unread A (Some script) o before after limits (faults.BadLine n) h = absurd h
