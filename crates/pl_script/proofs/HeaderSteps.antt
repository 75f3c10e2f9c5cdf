-- A record within the limits that it names.
use Rattle.std.proofs.Common.{◌≡◌, ℕ, ◌+◌, ◌≤◌, Bool, List, [], length, Option, Some, None, Result, Err, inl, refl, sym, subst}
use Rattle.std.specs.Prelude.{IfSome}
use Rattle.std.specs.Io.KnownBytes.{Appends}
use Rattle.std.proofs.KnownBytes.{Appends-nil}
use Rattle.pl_model.specs.declared.calls.Limits.{Limits}
use Rattle.pl_model.specs.Numbers.{most_script_bytes}
use Rattle.pl_model.specs.Script.{lines, version_of, header_lines}
use Rattle.pl_script.specs.Streams.{WasNotRead}
use Rattle.pl_script.specs.Checked.{IsCheck}
use Rattle.pl_script.specs.Header.{limits_of_header, IsCheckSpelt, IsCheckWithin}
use Rattle.pl_script.specs.Misspelt.{first_misspelt}
use Rattle.pl_script.specs.declared.comparing.Checked.{Checked}
use Rattle.pl_script.specs.declared.fault.ScriptFault.{ScriptFault}
use Rattle.pl_script.specs.declared.fault.ScriptFault.TheVariants as faults

-- what was written and answered of the bytes that were read, where the reader told them
pub checked_known : (A : Type 0) (all : Bool) (remaining old new : Option (List ℕ)) (read : List ℕ) (limits : Limits) (result : Result Checked ScriptFault) → IfSome remaining (λ script. read ≡ script)
    → (text : List ℕ) × Appends old new text × IsCheckWithin A all (limits_of_header limits read) read result text
    → IfSome remaining (λ script. (text : List ℕ) × Appends old new text × IsCheckWithin A all (limits_of_header limits script) script result text)
checked_known A all None old new read limits result known check = tt
checked_known A all (Some script) old new read limits result known check =
    let Checks : List ℕ → Type 0 = λ bytes. IsCheckWithin A all (limits_of_header limits bytes) bytes result check.0 in
    (check.0, check.1, subst Checks known check.2)

-- the lines were checked within the limits that the record names
pub within : (A : Type 0) (all : Bool) (old new : Option (List ℕ)) (read held : List ℕ) (limits named : Limits) (result : Result Checked ScriptFault) → held ≡ read → limits_of_header limits held ≡ Some named
    → first_misspelt 1 (lines held) ≡ None → (text : List ℕ) × Appends old new text × IsCheck A all held named result text → (text : List ℕ) × Appends old new text × IsCheckWithin A all (limits_of_header limits read) read result text
within A all old new read held limits named result is names spelt check =
    let Checks : List ℕ → Type 0 = λ bytes. IsCheckWithin A all (limits_of_header limits bytes) bytes result check.0 in
    let Within : Option Limits → Type 0 = λ own. IsCheckWithin A all own held result check.0 in
    let Spelt : Option ℕ → Type 0 = λ wrong. IsCheckSpelt A all named wrong held result check.0 in
    (check.0, check.1, subst Checks is (subst Within (sym names) (subst Spelt (sym spelt) check.2)))

-- the record names limits wrongly
pub misnamed : (A : Type 0) (all : Bool) (o : Option (List ℕ)) (read held : List ℕ) (limits : Limits) (n : ℕ) → held ≡ read → length read ≤ most_script_bytes → limits_of_header limits held ≡ None
    → n ≡ header_lines (version_of held) + 1 → (text : List ℕ) × Appends o o text × IsCheckWithin A all (limits_of_header limits read) read (Err (faults.BadLine n)) text
misnamed A all o read held limits n is short none number =
    let names : limits_of_header limits read ≡ None = rw (← is) none in
    let at : n ≡ header_lines (version_of read) + 1 = rw (← is) number in
    ([], Appends-nil o, rw names (short, at, refl))

-- a line of the record is misspelt
pub misspelt : (A : Type 0) (all : Bool) (o : Option (List ℕ)) (read : List ℕ) (limits named : Limits) (n : ℕ) → length read ≤ most_script_bytes → limits_of_header limits read ≡ Some named
    → first_misspelt 1 (lines read) ≡ Some n → (text : List ℕ) × Appends o o text × IsCheckWithin A all (limits_of_header limits read) read (Err (faults.BadLine n)) text
misspelt A all o read limits named n short names wrong = ([], Appends-nil o, rw (names, wrong) (short, refl, refl))

-- a script that wasn't read: nothing of it was checked, and nothing written
unread_spelt : (A : Type 0) (all : Bool) (script : List ℕ) (before after : Bool) (limits : Limits) (wrong : Option ℕ) (fault : ScriptFault) → WasNotRead (Some script) before after fault → IsCheckSpelt A all limits wrong script (Err fault) []
unread_spelt A all script before after limits None faults.Read h = refl
unread_spelt A all script before after limits None faults.TooLong h = (h.1, refl)
unread_spelt A all script before after limits None faults.NoMemory h = inl refl
unread_spelt A all script before after limits None faults.Write h = absurd h
unread_spelt A all script before after limits None (faults.BadLine n) h = absurd h
unread_spelt A all script before after limits (Some n) faults.Read h = refl
unread_spelt A all script before after limits (Some n) faults.TooLong h = (h.1, refl)
unread_spelt A all script before after limits (Some n) faults.NoMemory h = refl
unread_spelt A all script before after limits (Some n) faults.Write h = absurd h
unread_spelt A all script before after limits (Some n) (faults.BadLine m) h = absurd h

unread_within : (A : Type 0) (all : Bool) (script : List ℕ) (before after : Bool) (named : Option Limits) (fault : ScriptFault) → WasNotRead (Some script) before after fault → IsCheckWithin A all named script (Err fault) []
unread_within A all script before after None faults.Read h = refl
unread_within A all script before after None faults.TooLong h = (h.1, refl)
unread_within A all script before after None faults.NoMemory h = refl
unread_within A all script before after None faults.Write h = absurd h
unread_within A all script before after None (faults.BadLine n) h = absurd h
unread_within A all script before after (Some limits) fault h = unread_spelt A all script before after limits (first_misspelt 1 (lines script)) fault h

pub unchecked : (A : Type 0) (all : Bool) (remaining o : Option (List ℕ)) (before after : Bool) (limits : Limits) (fault : ScriptFault) → WasNotRead remaining before after fault
    → IfSome remaining (λ script. (text : List ℕ) × Appends o o text × IsCheckWithin A all (limits_of_header limits script) script (Err fault) text)
unchecked A all None o before after limits fault h = tt
unchecked A all (Some script) o before after limits fault h = ([], Appends-nil o, unread_within A all script before after (limits_of_header limits script) fault h)
