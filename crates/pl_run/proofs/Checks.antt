-- From a check of a record to the end of the program.
use Rattle.std.proofs.Common.{◌≡◌, inl, inr, ℕ, ◌<◌, List, [], ◌++◌, take, drop, Bool, Option, Some, None, Ok, Err, refl, sym}
use Rattle.std.specs.Prelude.{IfSome}
use Rattle.std.specs.Io.KnownBytes.{Appends}
use Rattle.std.proofs.KnownBytes.{Appends-nil, Appends-trans}
use Rattle.std.proofs.lemmas.List.{append-nil, take-append-drop}
use Rattle.pl_model.specs.declared.calls.Limits.{Limits}
use Rattle.pl_model.specs.Script.{lines}
use Rattle.pl_script.specs.Header.{limits_of_header, IsCheckSpelt, IsCheckWithin}
use Rattle.pl_script.specs.Misspelt.{first_misspelt}
use Rattle.pl_script.specs.declared.comparing.Checked.{Checked}
use Rattle.pl_script.specs.declared.fault.ScriptFault.TheVariants as script
use Rattle.pl_run.specs.Program.{InBudget, IsCheckedWithin, line_of_same}
use Rattle.pl_run.specs.declared.fault.Fault.TheVariants.{CannotWrite, NoMemory, NothingExpected, Differs}
use Rattle.pl_run.proofs.Fronts.{WritesSome}

module _ (all explain : Bool) (limits : Limits) where
  module _ (input old mid : Option (List ℕ)) (checked : Checked)
      (check : IfSome input (λ record_of. (text : List ℕ) × Appends old mid text × IsCheckWithin InBudget all (limits_of_header limits record_of) record_of (Ok checked) text)) where
    -- replies differ
    pub differs : 0 < checked.different → IfSome input (λ record_of. (text : List ℕ) × Appends old mid text × IsCheckedWithin all explain limits record_of (Err (Differs checked.different checked.compared)) text)
    differs some = by input check
      where
        by : (told : Option (List ℕ)) → IfSome told (λ record_of. (text : List ℕ) × Appends old mid text × IsCheckWithin InBudget all (limits_of_header limits record_of) record_of (Ok checked) text)
            → IfSome told (λ record_of. (text : List ℕ) × Appends old mid text × IsCheckedWithin all explain limits record_of (Err (Differs checked.different checked.compared)) text)
        by None known = tt
        by (Some bytes) known = (known.0, known.1, (Ok checked, known.0, [], sym (append-nil known.0), known.2, inr (inr (some, refl, refl))))

    -- no reply is expected
    pub nothing : checked.different ≡ 0 → checked.compared ≡ 0 → IfSome input (λ record_of. (text : List ℕ) × Appends old mid text × IsCheckedWithin all explain limits record_of (Err NothingExpected) text)
    nothing none compared = by input check
      where
        by : (told : Option (List ℕ)) → IfSome told (λ record_of. (text : List ℕ) × Appends old mid text × IsCheckWithin InBudget all (limits_of_header limits record_of) record_of (Ok checked) text)
            → IfSome told (λ record_of. (text : List ℕ) × Appends old mid text × IsCheckedWithin all explain limits record_of (Err NothingExpected) text)
        by None known = tt
        by (Some bytes) known = (known.0, known.1, (Ok checked, known.0, [], sym (append-nil known.0), known.2, inl (none, compared, refl, refl)))

    -- none does, and the line that says so was written
    pub as_recorded : (new : Option (List ℕ)) → checked.different ≡ 0 → 0 < checked.compared → Appends mid new (line_of_same checked.compared)
        → IfSome input (λ record_of. (text : List ℕ) × Appends old new text × IsCheckedWithin all explain limits record_of (Ok tt) text)
    as_recorded new none some written = by input check
      where
        by : (told : Option (List ℕ)) → IfSome told (λ record_of. (text : List ℕ) × Appends old mid text × IsCheckWithin InBudget all (limits_of_header limits record_of) record_of (Ok checked) text)
            → IfSome told (λ record_of. (text : List ℕ) × Appends old new text × IsCheckedWithin all explain limits record_of (Ok tt) text)
        by None known = tt
        by (Some bytes) known = (known.0 ++ line_of_same checked.compared, Appends-trans old mid new known.0 (line_of_same checked.compared) known.1 written, (Ok checked, known.0, line_of_same checked.compared, refl, known.2, inr (inl (none, some, refl))))

    -- none does, and a front of that line was written
    pub cut : (new : Option (List ℕ)) → checked.different ≡ 0 → 0 < checked.compared → WritesSome mid new (line_of_same checked.compared)
        → IfSome input (λ record_of. (text : List ℕ) × Appends old new text × IsCheckedWithin all explain limits record_of (Err CannotWrite) text)
    cut new none compared some = by input check
      where
        by : (told : Option (List ℕ)) → IfSome told (λ record_of. (text : List ℕ) × Appends old mid text × IsCheckWithin InBudget all (limits_of_header limits record_of) record_of (Ok checked) text)
            → IfSome told (λ record_of. (text : List ℕ) × Appends old new text × IsCheckedWithin all explain limits record_of (Err CannotWrite) text)
        by None known = tt
        by (Some bytes) known = (
          known.0 ++ take some.0 (line_of_same checked.compared),
          Appends-trans old mid new known.0 (take some.0 (line_of_same checked.compared)) known.1 some.2,
          (Ok checked, known.0, take some.0 (line_of_same checked.compared), refl, known.2, inr (inl (none, compared, (drop some.0 (line_of_same checked.compared), sym (take-append-drop some.0 (line_of_same checked.compared)))))),
        )

-- whatever the input gives, nothing was checked and nothing written
pub not_checked : (all explain : Bool) (limits : Limits) (input output : Option (List ℕ))
    → IfSome input (λ bytes. (written : List ℕ) × Appends output output written × IsCheckedWithin all explain limits bytes (Err NoMemory) written)
not_checked all explain limits None output = tt
not_checked all explain limits (Some bytes) output = ([], Appends-nil output, (Err script.NoMemory, [], [], refl, unread (limits_of_header limits bytes), (refl, refl)))
  where
    unread_spelt : (own : Limits) (wrong : Option ℕ) → IsCheckSpelt InBudget all own wrong bytes (Err script.NoMemory) []
    unread_spelt own None = inl refl
    unread_spelt own (Some n) = refl

    unread : (named : Option Limits) → IsCheckWithin InBudget all named bytes (Err script.NoMemory) []
    unread None = refl
    unread (Some own) = unread_spelt own (first_misspelt 1 (lines bytes))
