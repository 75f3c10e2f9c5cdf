-- Lines of scripts can say the steps that the functions for C make.
use Rattle.std.specs.Prelude.{◌≡◌, ⊤, ℕ, ℤ, Bool, true, List, Option, MatchOption}
use Rattle.pl_model.specs.declared.calls.Call.TheVariants.{OpenName, SetFl, Splice, Tee, Poll}
use Rattle.pl_model.specs.declared.calls.Mode.{Mode}
use Rattle.pl_model.specs.declared.calls.Step.TheVariants.{Begin}
use Rattle.pl_model.specs.Said.{is_sayable}
use Rattle.pl_numbers.specs.Flags.{open_flags_of_bits, splice_flags_of_bits}
use Rattle.pl_polls.specs.declared.entries.PollEntry.{PollEntry}
use Rattle.pl_polls.specs.Entries.{asked}
use Rattle.bindingclay.specs.Heap.{InBudget}

-- Whatever bits a program gives, its flags and what it asks of a poll have names alone. Calls without flags are sayable as they stand.
pub record AreSayable : Type 0 where
  pub opens : (pid bits : ℕ) (name : List ℕ) (mode : Mode) → is_sayable {A = InBudget} (Begin pid (OpenName name mode (open_flags_of_bits bits))) ≡ true
  pub sets : (pid bits : ℕ) (fd : ℤ) → is_sayable {A = InBudget} (Begin pid (SetFl fd (open_flags_of_bits bits))) ≡ true
  pub splices : (pid bits len : ℕ) (from to : ℤ) (from_offset to_offset : Option ℕ) →
      MatchOption (splice_flags_of_bits bits) ⊤ (λ flags. is_sayable {A = InBudget} (Begin pid (Splice from from_offset to to_offset len flags)) ≡ true)
  pub tees : (pid bits len : ℕ) (from to : ℤ) → MatchOption (splice_flags_of_bits bits) ⊤ (λ flags. is_sayable {A = InBudget} (Begin pid (Tee from to len flags)) ≡ true)
  pub polls : (pid : ℕ) (entries : List PollEntry) (wait : Bool) → is_sayable {A = InBudget} (Begin pid (Poll (asked entries) wait)) ≡ true
