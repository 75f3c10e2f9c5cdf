-- The numbers of the calls of processes.
use Rattle.std.specs.Prelude.{◌≡◌, ◌<◌, ℕ, Bool, true, false, Option, is_some, nat_eq, slice_get, length}
use Rattle.std.specs.declared.option.Option.TheVariants.{None, Some}
use Rattle.pl_model.specs.Map.{get}
use Rattle.pl_numbered.specs.declared.numbered.Numbered.{Numbered}
use Rattle.pl_parked.specs.declared.owners.Owners.{Owners}
use Rattle.pl_numbered.specs.Numbered.{values}

module _ {A : Type 0} where
  -- the number is in the row of a process, if it has one
  abbrev pub is_in_row : Option (Numbered (Unit {0}) A) → ℕ → Bool
  is_in_row None number = false
  is_in_row (Some row) number = is_some (get nat_eq (values row) number)

  -- the call of the number is one of the process
  abbrev pub owns : Owners A → (pid number : ℕ) → Bool
  owns o pid number = is_in_row (slice_get o.rows.items pid) number

  -- how many numbers are in the row of a process, if it has one
  abbrev pub row_length : Option (Numbered (Unit {0}) A) → ℕ
  row_length None = 0
  row_length (Some row) = length (values row)

  -- how many calls of a process are listed
  abbrev pub owned_count : Owners A → ℕ → ℕ
  owned_count o pid = row_length (slice_get o.rows.items pid)

  -- the numbers of all calls are below this one
  abbrev pub AreUnder : ℕ → Owners A → Type 0
  AreUnder number o = (pid n : ℕ) → owns o pid n ≡ true → n < number
