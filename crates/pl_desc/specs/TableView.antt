-- The fields of a table, as what its descriptors name.
use Rattle.std.specs.Prelude.{◌≡◌, ◌≤◌, ℕ, ◌-◌, List, map, length, ◌++◌, replicate, Option, Some, None, nat_eq, if◌then◌else◌}
use Rattle.pl_masks.specs.declared.masks.Masks.{Masks}
use Rattle.pl_model.specs.Numbers.{most_descriptors}
use Rattle.pl_desc.specs.declared.table.Table.TheInside.{Inside}
use Rattle.pl_desc.specs.Rows.{Tabled, no_key, open_in}
use Rattle.pl_desc.specs.Vacant.{AreVacant}

-- what stands in a row, as what the descriptor names
abbrev pub named : ℕ → Option ℕ
named key = if nat_eq key no_key then None else Some key

-- what each descriptor that has a row names
abbrev pub named_all : List ℕ → List (Option ℕ)
named_all keys = map named keys

-- what each of so many descriptors names: those without a row name nothing
abbrev pub padded : ℕ → List (Option ℕ) → List (Option ℕ)
padded most names = names ++ replicate (most - length names) None

-- what each descriptor names, and how many have a row
abbrev pub view_of : {A : Type 0} → Inside A → Tabled
view_of t = record { names = padded t.most (named_all t.keys.items); rows = length t.keys.items }

-- the set has the free descriptors that have a row, there are no more of them than there may be descriptors, and so many are open
pub record IsTable {A : Type 0} (keys : List ℕ) (most in_use : ℕ) (set : Masks A) : Type 0 where
  pub free : AreVacant (named_all keys) set
  pub counted : in_use ≡ open_in (padded most (named_all keys))
  pub few : length keys ≤ most
  pub within : most ≤ most_descriptors
