-- Values under numbers that rise.
use Rattle.std.specs.Prelude.{ℕ, ◌<◌, IsSome, nat_eq, vec_len, vec_capacity}
use Rattle.pl_model.specs.Map.{Map, get}
use Rattle.pl_numbered.specs.declared.numbered.Numbered.{Numbered}
use Rattle.pl_numbered.specs.Entries.{values_in}

-- the numbers of all values are below this one
abbrev pub AllUnder : {X : Type 0} → ℕ → Map ℕ X → Type 0
AllUnder number values = (n : ℕ) → IsSome (get nat_eq values n) → n < number

module _ {T A : Type 0} where
  -- the values, by number
  abbrev pub values : Numbered T A → Map ℕ T
  values n = values_in n.entries.items

  -- there is room for one value more
  abbrev pub HasRoom : Numbered T A → Type 0
  HasRoom n = vec_len n.entries < vec_capacity n.entries
