-- The keys of descriptions that a parked call keeps.
use Rattle.std.specs.Prelude.{ℕ, List, [], ◌∷◌}
use Rattle.pl_model.specs.declared.keys.Keys.{Keys}
use Rattle.pl_model.specs.declared.keys.Keys.TheVariants.{One, Several}

-- the keys, in order
abbrev pub keys_of : {A : Type 0} → Keys A → List ℕ
keys_of (One key) = key ∷ []
keys_of (Several keys) = keys.items
