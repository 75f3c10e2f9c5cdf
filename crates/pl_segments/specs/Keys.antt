-- A list of keys, and how many it has places for.
use Rattle.std.specs.Prelude.{ℕ, List}

pub record Keys : Type 0 where
  pub items : List ℕ
  pub capacity : ℕ
