-- What stands for no number.
use Rattle.std.specs.Prelude.{ℕ}

-- the greatest number of 64 bits
abbrev pub none : ℕ
none = 18446744073709551615
