-- What stands in a text behind which more was pushed.
use Rattle.std.specs.Prelude.{◌≡◌, ℕ, Bool, List, ◌++◌, Result, OnOk, codes, if◌then◌else◌}

-- something was put behind the text of before, and all of it where that was done
pub record Pushes {X E : Type 0} (result : Result X E) (before after more : List ℕ) : Type 0 where
  pub put : List ℕ
  pub added : after ≡ before ++ put
  pub whole : OnOk result (put ≡ more)

-- a name in a list of names that commas part: where there are others, a comma parts it from them
abbrev pub next_name : Bool → List ℕ → List ℕ
next_name others name = if others then codes "," ++ name else name
