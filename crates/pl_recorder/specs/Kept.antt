-- What a recorder keeps.
use Rattle.std.specs.Prelude.{◌≡◌, ◌≤◌, ℕ, List, length, Option, is_some, false}
use Rattle.std.specs.declared.option.Option.TheVariants.{Some}
use Rattle.std.specs.String.Boundary.{IsSplitPoint}
use Rattle.pl_model.specs.declared.replies.Reply.{Reply}

module _ {A : Type 0} where
  -- No more was handed out than was there. The line of a step that isn't made yet begins where a character ends, and no comment is owed then.
  pub record IsKept (read : ℕ) (reading : List ℕ) (line : Option ℕ) (text : List ℕ) (last : Option (Reply A)) : Type 0 where
    pub within : read ≤ length reading
    pub begun : (start : ℕ) → line ≡ Some start → IsSplitPoint text start × (is_some last ≡ false)

-- the bytes of room that only lines of Close, Exit and Interrupt may fill
abbrev pub kept : ℕ
kept = 4096
