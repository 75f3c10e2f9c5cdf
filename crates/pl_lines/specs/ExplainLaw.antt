-- Which lines are explained.
use Rattle.std.specs.Prelude.{◌≡◌, ℕ, List, is_some}
use Rattle.std.specs.Option.{is_none}
use Rattle.pl_model.specs.declared.script.Version.{Version}
use Rattle.pl_model.specs.Lines.{line}
use Rattle.pl_model.specs.Words.{words, without_return}
use Rattle.pl_lines.specs.Explained.{explained}

-- Nothing is wrong with a line exactly if it is a good one.
abbrev pub ExplainsBadLines : Type 0 → Type 0
ExplainsBadLines A = (version : Version) (bytes : List ℕ) → is_none (explained version (words (without_return bytes))) ≡ is_some (line {A = A} version bytes)
