-- Comments that look as if they expected a text, and don't.
use Rattle.std.specs.Prelude.{ℕ, ◌+◌, List, [], ◌∷◌, take, Bool, false, not, ◌&&◌, ◌||◌, if◌then◌else◌, Option, Some, None, is_some, codes}
use Rattle.std.specs.Str.{bytes_eq}
use Rattle.pl_model.specs.Words.{words}
use Rattle.pl_script.specs.Checked.{expected}

-- the words begin with `#` and `=>`, or with `#=>`
abbrev pub looks_expecting : List (List ℕ) → Bool
looks_expecting [] = false
looks_expecting (hash ∷ []) = bytes_eq (take 3 hash) (codes "#=>")
looks_expecting (hash ∷ arrow ∷ rest) =
    bytes_eq (take 3 hash) (codes "#=>") || (bytes_eq hash (codes "#") && bytes_eq (take 2 arrow) (codes "=>"))

-- the line looks so, and expects no text
abbrev pub is_misspelt : List ℕ → Bool
is_misspelt l = not (is_some (expected l)) && looks_expecting (words l)

-- the number of the first such line, where the first of these has this number
unfoldable pub first_misspelt : ℕ → List (List ℕ) → Option ℕ
first_misspelt n [] = None
first_misspelt n (l ∷ ls) = if is_misspelt l then Some n else first_misspelt (n + 1) ls
