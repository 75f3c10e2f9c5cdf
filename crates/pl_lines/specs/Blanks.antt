-- Words behind blanks.
use Rattle.std.specs.Prelude.{ℕ, List, [], ◌∷◌}
use Rattle.pl_model.specs.Said.{spaced}

-- words that one blank joins, behind one more; nothing if there are none
abbrev pub behind_blank : List (List ℕ) → List ℕ
behind_blank [] = []
behind_blank (w ∷ ws) = 32 ∷ spaced (w ∷ ws)
