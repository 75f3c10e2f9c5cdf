-- A list that is said bit by bit.
use Rattle.std.proofs.Common.{◌≡◌, List, [], ◌∷◌, ◌++◌, Option, Some, None, refl, sym, ap, append_assoc}
use Rattle.pl_model.specs.Words.{◌>>=◌}

-- what came before, and what is said behind it
abbrev pub behind : {X : Type 0} → List X → Option (List X) → Option (List X)
behind before said = said >>= λ xs. Some (before ++ xs)

pub one_more : {X : Type 0} (before : List X) (x : X) (said : Option (List X)) → behind before (said >>= λ xs. Some (x ∷ xs)) ≡ behind (before ++ x ∷ []) said
one_more before x None = refl
one_more before x (Some xs) = ap (λ ys. Some ys) (sym (append_assoc before (x ∷ []) xs))
