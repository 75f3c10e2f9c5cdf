-- The lines of a record that may be misspelt, one at a time.
use Rattle.std.proofs.Common.{◌≡◌, ℕ, ◌+◌, Bool, true, false, cond, List, [], ◌∷◌, Some, None, refl, ap}
use Rattle.pl_script.specs.Misspelt.{is_misspelt, first_misspelt}

pub none-misspelt : (n : ℕ) → first_misspelt n [] ≡ None
unfolding first_misspelt
none-misspelt n = refl

module _ (n : ℕ) (l : List ℕ) (ls : List (List ℕ)) where
  pub misspelt-here : is_misspelt l ≡ true → first_misspelt n (l ∷ ls) ≡ Some n
  unfolding first_misspelt
  misspelt-here e = ap (λ b. cond b (Some n) (first_misspelt (n + 1) ls)) e

  pub misspelt-behind : is_misspelt l ≡ false → first_misspelt n (l ∷ ls) ≡ first_misspelt (n + 1) ls
  unfolding first_misspelt
  misspelt-behind e = ap (λ b. cond b (Some n) (first_misspelt (n + 1) ls)) e
