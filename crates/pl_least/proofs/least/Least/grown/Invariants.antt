-- What holds as the numbers are taken over into a larger row.
use Rattle.std.specs.Prelude.{◌≡◌, ◌≤◌, ◌<◌, ℕ, ◌+◌}
use Rattle.pl_least.specs.declared.least.Least.{Least}
use Rattle.pl_least.specs.None.{none}
use Rattle.pl_least.specs.Tournament.{entry}
use Rattle.pl_least.proofs.least.Least.grown.Given as goal

-- The numbers at the first places were taken over, and at the others stands none.
pub record HasTaken {A : Type 0} (old grown : Least A) (places count : ℕ) : Type 0 where
  pub places_asked : grown.places ≡ places
  pub taken : (place : ℕ) → place < count → entry grown.entries.items (grown.places + place) ≡ entry old.entries.items (old.places + place)
  pub rest : (place : ℕ) → count ≤ place → entry grown.entries.items (grown.places + place) ≡ none

abbrev pub invariant-loop-place : goal.invariant-loop-place
invariant-loop-place g l = HasTaken l.self l.grown l.places l.place
