-- What holds on the way down to a least number.
use Rattle.std.specs.Prelude.{◌-◌, ◌≡◌, ◌≤◌, ◌<◌, ◌*◌, ℕ, List}
use Rattle.pl_least.specs.Tournament.{entry}
use Rattle.pl_least.proofs.tournament.least_of.Given as goal

-- The entry is the same as the second one of the row.
pub record IsSameAs (entries : List ℕ) (places at : ℕ) : Type 0 where
  pub least : 1 ≤ at
  pub within : at < 2 * places
  pub same : entry entries at ≡ entry entries 1

abbrev pub invariant-loop-at : goal.invariant-loop-at
invariant-loop-at l = IsSameAs l.entries l.places l.at

abbrev pub decreases-loop-at : goal.decreases-loop-at
decreases-loop-at l = 2 * l.places - l.at
