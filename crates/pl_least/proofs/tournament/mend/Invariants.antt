-- What holds as the row is mended from an entry upwards.
use Rattle.std.specs.Prelude.{◌≡◌, ◌≢◌, ◌≤◌, ◌<◌, ◌*◌, ℕ, List, length}
use Rattle.pl_least.specs.Tournament.{entry, IsLesser}
use Rattle.pl_least.proofs.tournament.mend.Given as goal

-- Each entry of the first half is the lesser of two others, but for one; the second half is as it was.
pub record IsMendedBut (old entries : List ℕ) (places at : ℕ) : Type 0 where
  pub halves : length entries ≡ 2 * places
  pub within : at < places
  pub lesser : (k : ℕ) → 1 ≤ k → k < places → k ≢ at → IsLesser entries k
  pub same : (place : ℕ) → places ≤ place → entry entries place ≡ entry old place

abbrev pub invariant-loop-at : goal.invariant-loop-at
invariant-loop-at l = IsMendedBut l.initial.entries l.entries l.places l.at

abbrev pub decreases-loop-at : goal.decreases-loop-at
decreases-loop-at l = l.at
