use Rattle.std.proofs.Common.{ℕ, ◌<◌, ◌≤◌, ◌-◌, length}
use Rattle.pl_lines.specs.Runs.{FourBegin}
use Rattle.pl_lines.proofs.runs.first_four.Given as goal

abbrev pub invariant-loop-place : goal.invariant-loop-place
invariant-loop-place l = (l.from ≤ l.place) × ((k : ℕ) → l.from ≤ k → k < l.place → FourBegin l.bytes k → ⊥)

abbrev pub decreases-loop-place : goal.decreases-loop-place
decreases-loop-place l = length l.bytes - l.place
