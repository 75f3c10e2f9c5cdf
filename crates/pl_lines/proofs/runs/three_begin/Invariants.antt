use Rattle.std.proofs.Common.{◌≡◌, ℕ, ◌<◌}
use Rattle.pl_lines.specs.Runs.{ThreeBegin}
use Rattle.pl_lines.proofs.runs.three_begin.Given as goal

-- if none was found, three equal bytes begin at none of the places so far
abbrev pub invariant-loop-i : goal.invariant-loop-i
invariant-loop-i l = l.most ≡ 0 → (k : ℕ) → k < l.i → ThreeBegin l.bytes k → ⊥
