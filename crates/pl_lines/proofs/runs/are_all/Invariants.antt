use Rattle.std.proofs.Common.{◌≡◌, ℕ, ◌<◌, slice_index}
use Rattle.pl_lines.proofs.runs.are_all.Given as goal

abbrev pub invariant-loop-i : goal.invariant-loop-i
invariant-loop-i l = l.most ≡ 0 → (k : ℕ) → k < l.i → slice_index l.bytes k ≡ l.byte
