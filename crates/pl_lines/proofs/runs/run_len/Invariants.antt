use Rattle.std.proofs.Common.{◌≡◌, ℕ, ◌<◌, ◌≤◌, ◌-◌, length, slice_index}
use Rattle.pl_lines.proofs.runs.run_len.Given as goal

-- so many bytes in front are equal
abbrev pub invariant-loop-len : goal.invariant-loop-len
invariant-loop-len l = (l.len ≤ length l.bytes) × ((k : ℕ) → k < l.len → slice_index l.bytes k ≡ slice_index l.bytes 0)

abbrev pub decreases-loop-len : goal.decreases-loop-len
decreases-loop-len l = length l.bytes - l.len

-- as before
abbrev pub invariant-loop-len-2 : goal.invariant-loop-len-2
invariant-loop-len-2 l = (l.len ≤ length l.bytes) × ((k : ℕ) → k < l.len → slice_index l.bytes k ≡ slice_index l.bytes 0)

abbrev pub decreases-loop-len-2 : goal.decreases-loop-len-2
decreases-loop-len-2 l = length l.bytes - l.len
