use Rattle.std.proofs.Common.{◌≡◌, ℕ, ◌<◌, ◌*◌, ◌/◌, ◌%◌, ◌++◌, length, take, drop, slice_index}
use Rattle.pl_model.specs.Shown.{lower_digits}
use Rattle.hex.specs.Hex.{encode_with}
use Rattle.pl_lines.proofs.digits.write_digits.Given as goal

-- the digits of the bytes so far stand in their rows
abbrev pub invariant-loop-i : goal.invariant-loop-i
invariant-loop-i l =
    ((length l.high ≡ 64) × (length l.low ≡ 64))
    × (((k : ℕ) → k < l.i → slice_index l.high k ≡ slice_index lower_digits (slice_index l.bytes k / 16)) × ((k : ℕ) → k < l.i → slice_index l.low k ≡ slice_index lower_digits (slice_index l.bytes k % 16)))

-- the digits of the bytes so far stand there
abbrev pub invariant-loop-i-2 : goal.invariant-loop-i-2
invariant-loop-i-2 l = take (2 * l.i) l.digits ++ encode_with lower_digits (drop l.i l.bytes) ≡ encode_with lower_digits l.bytes
