use Rattle.std.proofs.Common.{◌≡◌, ◌+◌, ◌-◌, ◌≤◌, length, arith}
use Rattle.pl_lines.proofs.Places.{none_next, none_last}
use Rattle.pl_lines.proofs.runs.digits_len.Goals as goal

pub loop-len-preserved : goal.loop-len-preserved
loop-len-preserved c =
    let len = c.loop-len.len in (
      omega (arith, c.loop-len-test.true, c.loop-len.invariant.0),
      none_next c.args.bytes.now len c.loop-len.invariant.1 (len + 32 + 2 - len) (omega arith) (c.three_begin.ensures c.if-three_begin.false),
    )

pub returns-then-not-three_begin : goal.returns-then-not-three_begin
returns-then-not-three_begin c =
    let bytes = c.args.bytes.now in
    let from = length bytes - 32 - 2 in
    let few : from ≤ c.loop-len.len = omega (arith, c.loop-len-test.false) in
    let last : from + 34 ≡ length bytes = omega (arith, c.if-bytes.true) in
    let fits : 34 ≤ length bytes - from = omega (arith, last) in
    record {
      within = omega arith;
      none_before = λ k lt. none_last bytes c.loop-len.len c.loop-len.invariant.1 from (length bytes - from) few last fits (c.three_begin-then-bytes.ensures c.if-not-three_begin.true) k;
      there = λ lt. absurd (omega (arith, lt));
    }
