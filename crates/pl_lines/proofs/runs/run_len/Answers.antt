use Rattle.std.proofs.Common.{◌+◌, ◌-◌, ◌≤◌, length, slice_index, arith}
use Rattle.pl_lines.proofs.Places.{more_alike}
use Rattle.pl_lines.proofs.runs.run_len.Goals as goal

pub loop-len-preserved : goal.loop-len-preserved
loop-len-preserved c =
    let len = c.loop-len.len in
    let fits : len + 32 ≤ length c.args.bytes.now = omega (arith, c.loop-len-test.true, c.loop-len.invariant.0) in
    (fits, more_alike c.args.bytes.now len (len + 32 - len) (slice_index c.args.bytes.now 0) (omega arith) fits c.loop-len.invariant.1 (c.are_all.ensures c.if-are_all.true))
