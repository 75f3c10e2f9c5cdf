use Rattle.std.proofs.Common.{arith}
use Rattle.pl_file.proofs.Placed.{length-slots}
use Rattle.pl_file.proofs.row.Row.reserve.Goals as goal

pub returns-clause-room : goal.returns-clause-room
returns-clause-room g c =
    let n = length-slots c.try_reserve.new.self.items in
    let ok = c.in_ok-try_reserve.ensures.ok in
    let len = c.in_ok-try_reserve.ensures.len in
    omega (arith, n, ok, len)
