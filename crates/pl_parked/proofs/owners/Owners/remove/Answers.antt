use Rattle.std.proofs.Common.{arith}
use Rattle.pl_parked.proofs.Rows.{row-fewer, no-row}
use Rattle.pl_parked.proofs.owners.Owners.remove.Goals as goal

pub returns-then-pid-len : goal.returns-then-pid-len
returns-then-pid-len g c =
    let l = c.if-pid-len.true in
    let n = c.len.ensures in
    let ok = c.args.self.now.rows.ok.0 in
    row-fewer c.args.self.now.rows.items c.args.pid c.args.number c.index_mut.result.now c.take-taken.new.self (omega (arith, l, n, ok)) c.index_mut.ensures.value c.take-taken.ensures.rest

pub returns-else-pid-len : goal.returns-else-pid-len
returns-else-pid-len g c =
    let l = c.if-pid-len.false in
    let n = c.len.ensures in
    let ok = c.args.self.now.rows.ok.0 in
    no-row c.args.self.now.rows.items c.args.pid c.args.number (omega (arith, l, n, ok))
