use Rattle.std.proofs.Common.{sym, arith}
use Rattle.pl_ring.proofs.First.{front-one}
use Rattle.pl_ring.proofs.front.front_slice.Goals as goal

pub returns : goal.returns
returns g c =
    let long = c.if-first-count.false in
    front-one c.args.slots.now.items c.in_ok-first.first.now c.args.count (sym c.in_ok-first.ensures) (omega (arith, long)) c.if-count-eq0.false
