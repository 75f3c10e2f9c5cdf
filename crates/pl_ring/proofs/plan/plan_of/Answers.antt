use Rattle.std.proofs.Common.{arith}
use Rattle.pl_segments.proofs.SlotLemmas.{last-total}
use Rattle.pl_ring.proofs.plan.plan_of.Goals as goal

pub plan_after-requires : goal.plan_after-requires
plan_after-requires g c =
    let last = last-total c.args.slots.now.items in
    omega (arith, last, c.len.ensures.len, c.len.ensures.within.0, c.last_len.ensures, c.requires.ring.fits, c.requires.most)
