use Rattle.std.proofs.Common.{◌∙◌, ap, sym, arith}
use Rattle.std.specs.Option.{option_copied}
use Rattle.pl_packets.proofs.Cutting.{first-fit, first-len}
use Rattle.pl_packets.proofs.ring.PacketRing.front.Goals as goal

pub returns-in-Some-clause-most : goal.returns-in-Some-clause-most
returns-in-Some-clause-most g c =
    let l = first-fit c.self.inside.slots.items c.self.invariant.packets.fit in
    let e = first-len c.self.inside.slots.items c.in-Some.slot.now (sym c.front.ensures ∙ ap option_copied c.in-Some.is) in
    omega (arith, l, e)
