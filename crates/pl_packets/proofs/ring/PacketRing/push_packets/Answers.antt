use Rattle.std.proofs.Common.{◌*◌, ap, sym, subst, length, arith}
use Rattle.pl_segments.specs.Segments.{segment_at}
use Rattle.pl_segments.specs.Slices.{AllLie}
use Rattle.pl_ring.specs.Ring.{IsCapacity}
use Rattle.pl_segments.proofs.Pushing.{total-pushed}
use Rattle.pl_packets.specs.Packets.{packet_size, PacketRing}
use Rattle.pl_packets.proofs.Cutting.{total-fit}
use Rattle.pl_packets.proofs.ring.PacketRing.push_packets.Goals as goal

pub overflow_add-self : goal.overflow_add-self
overflow_add-self g c =
    let inv = c.self.invariant in
    let t = total-fit c.self.inside.slots.items inv.packets.fit in
    let h = inv.held in
    let n = ap (λ (r : PacketRing). length r.slots) c.self.view_is in
    let p = ap (λ (r : PacketRing). r.capacity) c.self.view_is in
    let most = inv.range.most in
    omega (arith, t, h, n, p, most, c.requires.fits)

pub invariant_of-self-2 : goal.invariant_of-self-2
invariant_of-self-2 g c =
    let inv = c.self.invariant in
    let e = c.in_ok-push_packets.ensures in
    let m = segment_at c.args.store.now in
    let n = segment_at c.push_packets.new.store in
    let xs = c.self.inside.slots.items in
    let ys = c.push_packets.new.slots.items in
    let lie : AllLie m xs = subst (AllLie m) (sym (ap (λ (r : PacketRing). r.slots) c.self.view_is)) c.requires.held.lie in
    let t = total-pushed m n xs ys c.args.bytes.now lie e.gains.turns.lie e.gains.read in
    record {
      held = let h = inv.held in omega (arith, h, t);
      range = subst (λ k. IsCapacity (packet_size * k)) (sym e.capacity) inv.range;
      packets = e.packets;
    }
