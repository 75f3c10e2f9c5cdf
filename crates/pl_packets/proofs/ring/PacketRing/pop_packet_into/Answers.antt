use Rattle.std.proofs.Common.{◌≡◌, ◌∙◌, Some, ap, sym, subst, drop}
use Rattle.std.specs.Prelude.{slice_get}
use Rattle.pl_segments.specs.Segments.{segment_at}
use Rattle.pl_segments.specs.Slices.{all_read}
use Rattle.pl_segments.specs.Turns.{Turns}
use Rattle.pl_packets.specs.Packets.{PacketRing}
use Rattle.pl_packets.proofs.Cutting.{first-turns, first-read}
use Rattle.pl_packets.proofs.ring.PacketRing.pop_packet_into.Given.{Over}
use Rattle.pl_packets.proofs.ring.PacketRing.pop_packet_into.Goals.{After-read_out}
use Rattle.pl_packets.proofs.ring.PacketRing.pop_packet_into.Goals as goal

module _ (g : Over) (c : After-read_out g) where
  got : slice_get c.args.self.now.slots 0 ≡ Some c.unwrap-first.result
  got = ap (λ (r : PacketRing). slice_get r.slots 0) (sym c.self.view_is) ∙ sym c.pop_front.ensures.value ∙ c.unwrap-first.ensures

  left : c.pop_front.new.self.items ≡ drop 1 c.args.self.now.slots
  left = (λ i. (c.pop_front.ensures.items i).items) ∙ ap (λ (r : PacketRing). drop 1 r.slots) c.self.view_is

pub returns-clause-read : goal.returns-clause-read
returns-clause-read g c =
    let k = (goal.at.returns-clause-read g c).After-read_out in
    ap (all_read (segment_at c.read_out.new.self)) (left g k)
    ∙ first-read (segment_at c.args.store.now) (segment_at c.read_out.new.self) c.args.self.now.slots c.unwrap-first.result (got g k) c.requires.held c.read_out.ensures.turns

pub returns-clause-turns : goal.returns-clause-turns
returns-clause-turns g c =
    let k = (goal.at.returns-clause-turns g c).After-read_out in
    subst (Turns (segment_at c.args.store.now) c.args.self.now.slots (segment_at c.read_out.new.self)) (sym (left g k))
    (first-turns (segment_at c.args.store.now) (segment_at c.read_out.new.self) c.args.self.now.slots c.unwrap-first.result (got g k) c.requires.held c.read_out.ensures.turns)
