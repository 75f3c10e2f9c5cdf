use Rattle.std.proofs.Common.{◌≡◌, ◌∙◌, Some, refl, false, ap, nat_eq}
use Rattle.pl_model.specs.State.{empty_packet_pipe}
use Rattle.pl_model.specs.Map.{set_at}
use Rattle.pl_segments.specs.Segments.{segment_at, at}
use Rattle.pl_segments.specs.Slices.{all_read}
use Rattle.slab.specs.Slab.{Slab}
use Rattle.pl_ring.specs.Merging.{lens}
use Rattle.pl_packets.specs.Packets.{PacketRing}
use Rattle.pl_nodes.specs.declared.content.Content.TheVariants.{Pipe}
use Rattle.pl_nodes.specs.declared.queue.Queue.TheVariants.{Packets}
use Rattle.pl_nodes.specs.Nodes.{Nodes}
use Rattle.pl_nodes.proofs.OneChanged.{pipes_seen, files_seen, seen, new-seen, new-unseen}
use Rattle.pl_nodes.proofs.Coming.{came-shared, came-unnamed, came-sound, came-slots, vacant-seen}
use Rattle.pl_nodes.proofs.nodes.Nodes.make_packet_pipe.Given.{Over}
use Rattle.pl_nodes.proofs.nodes.Nodes.make_packet_pipe.Goals.{After-insert_reserved}
use Rattle.pl_nodes.proofs.nodes.Nodes.make_packet_pipe.Goals as goal

-- there is a place more, and all is as it was
module _ (g : Over) (c : After-insert_reserved g) where
  same : c.reserve.new.self.slots ≡ c.self.inside.contents.slots
  same = ap (λ (s : Slab _). s.slots) c.in_ok-reserve.ensures.rest_kept

pub returns-clause-vacant : goal.returns-clause-vacant
returns-clause-vacant g c = vacant-seen c.self.inside c.self.invariant c.reserve.new.self (same g c) c.insert_reserved.result c.insert_reserved.ensures.was_vacant c.args.self.now c.self.view_is

pub invariant_of-self-2 : goal.invariant_of-self-2
invariant_of-self-2 g c =
    let k = c.self.inside in
    let new = Pipe (record { queue = Packets c.in_ok-ring.ring; hung = false; named = false }) in
    let empty = ap (λ (r : PacketRing). r.slots) c.in_ok-ring.ensures in
    let u = c.insert_reserved.ensures.updates in
    came-sound k c.self.invariant c.reserve.new.self c.insert_reserved.new.self (same g c) c.insert_reserved.result new c.insert_reserved.ensures.was_vacant empty u
    k.names (came-unnamed k c.self.invariant c.reserve.new.self c.insert_reserved.new.self (same g c) c.insert_reserved.result new c.insert_reserved.ensures.was_vacant empty u (refl, refl)) refl c.comes.new.self

pub returns-clause-ok : goal.returns-clause-ok
returns-clause-ok g c =
    let k = c.self.inside in
    let m = segment_at k.store in
    let new = Pipe (record { queue = Packets c.in_ok-ring.ring; hung = false; named = false }) in
    let empty = ap (λ (r : PacketRing). r.slots) c.in_ok-ring.ensures in
    let u = c.insert_reserved.ensures.updates in
    new-seen m c.reserve.new.self c.insert_reserved.new.self c.insert_reserved.result new
    c.insert_reserved.ensures.was_vacant (came-shared k c.self.invariant c.reserve.new.self c.insert_reserved.new.self (same g c) c.insert_reserved.result new c.insert_reserved.ensures.was_vacant empty u) empty u pipes_seen
    ∙ ap (λ (r : PacketRing). set_at nat_eq (seen pipes_seen m c.reserve.new.self.slots) c.insert_reserved.result (Some (record { bytes = all_read m r.slots; packets = Some (lens r.slots); capacity = r.capacity; hung = false }))) c.in_ok-ring.ensures
    ∙ ap (λ cs. set_at nat_eq (seen pipes_seen m cs) c.insert_reserved.result (Some empty_packet_pipe)) (same g c)
    ∙ ap (λ (v : Nodes). set_at nat_eq (at v.pipes) c.insert_reserved.result (Some empty_packet_pipe)) c.self.view_is

pub returns-clause-files : goal.returns-clause-files
returns-clause-files g c =
    let k = c.self.inside in
    let m = segment_at k.store in
    let new = Pipe (record { queue = Packets c.in_ok-ring.ring; hung = false; named = false }) in
    let empty = ap (λ (r : PacketRing). r.slots) c.in_ok-ring.ensures in
    let u = c.insert_reserved.ensures.updates in
    new-unseen m c.reserve.new.self c.insert_reserved.new.self c.insert_reserved.result new
    c.insert_reserved.ensures.was_vacant (came-shared k c.self.invariant c.reserve.new.self c.insert_reserved.new.self (same g c) c.insert_reserved.result new c.insert_reserved.ensures.was_vacant empty u) empty u files_seen refl
    ∙ ap (λ cs. seen files_seen m cs) (same g c)
    ∙ ap (λ (v : Nodes). at v.files) c.self.view_is

pub returns-clause-slots : goal.returns-clause-slots
returns-clause-slots g c =
    came-slots c.self.inside c.self.invariant c.reserve.new.self c.insert_reserved.new.self (same g c) c.insert_reserved.result (Pipe (record { queue = Packets c.in_ok-ring.ring; hung = false; named = false }))
    c.insert_reserved.ensures.was_vacant (ap (λ (r : PacketRing). r.slots) c.in_ok-ring.ensures) c.insert_reserved.ensures.updates c.args.self.now c.self.view_is
