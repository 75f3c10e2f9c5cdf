use Rattle.std.proofs.Common.{refl, ◌≤◌, ◌∙◌, ap, sym, subst, length, arith}
use Rattle.std.specs.Prelude.{is_some}
use Rattle.std.proofs.lemmas.List.{length-take}
use Rattle.pl_model.specs.Packets.{front, front_of, spent, lose}
use Rattle.pl_segments.specs.Segments.{Segments, segment_at, trimmed}
use Rattle.pl_segments.specs.Slices.{all_read}
use Rattle.pl_nodes.specs.declared.content.Content.TheVariants.{Pipe}
use Rattle.pl_nodes.specs.Queue.{slots_of, packets_of}
use Rattle.pl_nodes.proofs.Keyed.{on_err}
use Rattle.pl_nodes.proofs.AtKey.{pipe-there, held, still-sound, refused-sound, refused-seen}
use Rattle.pl_nodes.proofs.Pipes.{pipe-total, pipe-told, pipe-done, pipe-files, pipe-refused}
use Rattle.pl_nodes.proofs.Queues.{mapped}
use Rattle.pl_nodes.proofs.nodes.Nodes.read_pipe.Goals as goal

pub pop-requires-clause-held : goal.pop-requires-clause-held
pop-requires-clause-held g c = held c.self.inside c.args.key (Pipe c.in-Some.node.now) (pipe-there c.self.inside.contents.slots c.args.key c.index_mut.result.now c.in-Some.node.now c.index_mut.ensures.value c.in-Some.ensures.value) c.self.invariant

pub pop-requires-clause-count : goal.pop-requires-clause-count
pop-requires-clause-count g c =
    let node = c.in-Some.node.now in
    let there = pipe-there c.self.inside.contents.slots c.args.key c.index_mut.result.now c.in-Some.node.now c.index_mut.ensures.value c.in-Some.ensures.value in
    let asked = pipe-told c.self.inside c.args.key node there c.self.invariant c.args.self.now c.self.view_is (λ x. c.args.count ≤ front x) c.requires.held in
    let total = pipe-total c.self.inside c.args.key node there c.self.invariant c.args.self.now c.self.view_is in
    subst (λ n. c.args.count ≤ front_of (packets_of node.queue) n) (sym total) asked

pub invariant_of-self : goal.invariant_of-self
invariant_of-self g c =
    let refused = c.in_err-bytes.ensures in
    let node = c.in-Some.node.now in
    let there = pipe-there c.self.inside.contents.slots c.args.key c.index_mut.result.now c.in-Some.node.now c.index_mut.ensures.value c.in-Some.ensures.value in
    refused-sound c.self.inside c.args.key (Pipe node) there c.self.invariant c.pop.new.store (ap (λ (s : Segments). s.held) refused.unchanged.1)
    (Pipe (record node { queue = c.pop.new.self })) (λ i. Pipe (record node { queue = refused.unchanged.0 i })) (subst (λ (s : Segments). s.room ≤ c.self.inside.limits.spare_max) (sym refused.unchanged.1) c.self.invariant.spare)

pub returns-in_err-bytes-clause-files : goal.returns-in_err-bytes-clause-files
returns-in_err-bytes-clause-files g c =
    let refused = c.in_err-bytes.ensures in
    let node = c.in-Some.node.now in
    let there = pipe-there c.self.inside.contents.slots c.args.key c.index_mut.result.now c.in-Some.node.now c.index_mut.ensures.value c.in-Some.ensures.value in
    pipe-refused c.self.inside c.args.key node there c.self.invariant c.args.self.now c.self.view_is c.pop.new.store (ap (λ (s : Segments). s.held) refused.unchanged.1)
    (record node { queue = c.pop.new.self }) (λ i. record node { queue = refused.unchanged.0 i })

pub returns-in_err-bytes-clause-unchanged : goal.returns-in_err-bytes-clause-unchanged
returns-in_err-bytes-clause-unchanged g c =
    let refused = c.in_err-bytes.ensures in
    let node = c.in-Some.node.now in
    let there = pipe-there c.self.inside.contents.slots c.args.key c.index_mut.result.now c.in-Some.node.now c.index_mut.ensures.value c.in-Some.ensures.value in
    on_err c.from_residual.result _
    (refused-seen c.self.inside c.args.key (Pipe node) there c.self.invariant c.pop.new.store (ap (λ (s : Segments). s.held) refused.unchanged.1)
    (Pipe (record node { queue = c.pop.new.self })) (λ i. Pipe (record node { queue = refused.unchanged.0 i })) ∙ c.self.view_is)

pub invariant_of-self-2 : goal.invariant_of-self-2
invariant_of-self-2 g c =
    let node = c.in-Some.node.now in
    let there = pipe-there c.self.inside.contents.slots c.args.key c.index_mut.result.now c.in-Some.node.now c.index_mut.ensures.value c.in-Some.ensures.value in
    rw (c.trim.ensures) (still-sound c.self.inside c.args.key (Pipe node) there c.self.invariant (trimmed c.self.inside.limits.spare_max c.pop.new.store) (Pipe (record node { queue = c.pop.new.self })) c.in_ok-bytes.ensures.turns
    (omega (arith, c.slots-slots.ensures.value, c.slots-slots.ensures.few)) (refl, refl) (ap is_some c.in_ok-bytes.ensures.packets ∙ mapped _ (packets_of node.queue)) (omega arith))

pub returns-clause-few : goal.returns-clause-few
returns-clause-few g c =
    let node = c.in-Some.node.now in
    let there = pipe-there c.self.inside.contents.slots c.args.key c.index_mut.result.now c.in-Some.node.now c.index_mut.ensures.value c.in-Some.ensures.value in
    let total = pipe-total c.self.inside c.args.key node there c.self.invariant c.args.self.now c.self.view_is in
    let bytes = ap length c.in_ok-bytes.ensures.bytes in
    let taken = length-take c.args.count (all_read (segment_at c.self.inside.store) (slots_of node.queue)) in
    omega (arith, total, bytes, taken, c.len-held.ensures.value, c.len-held.ensures.few)

pub returns-clause-ok : goal.returns-clause-ok
returns-clause-ok g c =
    let done = c.in_ok-bytes.ensures in
    let node = c.in-Some.node.now in
    let there = pipe-there c.self.inside.contents.slots c.args.key c.index_mut.result.now c.in-Some.node.now c.index_mut.ensures.value c.in-Some.ensures.value in
    rw (c.trim.ensures) (pipe-done c.self.inside c.args.key node there c.self.invariant c.args.self.now c.self.view_is (trimmed c.self.inside.limits.spare_max c.pop.new.store) (record node { queue = c.pop.new.self }) done.turns
    (λ x. lose (spent x c.args.count) x) (λ i. record { bytes = done.read i; packets = done.packets i; capacity = done.capacity i; hung = node.hung }))

pub returns-clause-files : goal.returns-clause-files
returns-clause-files g c =
    let node = c.in-Some.node.now in
    let there = pipe-there c.self.inside.contents.slots c.args.key c.index_mut.result.now c.in-Some.node.now c.index_mut.ensures.value c.in-Some.ensures.value in
    rw (c.trim.ensures) (pipe-files c.self.inside c.args.key node there c.self.invariant c.args.self.now c.self.view_is (trimmed c.self.inside.limits.spare_max c.pop.new.store) (record node { queue = c.pop.new.self }) c.in_ok-bytes.ensures.turns)
