use Rattle.std.proofs.Common.{refl, ◌≤◌, ◌-◌, ◌∙◌, ap, sym, subst, length, arith}
use Rattle.std.specs.Prelude.{is_some}
use Rattle.pl_model.specs.Packets.{used_of, gain}
use Rattle.pl_model.specs.Transfer.{room}
use Rattle.pl_segments.specs.Segments.{Segments, trimmed}
use Rattle.pl_nodes.specs.declared.content.Content.TheVariants.{Pipe}
use Rattle.pl_nodes.specs.Queue.{capacity_of, packets_of}
use Rattle.pl_nodes.proofs.Keyed.{on_err}
use Rattle.pl_nodes.proofs.AtKey.{pipe-there, held, still-sound, refused-sound, refused-seen}
use Rattle.pl_nodes.proofs.Pipes.{pipe-total, pipe-told, pipe-done, pipe-files, pipe-refused}
use Rattle.pl_nodes.proofs.Queues.{mapped}
use Rattle.pl_nodes.proofs.nodes.Nodes.write_pipe.Goals as goal

pub push-requires-clause-held : goal.push-requires-clause-held
push-requires-clause-held g c = held c.self.inside c.args.key (Pipe c.in-Some.node.now) (pipe-there c.self.inside.contents.slots c.args.key c.index_mut.result.now c.in-Some.node.now c.index_mut.ensures.value c.in-Some.ensures.value) c.self.invariant

pub push-requires-clause-room : goal.push-requires-clause-room
push-requires-clause-room g c =
    let node = c.in-Some.node.now in
    let there = pipe-there c.self.inside.contents.slots c.args.key c.index_mut.result.now c.in-Some.node.now c.index_mut.ensures.value c.in-Some.ensures.value in
    let asked = pipe-told c.self.inside c.args.key node there c.self.invariant c.args.self.now c.self.view_is (λ x. length c.args.bytes.now ≤ room x) c.requires.room in
    let total = pipe-total c.self.inside c.args.key node there c.self.invariant c.args.self.now c.self.view_is in
    subst (λ n. length c.args.bytes.now ≤ capacity_of node.queue - used_of (packets_of node.queue) n) (sym total) asked

pub invariant_of-self : goal.invariant_of-self
invariant_of-self g c =
    let refused = c.in_err-push.ensures in
    let node = c.in-Some.node.now in
    let there = pipe-there c.self.inside.contents.slots c.args.key c.index_mut.result.now c.in-Some.node.now c.index_mut.ensures.value c.in-Some.ensures.value in
    refused-sound c.self.inside c.args.key (Pipe node) there c.self.invariant c.push.new.store (ap (λ (s : Segments). s.held) refused.unchanged.1)
    (Pipe (record node { queue = c.push.new.self })) (λ i. Pipe (record node { queue = refused.unchanged.0 i })) (subst (λ (s : Segments). s.room ≤ c.self.inside.limits.spare_max) (sym refused.unchanged.1) c.self.invariant.spare)

pub returns-in_err-push-clause-files : goal.returns-in_err-push-clause-files
returns-in_err-push-clause-files g c =
    let refused = c.in_err-push.ensures in
    let node = c.in-Some.node.now in
    let there = pipe-there c.self.inside.contents.slots c.args.key c.index_mut.result.now c.in-Some.node.now c.index_mut.ensures.value c.in-Some.ensures.value in
    pipe-refused c.self.inside c.args.key node there c.self.invariant c.args.self.now c.self.view_is c.push.new.store (ap (λ (s : Segments). s.held) refused.unchanged.1)
    (record node { queue = c.push.new.self }) (λ i. record node { queue = refused.unchanged.0 i })

pub returns-in_err-push-clause-unchanged : goal.returns-in_err-push-clause-unchanged
returns-in_err-push-clause-unchanged g c =
    let refused = c.in_err-push.ensures in
    let node = c.in-Some.node.now in
    let there = pipe-there c.self.inside.contents.slots c.args.key c.index_mut.result.now c.in-Some.node.now c.index_mut.ensures.value c.in-Some.ensures.value in
    on_err c.from_residual.result _
    (refused-seen c.self.inside c.args.key (Pipe node) there c.self.invariant c.push.new.store (ap (λ (s : Segments). s.held) refused.unchanged.1)
    (Pipe (record node { queue = c.push.new.self })) (λ i. Pipe (record node { queue = refused.unchanged.0 i })) ∙ c.self.view_is)

pub invariant_of-self-2 : goal.invariant_of-self-2
invariant_of-self-2 g c =
    let node = c.in-Some.node.now in
    let there = pipe-there c.self.inside.contents.slots c.args.key c.index_mut.result.now c.in-Some.node.now c.index_mut.ensures.value c.in-Some.ensures.value in
    rw (c.trim.ensures) (still-sound c.self.inside c.args.key (Pipe node) there c.self.invariant (trimmed c.self.inside.limits.spare_max c.push.new.store) (Pipe (record node { queue = c.push.new.self })) c.in_ok-push.ensures.gains.turns
    (omega (arith, c.slots-slots.ensures.value, c.slots-slots.ensures.few)) (refl, refl) (ap is_some c.in_ok-push.ensures.packets ∙ mapped _ (packets_of node.queue)) (omega arith))

pub returns-clause-ok : goal.returns-clause-ok
returns-clause-ok g c =
    let done = c.in_ok-push.ensures in
    let node = c.in-Some.node.now in
    let there = pipe-there c.self.inside.contents.slots c.args.key c.index_mut.result.now c.in-Some.node.now c.index_mut.ensures.value c.in-Some.ensures.value in
    rw (c.trim.ensures) (pipe-done c.self.inside c.args.key node there c.self.invariant c.args.self.now c.self.view_is (trimmed c.self.inside.limits.spare_max c.push.new.store) (record node { queue = c.push.new.self }) done.gains.turns
    (gain c.args.bytes.now) (λ i. record { bytes = done.gains.read i; packets = done.packets i; capacity = done.capacity i; hung = node.hung }))

pub returns-clause-files : goal.returns-clause-files
returns-clause-files g c =
    let node = c.in-Some.node.now in
    let there = pipe-there c.self.inside.contents.slots c.args.key c.index_mut.result.now c.in-Some.node.now c.index_mut.ensures.value c.in-Some.ensures.value in
    rw (c.trim.ensures) (pipe-files c.self.inside c.args.key node there c.self.invariant c.args.self.now c.self.view_is (trimmed c.self.inside.limits.spare_max c.push.new.store) (record node { queue = c.push.new.self }) c.in_ok-push.ensures.gains.turns)
