use Rattle.std.proofs.Common.{refl, ◌≤◌, ◌∙◌, ap, sym, subst, length, arith}
use Rattle.std.specs.Prelude.{is_some}
use Rattle.pl_model.specs.Packets.{front, front_of, spent, lose}
use Rattle.pl_segments.specs.Segments.{trimmed}
use Rattle.pl_nodes.specs.declared.content.Content.TheVariants.{Pipe}
use Rattle.pl_nodes.specs.Queue.{packets_of}
use Rattle.pl_nodes.proofs.AtKey.{pipe-there, held, still-sound}
use Rattle.pl_nodes.proofs.Pipes.{pipe-total, pipe-told, pipe-told-as, pipe-done, pipe-files}
use Rattle.pl_nodes.proofs.Queues.{mapped, front-within}
use Rattle.pl_nodes.proofs.nodes.Nodes.read_pipe_into.Goals as goal

pub pop_into-requires-clause-held : goal.pop_into-requires-clause-held
pop_into-requires-clause-held g c = held c.self.inside c.args.key (Pipe c.in-Some.node.now) (pipe-there c.self.inside.contents.slots c.args.key c.index_mut.result.now c.in-Some.node.now c.index_mut.ensures.value c.in-Some.ensures.value) c.self.invariant

pub pop_into-requires-clause-count : goal.pop_into-requires-clause-count
pop_into-requires-clause-count g c =
    let node = c.in-Some.node.now in
    let there = pipe-there c.self.inside.contents.slots c.args.key c.index_mut.result.now c.in-Some.node.now c.index_mut.ensures.value c.in-Some.ensures.value in
    let asked = pipe-told c.self.inside c.args.key node there c.self.invariant c.args.self.now c.self.view_is (λ x. length c.args.into.now ≤ front x) c.requires.held in
    let total = pipe-total c.self.inside c.args.key node there c.self.invariant c.args.self.now c.self.view_is in
    subst (λ n. length c.args.into.now ≤ front_of (packets_of node.queue) n) (sym total) asked

pub invariant_of-self : goal.invariant_of-self
invariant_of-self g c =
    let node = c.in-Some.node.now in
    let there = pipe-there c.self.inside.contents.slots c.args.key c.index_mut.result.now c.in-Some.node.now c.index_mut.ensures.value c.in-Some.ensures.value in
    rw (c.trim.ensures) (still-sound c.self.inside c.args.key (Pipe node) there c.self.invariant (trimmed c.self.inside.limits.spare_max c.pop_into.new.store) (Pipe (record node { queue = c.pop_into.new.self })) c.pop_into.ensures.turns
    (omega (arith, c.slots-slots.ensures.value, c.slots-slots.ensures.few)) (refl, refl) (ap is_some c.pop_into.ensures.packets ∙ mapped _ (packets_of node.queue)) (omega arith))

pub returns-clause-ok : goal.returns-clause-ok
returns-clause-ok g c =
    let done = c.pop_into.ensures in
    let node = c.in-Some.node.now in
    let there = pipe-there c.self.inside.contents.slots c.args.key c.index_mut.result.now c.in-Some.node.now c.index_mut.ensures.value c.in-Some.ensures.value in
    rw (c.trim.ensures) (pipe-done c.self.inside c.args.key node there c.self.invariant c.args.self.now c.self.view_is (trimmed c.self.inside.limits.spare_max c.pop_into.new.store) (record node { queue = c.pop_into.new.self }) done.turns
    (λ x. lose (spent x (length c.args.into.now)) x) (λ i. record { bytes = done.read i; packets = done.packets i; capacity = done.capacity i; hung = node.hung }))

pub returns-clause-files : goal.returns-clause-files
returns-clause-files g c =
    let node = c.in-Some.node.now in
    let there = pipe-there c.self.inside.contents.slots c.args.key c.index_mut.result.now c.in-Some.node.now c.index_mut.ensures.value c.in-Some.ensures.value in
    rw (c.trim.ensures) (pipe-files c.self.inside c.args.key node there c.self.invariant c.args.self.now c.self.view_is (trimmed c.self.inside.limits.spare_max c.pop_into.new.store) (record node { queue = c.pop_into.new.self }) c.pop_into.ensures.turns)

pub returns-clause-within : goal.returns-clause-within
returns-clause-within g c =
    let node = c.in-Some.node.now in
    let there = pipe-there c.self.inside.contents.slots c.args.key c.index_mut.result.now c.in-Some.node.now c.index_mut.ensures.value c.in-Some.ensures.value in
    let total = pipe-total c.self.inside c.args.key node there c.self.invariant c.args.self.now c.self.view_is in
    let few = front-within node.queue in
    pipe-told-as c.self.inside c.args.key node there c.self.invariant c.args.self.now c.self.view_is (λ x. length c.args.into.now ≤ front x) (λ x. length c.args.into.now ≤ length x.bytes)
    (λ asked. let held = subst (λ n. length c.args.into.now ≤ front_of (packets_of node.queue) n) (sym total) asked in omega (arith, held, few, total)) c.requires.held
