use Rattle.std.proofs.Common.{refl, ◌≡◌, ◌∙◌, None, false, ap, sym, length, arith}
use Rattle.std.specs.Prelude.{is_some}
use Rattle.pl_model.specs.State.{empty_pipe}
use Rattle.pl_segments.specs.Segments.{segment_at, trimmed}
use Rattle.pl_segments.specs.Slices.{all_read}
use Rattle.pl_nodes.specs.declared.content.Content.TheVariants.{Pipe}
use Rattle.pl_nodes.specs.Queue.{slots_of}
use Rattle.pl_nodes.proofs.AtKey.{pipe-there, held, still-sound, emptied-shrinks}
use Rattle.pl_nodes.proofs.Slices.{none-left}
use Rattle.pl_nodes.proofs.Pipes.{pipe-told, pipe-done, pipe-files}
use Rattle.pl_nodes.proofs.Files.{became-none}
use Rattle.pl_nodes.proofs.nodes.Nodes.reset_pipe.Goals as goal

pub reset-requires-clause-bytes : goal.reset-requires-clause-bytes
reset-requires-clause-bytes g c =
    let k = c.self.inside in
    let node = c.in-Some.node.now in
    let there = pipe-there k.contents.slots c.args.key c.index_mut.result.now node c.index_mut.ensures.value c.in-Some.ensures.value in
    pipe-told k c.args.key node there c.self.invariant c.args.self.now c.self.view_is (λ x. x.packets ≡ None) c.requires.bytes

pub reset-requires-clause-held : goal.reset-requires-clause-held
reset-requires-clause-held g c = held c.self.inside c.args.key (Pipe c.in-Some.node.now) (pipe-there c.self.inside.contents.slots c.args.key c.index_mut.result.now c.in-Some.node.now c.index_mut.ensures.value c.in-Some.ensures.value) c.self.invariant

pub invariant_of-self : goal.invariant_of-self
invariant_of-self g c =
    let k = c.self.inside in
    let node = c.in-Some.node.now in
    let there = pipe-there k.contents.slots c.args.key c.index_mut.result.now node c.index_mut.ensures.value c.in-Some.ensures.value in
    let none = ap length c.reset.ensures.slots in
    rw (c.trim.ensures) (still-sound k c.args.key (Pipe node) there c.self.invariant (trimmed c.self.inside.limits.spare_max c.reset.new.store) (Pipe (record node { queue = c.reset.new.self; hung = false }))
    (became-none (segment_at k.store) (slots_of node.queue) (segment_at (trimmed c.self.inside.limits.spare_max c.reset.new.store)) (slots_of c.reset.new.self) c.reset.ensures.slots c.reset.ensures.turns) (omega (arith, none)) (refl, refl) (ap is_some (c.reset.ensures.bytes ∙ sym (pipe-told k c.args.key node there c.self.invariant c.args.self.now c.self.view_is (λ x. x.packets ≡ None) c.requires.bytes))) (omega arith))

pub returns-clause-ok : goal.returns-clause-ok
returns-clause-ok g c =
    let k = c.self.inside in
    let node = c.in-Some.node.now in
    let there = pipe-there k.contents.slots c.args.key c.index_mut.result.now node c.index_mut.ensures.value c.in-Some.ensures.value in
    rw (c.trim.ensures) (pipe-done k c.args.key node there c.self.invariant c.args.self.now c.self.view_is (trimmed c.self.inside.limits.spare_max c.reset.new.store) (record node { queue = c.reset.new.self; hung = false })
    (became-none (segment_at k.store) (slots_of node.queue) (segment_at (trimmed c.self.inside.limits.spare_max c.reset.new.store)) (slots_of c.reset.new.self) c.reset.ensures.slots c.reset.ensures.turns)
    (λ x. empty_pipe) (λ i. record { bytes = all_read (segment_at (trimmed c.self.inside.limits.spare_max c.reset.new.store)) (c.reset.ensures.slots i); packets = c.reset.ensures.bytes i; capacity = c.reset.ensures.capacity i; hung = false }))

pub returns-clause-files : goal.returns-clause-files
returns-clause-files g c =
    let k = c.self.inside in
    let node = c.in-Some.node.now in
    let there = pipe-there k.contents.slots c.args.key c.index_mut.result.now node c.index_mut.ensures.value c.in-Some.ensures.value in
    rw (c.trim.ensures) (pipe-files k c.args.key node there c.self.invariant c.args.self.now c.self.view_is (trimmed c.self.inside.limits.spare_max c.reset.new.store) (record node { queue = c.reset.new.self; hung = false })
    (became-none (segment_at k.store) (slots_of node.queue) (segment_at (trimmed c.self.inside.limits.spare_max c.reset.new.store)) (slots_of c.reset.new.self) c.reset.ensures.slots c.reset.ensures.turns))

pub returns-clause-shrinks : goal.returns-clause-shrinks
returns-clause-shrinks g c =
    let k = c.self.inside in
    let node = c.in-Some.node.now in
    let there = pipe-there k.contents.slots c.args.key c.index_mut.result.now node c.index_mut.ensures.value c.in-Some.ensures.value in
    rw (c.trim.ensures) (emptied-shrinks k c.args.key (Pipe node) there c.self.invariant (trimmed c.self.inside.limits.spare_max c.reset.new.store) (Pipe (record node { queue = c.reset.new.self; hung = false }))
    c.reset.ensures.slots (none-left k.store.held (trimmed c.self.inside.limits.spare_max c.reset.new.store).held (slots_of node.queue) c.in_use-segments.ensures.good c.reset.ensures.turns) c.args.self.now c.self.view_is)
