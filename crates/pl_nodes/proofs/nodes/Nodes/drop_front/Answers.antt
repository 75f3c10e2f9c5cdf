use Rattle.std.proofs.Common.{refl, ◌≡◌, ◌≤◌, ◌∙◌, ap, subst, length, set, sym, List, None, arith}
use Rattle.std.specs.Prelude.{is_some, option_map}
use Rattle.pl_model.specs.Packets.{without_front, lose}
use Rattle.pl_segments.specs.declared.slice.Slice.{Slice}
use Rattle.pl_segments.specs.Segments.{live_count, trimmed}
use Rattle.pl_segments.specs.Slots.{drop_bytes}
use Rattle.pl_segments.specs.Slices.{naming}
use Rattle.pl_segments.specs.Sharing.{slots_at}
use Rattle.pl_nodes.specs.declared.content.Content.TheVariants.{Pipe}
use Rattle.pl_nodes.specs.Nodes.{Nodes}
use Rattle.pl_nodes.specs.NodesView.{lists}
use Rattle.pl_nodes.specs.Queue.{slots_of}
use Rattle.pl_nodes.proofs.Lists.{lists-set}
use Rattle.pl_nodes.proofs.Slices.{naming-drop, fewer-segments}
use Rattle.pl_nodes.proofs.AtKey.{pipe-there, held, still-sound, slots-flat}
use Rattle.pl_nodes.proofs.Pipes.{pipe-total, pipe-told, pipe-done, pipe-files}
use Rattle.pl_nodes.proofs.nodes.Nodes.drop_front.Goals.{After-as_pipe_mut}
use Rattle.pl_nodes.proofs.nodes.Nodes.drop_front.Goals as goal

pub drop_front-requires-clause-bytes : goal.drop_front-requires-clause-bytes
drop_front-requires-clause-bytes g c =
    let node = c.in-Some.node.now in
    let there = pipe-there c.self.inside.contents.slots c.args.key c.index_mut.result.now c.in-Some.node.now c.index_mut.ensures.value c.in-Some.ensures.value in
    pipe-told c.self.inside c.args.key node there c.self.invariant c.args.self.now c.self.view_is (λ x. x.packets ≡ None) c.requires.plain.bytes

pub drop_front-requires-clause-held : goal.drop_front-requires-clause-held
drop_front-requires-clause-held g c = held c.self.inside c.args.key (Pipe c.in-Some.node.now) (pipe-there c.self.inside.contents.slots c.args.key c.index_mut.result.now c.in-Some.node.now c.index_mut.ensures.value c.in-Some.ensures.value) c.self.invariant

pub drop_front-requires-clause-count : goal.drop_front-requires-clause-count
drop_front-requires-clause-count g c =
    let node = c.in-Some.node.now in
    let there = pipe-there c.self.inside.contents.slots c.args.key c.index_mut.result.now c.in-Some.node.now c.index_mut.ensures.value c.in-Some.ensures.value in
    let asked = pipe-told c.self.inside c.args.key node there c.self.invariant c.args.self.now c.self.view_is (λ x. c.args.count ≤ length x.bytes) c.requires.held in
    let total = pipe-total c.self.inside c.args.key node there c.self.invariant c.args.self.now c.self.view_is in
    omega (arith, asked, total)

pub invariant_of-self : goal.invariant_of-self
invariant_of-self g c =
    let node = c.in-Some.node.now in
    let there = pipe-there c.self.inside.contents.slots c.args.key c.index_mut.result.now c.in-Some.node.now c.index_mut.ensures.value c.in-Some.ensures.value in
    rw (c.trim.ensures) (still-sound c.self.inside c.args.key (Pipe node) there c.self.invariant (trimmed c.self.inside.limits.spare_max c.drop_front.new.store) (Pipe (record node { queue = c.drop_front.new.self })) c.drop_front.ensures.turns
    (omega (arith, c.slots-slots.ensures.value, c.slots-slots.ensures.few)) (refl, refl) (ap is_some (c.drop_front.ensures.bytes ∙ sym (pipe-told c.self.inside c.args.key node there c.self.invariant c.args.self.now c.self.view_is (λ x. x.packets ≡ None) c.requires.plain.bytes))) (omega arith))

pub returns-clause-ok : goal.returns-clause-ok
returns-clause-ok g c =
    let done = c.drop_front.ensures in
    let node = c.in-Some.node.now in
    let there = pipe-there c.self.inside.contents.slots c.args.key c.index_mut.result.now c.in-Some.node.now c.index_mut.ensures.value c.in-Some.ensures.value in
    rw (c.trim.ensures) (pipe-done c.self.inside c.args.key node there c.self.invariant c.args.self.now c.self.view_is (trimmed c.self.inside.limits.spare_max c.drop_front.new.store) (record node { queue = c.drop_front.new.self }) done.turns
    (lose c.args.count)
    (λ i. record { bytes = done.read i; packets = (done.bytes ∙ sym (ap (option_map (without_front c.args.count)) (pipe-told c.self.inside c.args.key node there c.self.invariant c.args.self.now c.self.view_is (λ x. x.packets ≡ None) c.requires.plain.bytes))) i; capacity = done.capacity i; hung = node.hung }))

pub returns-clause-files : goal.returns-clause-files
returns-clause-files g c =
    let node = c.in-Some.node.now in
    let there = pipe-there c.self.inside.contents.slots c.args.key c.index_mut.result.now c.in-Some.node.now c.index_mut.ensures.value c.in-Some.ensures.value in
    rw (c.trim.ensures) (pipe-files c.self.inside c.args.key node there c.self.invariant c.args.self.now c.self.view_is (trimmed c.self.inside.limits.spare_max c.drop_front.new.store) (record node { queue = c.drop_front.new.self }) c.drop_front.ensures.turns)

pub returns-clause-slots : goal.returns-clause-slots
returns-clause-slots g c =
    let k = c.self.inside in
    let node = c.in-Some.node.now in
    let there = pipe-there k.contents.slots c.args.key c.index_mut.result.now node c.index_mut.ensures.value c.in-Some.ensures.value in
    lists-set k.contents.slots c.args.key _
    ∙ ap (set (lists k.contents.slots) c.args.key) (c.drop_front.ensures.slots ∙ ap (drop_bytes c.args.count) (sym (slots-flat k c.args.key (Pipe node) there c.self.invariant c.args.self.now c.self.view_is)))
    ∙ ap (λ (v : Nodes). set v.slots c.args.key (drop_bytes c.args.count (slots_at c.args.self.now.slots c.args.key))) c.self.view_is

pub returns-clause-segments : goal.returns-clause-segments
returns-clause-segments g c =
    let k = c.self.inside in
    let node = c.in-Some.node.now in
    let done = c.drop_front.ensures in
    let fewer = fewer-segments k.store.held (trimmed c.self.inside.limits.spare_max c.drop_front.new.store).held (slots_of node.queue) (slots_of c.drop_front.new.self) c.in_use-segments.ensures.good done.turns
    (λ key. subst (λ (ys : List Slice). naming ys key ≤ naming (slots_of node.queue) key) (sym done.slots) (naming-drop c.args.count (slots_of node.queue) key)) in
    let seen : live_count k.store.held ≡ c.args.self.now.segments = ap (λ (v : Nodes). v.segments) c.self.view_is in
    rw (c.trim.ensures) (omega (arith, fewer, seen))
