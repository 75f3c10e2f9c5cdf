use Rattle.std.proofs.Common.{refl}
use Rattle.pl_segments.specs.Segments.{segment_at}
use Rattle.pl_segments.proofs.Turning.{turns-same}
use Rattle.pl_nodes.specs.declared.content.Content.TheVariants.{Pipe}
use Rattle.pl_nodes.specs.Queue.{slots_of}
use Rattle.pl_nodes.proofs.AtKey.{pipe-there, held, still-sound, still-memory, slots-short}
use Rattle.pl_nodes.proofs.Pipes.{pipe-done, pipe-files}
use Rattle.pl_nodes.proofs.nodes.Nodes.set_hung.Goals as goal

pub invariant_of-self : goal.invariant_of-self
invariant_of-self g c =
    let k = c.self.inside in
    let m = segment_at k.store in
    let node = c.in-Some.node.now in
    let there = pipe-there k.contents.slots c.args.key c.index_mut.result.now node c.index_mut.ensures.value c.in-Some.ensures.value in
    still-sound k c.args.key (Pipe node) there c.self.invariant k.store (Pipe (record node { hung = c.args.hung }))
    (turns-same m (slots_of node.queue) (held k c.args.key (Pipe node) there c.self.invariant).lie) (slots-short k c.args.key (Pipe node) there c.self.invariant) (refl, refl) refl c.self.invariant.spare

pub returns-clause-ok : goal.returns-clause-ok
returns-clause-ok g c =
    let k = c.self.inside in
    let m = segment_at k.store in
    let node = c.in-Some.node.now in
    let there = pipe-there k.contents.slots c.args.key c.index_mut.result.now node c.index_mut.ensures.value c.in-Some.ensures.value in
    pipe-done k c.args.key node there c.self.invariant c.args.self.now c.self.view_is k.store (record node { hung = c.args.hung })
    (turns-same m (slots_of node.queue) (held k c.args.key (Pipe node) there c.self.invariant).lie) (λ x. record x { hung = c.args.hung }) refl

pub returns-clause-files : goal.returns-clause-files
returns-clause-files g c =
    let k = c.self.inside in
    let m = segment_at k.store in
    let node = c.in-Some.node.now in
    let there = pipe-there k.contents.slots c.args.key c.index_mut.result.now node c.index_mut.ensures.value c.in-Some.ensures.value in
    pipe-files k c.args.key node there c.self.invariant c.args.self.now c.self.view_is k.store (record node { hung = c.args.hung })
    (turns-same m (slots_of node.queue) (held k c.args.key (Pipe node) there c.self.invariant).lie)

pub returns-clause-memory : goal.returns-clause-memory
returns-clause-memory g c =
    let k = c.self.inside in
    let node = c.in-Some.node.now in
    let there = pipe-there k.contents.slots c.args.key c.index_mut.result.now node c.index_mut.ensures.value c.in-Some.ensures.value in
    still-memory k c.args.key (Pipe node) there c.self.invariant (Pipe (record node { hung = c.args.hung })) refl c.args.self.now c.self.view_is
