use Rattle.std.proofs.Common.{refl, [], ap, length, arith}
use Rattle.pl_segments.specs.Segments.{segment_at, trimmed}
use Rattle.pl_segments.specs.Slices.{all_read}
use Rattle.pl_nodes.specs.declared.content.Content.TheVariants.{File}
use Rattle.pl_nodes.proofs.AtKey.{file-there, held, still-sound, emptied-shrinks}
use Rattle.pl_nodes.proofs.Files.{became-none, file-done, file-pipes}
use Rattle.pl_nodes.proofs.nodes.Nodes.empty_file.Goals as goal

pub truncate-requires : goal.truncate-requires
truncate-requires g c =
    let k = c.self.inside in
    let there = file-there k.contents.slots c.args.key c.index_mut.result.now c.in-Some.node.now c.index_mut.ensures.value c.in-Some.ensures.value in
    held k c.args.key (File c.in-Some.node.now) there c.self.invariant

pub invariant_of-self : goal.invariant_of-self
invariant_of-self g c =
    let k = c.self.inside in
    let there = file-there k.contents.slots c.args.key c.index_mut.result.now c.in-Some.node.now c.index_mut.ensures.value c.in-Some.ensures.value in
    let none = ap length c.truncate.ensures.value in
    rw (c.trim.ensures) (still-sound k c.args.key (File c.in-Some.node.now) there c.self.invariant (trimmed c.self.inside.limits.spare_max c.truncate.new.store) (File (record c.in-Some.node.now { file = c.truncate.new.self })) (became-none (segment_at k.store) c.in-Some.node.now.file (segment_at (trimmed c.self.inside.limits.spare_max c.truncate.new.store)) c.truncate.new.self c.truncate.ensures.value c.truncate.ensures.turns) (omega (arith, none)) (refl, refl) refl (omega arith))

pub returns-clause-ok : goal.returns-clause-ok
returns-clause-ok g c =
    let k = c.self.inside in
    let there = file-there k.contents.slots c.args.key c.index_mut.result.now c.in-Some.node.now c.index_mut.ensures.value c.in-Some.ensures.value in
    rw (c.trim.ensures) (file-done k c.args.key c.in-Some.node.now there c.self.invariant c.args.self.now c.self.view_is (trimmed c.self.inside.limits.spare_max c.truncate.new.store) (record c.in-Some.node.now { file = c.truncate.new.self }) (became-none (segment_at k.store) c.in-Some.node.now.file (segment_at (trimmed c.self.inside.limits.spare_max c.truncate.new.store)) c.truncate.new.self c.truncate.ensures.value c.truncate.ensures.turns)
    (λ bytes. []) (ap (all_read (segment_at (trimmed c.self.inside.limits.spare_max c.truncate.new.store))) c.truncate.ensures.value))

pub returns-clause-pipes : goal.returns-clause-pipes
returns-clause-pipes g c =
    let k = c.self.inside in
    let there = file-there k.contents.slots c.args.key c.index_mut.result.now c.in-Some.node.now c.index_mut.ensures.value c.in-Some.ensures.value in
    rw (c.trim.ensures) (file-pipes k c.args.key c.in-Some.node.now there c.self.invariant c.args.self.now c.self.view_is (trimmed c.self.inside.limits.spare_max c.truncate.new.store) (record c.in-Some.node.now { file = c.truncate.new.self }) (became-none (segment_at k.store) c.in-Some.node.now.file (segment_at (trimmed c.self.inside.limits.spare_max c.truncate.new.store)) c.truncate.new.self c.truncate.ensures.value c.truncate.ensures.turns))

pub returns-clause-shrinks : goal.returns-clause-shrinks
returns-clause-shrinks g c =
    let k = c.self.inside in
    let there = file-there k.contents.slots c.args.key c.index_mut.result.now c.in-Some.node.now c.index_mut.ensures.value c.in-Some.ensures.value in
    rw (c.trim.ensures) (emptied-shrinks k c.args.key (File c.in-Some.node.now) there c.self.invariant (trimmed c.self.inside.limits.spare_max c.truncate.new.store) (File (record c.in-Some.node.now { file = c.truncate.new.self }))
    c.truncate.ensures.value c.truncate.ensures.in_use c.args.self.now c.self.view_is)
