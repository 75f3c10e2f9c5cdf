use Rattle.std.proofs.Common.{refl, ◌∙◌, ◌-◌, ap, take, arith}
use Rattle.pl_model.specs.Map.{change_at}
use Rattle.pl_segments.specs.Segments.{Segments, at, trimmed}
use Rattle.pl_file.specs.File.{written}
use Rattle.pl_file.proofs.Editing.{solid-length}
use Rattle.pl_nodes.specs.declared.content.Content.TheVariants.{File}
use Rattle.pl_nodes.specs.Nodes.{Nodes}
use Rattle.pl_nodes.proofs.Keyed.{on_err}
use Rattle.pl_nodes.proofs.AtKey.{file-there, held, few-holders, still-sound, refused-seen}
use Rattle.pl_nodes.proofs.Files.{file-done, file-pipes}
use Rattle.pl_nodes.proofs.nodes.Nodes.write_file.Goals as goal

pub write_at-requires-clause-held : goal.write_at-requires-clause-held
write_at-requires-clause-held g c =
    let k = c.self.inside in
    let there = file-there k.contents.slots c.args.key c.index_mut.result.now c.in-Some.node.now c.index_mut.ensures.value c.in-Some.ensures.value in
    held k c.args.key (File c.in-Some.node.now) there c.self.invariant

pub write_at-requires-clause-few : goal.write_at-requires-clause-few
write_at-requires-clause-few g c = few-holders c.self.inside c.self.invariant (omega (arith, c.capacity-most.ensures.value, c.capacity-most.ensures.slots))

pub returns-in_err-written-clause-unchanged : goal.returns-in_err-written-clause-unchanged
returns-in_err-written-clause-unchanged g c =
    let refused = c.in_err-written.ensures in
    let k = c.self.inside in
    let there = file-there k.contents.slots c.args.key c.index_mut.result.now c.in-Some.node.now c.index_mut.ensures.value c.in-Some.ensures.value in
    on_err c.from_residual.result _
    (refused-seen k c.args.key (File c.in-Some.node.now) there c.self.invariant c.write_at.new.store (ap (λ (s : Segments). s.held) refused.unchanged.1) (File (record c.in-Some.node.now { file = c.write_at.new.self })) (λ i. File (record c.in-Some.node.now { file = refused.unchanged.0 i })) ∙ c.self.view_is)

pub invariant_of-self-2 : goal.invariant_of-self-2
invariant_of-self-2 g c =
    let k = c.self.inside in
    let there = file-there k.contents.slots c.args.key c.index_mut.result.now c.in-Some.node.now c.index_mut.ensures.value c.in-Some.ensures.value in
    let long = solid-length c.write_at.new.self c.len-len.ensures.solid in
    rw (c.trim.ensures) (still-sound k c.args.key (File c.in-Some.node.now) there c.self.invariant (trimmed c.self.inside.limits.spare_max c.write_at.new.store) (File (record c.in-Some.node.now { file = c.write_at.new.self })) c.in_ok-written.ensures.becomes.turns
    (omega (arith, long, c.len-len.ensures.value, c.len-len.ensures.most)) (refl, refl) refl (omega arith))

pub returns-clause-ok : goal.returns-clause-ok
returns-clause-ok g c =
    let k = c.self.inside in
    let there = file-there k.contents.slots c.args.key c.index_mut.result.now c.in-Some.node.now c.index_mut.ensures.value c.in-Some.ensures.value in
    rw (c.trim.ensures) (file-done k c.args.key c.in-Some.node.now there c.self.invariant c.args.self.now c.self.view_is (trimmed c.self.inside.limits.spare_max c.write_at.new.store) (record c.in-Some.node.now { file = c.write_at.new.self }) c.in_ok-written.ensures.becomes.turns
    (written c.args.place (take (k.limits.file_max - c.args.place) c.args.bytes.now)) c.in_ok-written.ensures.becomes.read
    ∙ ap (λ (v : Nodes). change_at c.args.key (written c.args.place (take (v.limits.file_max - c.args.place) c.args.bytes.now)) (at c.args.self.now.files)) c.self.view_is)

pub returns-clause-pipes : goal.returns-clause-pipes
returns-clause-pipes g c =
    let k = c.self.inside in
    let there = file-there k.contents.slots c.args.key c.index_mut.result.now c.in-Some.node.now c.index_mut.ensures.value c.in-Some.ensures.value in
    rw (c.trim.ensures) (file-pipes k c.args.key c.in-Some.node.now there c.self.invariant c.args.self.now c.self.view_is (trimmed c.self.inside.limits.spare_max c.write_at.new.store) (record c.in-Some.node.now { file = c.write_at.new.self }) c.in_ok-written.ensures.becomes.turns)
