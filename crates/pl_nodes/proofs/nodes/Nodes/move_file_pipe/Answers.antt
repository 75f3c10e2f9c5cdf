use Rattle.std.proofs.Common.{refl, ◌≡◌, ◌≤◌, ◌∙◌, Some, None, ap, sym, arith, subst}
use Rattle.std.specs.Prelude.{is_some}
use Rattle.pl_segments.specs.Segments.{Segments, at, trimmed}
use Rattle.pl_nodes.specs.declared.content.Content.TheVariants.{Pipe}
use Rattle.pl_nodes.specs.Nodes.{part_of}
use Rattle.pl_nodes.proofs.Keyed.{on_err}
use Rattle.pl_nodes.proofs.AtKey.{pipe-there, held, few-holders, still-sound, refused-sound, refused-seen}
use Rattle.pl_nodes.proofs.Pipes.{pipe-told, pipe-files, pipe-refused}
use Rattle.pl_nodes.proofs.Lending.{part-lies, part-bytes, part-few, push-fits, pushed-ok}
use Rattle.pl_nodes.proofs.nodes.Nodes.move_file_pipe.Goals as goal

pub push_slices-requires-clause-bytes : goal.push_slices-requires-clause-bytes
push_slices-requires-clause-bytes g c =
    let k = c.self.inside in
    let target = c.in-Some.pipe.now in
    let there = pipe-there k.contents.slots c.args.to c.index_mut.result.now target c.index_mut.ensures.value c.in-Some.ensures.value in
    pipe-told k c.args.to target there c.self.invariant c.args.self.now c.self.view_is (λ x. x.packets ≡ None) c.requires.to.plain.bytes

pub push_slices-requires-clause-lie : goal.push_slices-requires-clause-lie
push_slices-requires-clause-lie g c = part-lies c.self.inside c.self.invariant c.args.self.now c.self.view_is c.args.from c.in-File.file (c.index.ensures ∙ ap (λ x. Some x) c.in-File.is) c.args.place c.args.count c.in_ok-slices.slices c.in_ok-slices.ensures

pub push_slices-requires-clause-held : goal.push_slices-requires-clause-held
push_slices-requires-clause-held g c =
    let k = c.self.inside in
    let target = c.in-Some.pipe.now in
    let there = pipe-there k.contents.slots c.args.to c.index_mut.result.now target c.index_mut.ensures.value c.in-Some.ensures.value in
    held k c.args.to (Pipe target) there c.self.invariant

pub push_slices-requires-clause-few : goal.push_slices-requires-clause-few
push_slices-requires-clause-few g c = few-holders c.self.inside c.self.invariant (omega (arith, c.capacity-most.ensures.value, c.capacity-most.ensures.slots))

pub push_slices-requires-clause-fits : goal.push_slices-requires-clause-fits
push_slices-requires-clause-fits g c =
    let k = c.self.inside in
    let target = c.in-Some.pipe.now in
    let there = pipe-there k.contents.slots c.args.to c.index_mut.result.now target c.index_mut.ensures.value c.in-Some.ensures.value in
    let source = c.index.ensures ∙ ap (λ x. Some x) c.in-File.is in
    let few = part-few k c.self.invariant c.args.self.now c.self.view_is c.args.from c.in-File.file source c.args.place c.args.count c.in_ok-slices.slices c.in_ok-slices.ensures in
    push-fits k c.self.invariant c.args.self.now c.self.view_is c.args.to target there c.in_ok-slices.slices c.args.count few c.requires.to.room (omega (arith, c.len-held.ensures.value, c.len-held.ensures.fits))
    (pipe-told k c.args.to target there c.self.invariant c.args.self.now c.self.view_is (λ x. x.packets ≡ None) c.requires.to.plain.bytes)

pub invariant_of-self : goal.invariant_of-self
invariant_of-self g c =
    let refused = c.in_err-push_slices.ensures in
    let k = c.self.inside in
    let target = c.in-Some.pipe.now in
    let there = pipe-there k.contents.slots c.args.to c.index_mut.result.now target c.index_mut.ensures.value c.in-Some.ensures.value in
    refused-sound k c.args.to (Pipe target) there c.self.invariant c.push_slices.new.store (ap (λ (s : Segments). s.held) refused.unchanged.1)
    (Pipe (record target { queue = c.push_slices.new.self })) (λ i. Pipe (record target { queue = refused.unchanged.0 i })) (subst (λ (s : Segments). s.room ≤ c.self.inside.limits.spare_max) (sym refused.unchanged.1) c.self.invariant.spare)

pub returns-in_err-push_slices-clause-files : goal.returns-in_err-push_slices-clause-files
returns-in_err-push_slices-clause-files g c =
    let refused = c.in_err-push_slices.ensures in
    let k = c.self.inside in
    let target = c.in-Some.pipe.now in
    let there = pipe-there k.contents.slots c.args.to c.index_mut.result.now target c.index_mut.ensures.value c.in-Some.ensures.value in
    pipe-refused k c.args.to target there c.self.invariant c.args.self.now c.self.view_is c.push_slices.new.store (ap (λ (s : Segments). s.held) refused.unchanged.1)
    (record target { queue = c.push_slices.new.self }) (λ i. record target { queue = refused.unchanged.0 i })

pub returns-in_err-push_slices-clause-unchanged : goal.returns-in_err-push_slices-clause-unchanged
returns-in_err-push_slices-clause-unchanged g c =
    let refused = c.in_err-push_slices.ensures in
    let k = c.self.inside in
    let target = c.in-Some.pipe.now in
    let there = pipe-there k.contents.slots c.args.to c.index_mut.result.now target c.index_mut.ensures.value c.in-Some.ensures.value in
    on_err c.from_residual-in_err-push_slices.result _
    (refused-seen k c.args.to (Pipe target) there c.self.invariant c.push_slices.new.store (ap (λ (s : Segments). s.held) refused.unchanged.1)
    (Pipe (record target { queue = c.push_slices.new.self })) (λ i. Pipe (record target { queue = refused.unchanged.0 i })) ∙ c.self.view_is)

pub invariant_of-self-2 : goal.invariant_of-self-2
invariant_of-self-2 g c =
    let k = c.self.inside in
    let target = c.in-Some.pipe.now in
    let there = pipe-there k.contents.slots c.args.to c.index_mut.result.now target c.index_mut.ensures.value c.in-Some.ensures.value in
    rw (c.trim.ensures) (still-sound k c.args.to (Pipe target) there c.self.invariant (trimmed c.self.inside.limits.spare_max c.push_slices.new.store) (Pipe (record target { queue = c.push_slices.new.self })) c.in_ok-push_slices.ensures.gains.turns
    (omega (arith, c.slots-slots.ensures.value, c.slots-slots.ensures.few)) (refl, refl) (ap is_some (c.push_slices.ensures.bytes ∙ sym (pipe-told k c.args.to target there c.self.invariant c.args.self.now c.self.view_is (λ x. x.packets ≡ None) c.requires.to.plain.bytes))) (omega arith))

pub returns-clause-ok : goal.returns-clause-ok
returns-clause-ok g c =
    let done = c.in_ok-push_slices.ensures in
    let k = c.self.inside in
    let target = c.in-Some.pipe.now in
    let there = pipe-there k.contents.slots c.args.to c.index_mut.result.now target c.index_mut.ensures.value c.in-Some.ensures.value in
    let source = c.index.ensures ∙ ap (λ x. Some x) c.in-File.is in
    rw (c.trim.ensures) (pushed-ok k c.self.invariant c.args.self.now c.self.view_is c.args.to target there c.in_ok-slices.slices (trimmed c.self.inside.limits.spare_max c.push_slices.new.store) c.push_slices.new.self
    (part_of c.args.place c.args.count (at c.args.self.now.files c.args.from))
    (part-bytes k c.self.invariant c.args.self.now c.self.view_is c.args.from c.in-File.file source c.args.place c.args.count c.in_ok-slices.slices c.in_ok-slices.ensures)
    done.gains.turns done.gains.read c.push_slices.ensures.capacity (pipe-told k c.args.to target there c.self.invariant c.args.self.now c.self.view_is (λ x. x.packets ≡ None) c.requires.to.plain.bytes) c.push_slices.ensures.bytes)

pub returns-clause-files : goal.returns-clause-files
returns-clause-files g c =
    let k = c.self.inside in
    let target = c.in-Some.pipe.now in
    let there = pipe-there k.contents.slots c.args.to c.index_mut.result.now target c.index_mut.ensures.value c.in-Some.ensures.value in
    rw (c.trim.ensures) (pipe-files k c.args.to target there c.self.invariant c.args.self.now c.self.view_is (trimmed c.self.inside.limits.spare_max c.push_slices.new.store) (record target { queue = c.push_slices.new.self }) c.in_ok-push_slices.ensures.gains.turns)
