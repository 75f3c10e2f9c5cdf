use Rattle.std.proofs.Common.{refl, ◌≡◌, ◌≤◌, ◌∙◌, Some, None, ap, sym, arith, subst}
use Rattle.pl_segments.specs.Segments.{Segments, live_count, trimmed}
use Rattle.pl_file.proofs.Editing.{solid-length}
use Rattle.pl_nodes.specs.declared.content.Content.TheVariants.{File}
use Rattle.pl_nodes.specs.Nodes.{Nodes}
use Rattle.pl_nodes.proofs.AtKey.{file-there, held, few-holders, still-sound, refused-sound, refused-seen}
use Rattle.pl_nodes.proofs.Pipes.{pipe-told}
use Rattle.pl_nodes.proofs.Files.{file-pipes, file-refused}
use Rattle.pl_nodes.proofs.Lending.{front-lies}
use Rattle.pl_nodes.proofs.Putting.{put-long, put-some, put-within, put-ok, put-named}
use Rattle.pl_nodes.proofs.nodes.Nodes.put_front.Goals as goal

pub front_slices-requires : goal.front_slices-requires
front_slices-requires g c =
    pipe-told c.self.inside c.args.from c.in-Pipe.pipe (c.index.ensures ∙ ap (λ x. Some x) c.in-Pipe.is) c.self.invariant c.args.self.now c.self.view_is (λ x. x.packets ≡ None) c.requires.from.plain.bytes

pub put_slices_at-requires-clause-lie : goal.put_slices_at-requires-clause-lie
put_slices_at-requires-clause-lie g c =
    front-lies c.self.inside c.self.invariant c.args.self.now c.self.view_is c.args.from c.in-Pipe.pipe (c.index.ensures ∙ ap (λ x. Some x) c.in-Pipe.is) c.args.count c.in_ok-slices.slices c.in_ok-slices.ensures.value

pub put_slices_at-requires-clause-long : goal.put_slices_at-requires-clause-long
put_slices_at-requires-clause-long g c =
    let k = c.self.inside in
    let source = c.index.ensures ∙ ap (λ x. Some x) c.in-Pipe.is in
    let target = c.in-Some.file.now in
    let there = file-there k.contents.slots c.args.to c.index_mut.result.now target c.index_mut.ensures.value c.in-Some.ensures.value in
    put-long k c.self.invariant c.args.self.now c.self.view_is c.args.from c.in-Pipe.pipe source c.args.count c.in_ok-slices.slices c.in_ok-slices.ensures.value
    c.args.to target there c.args.place c.requires.fits

pub put_slices_at-requires-clause-held : goal.put_slices_at-requires-clause-held
put_slices_at-requires-clause-held g c =
    let k = c.self.inside in
    let target = c.in-Some.file.now in
    let there = file-there k.contents.slots c.args.to c.index_mut.result.now target c.index_mut.ensures.value c.in-Some.ensures.value in
    held k c.args.to (File target) there c.self.invariant

pub put_slices_at-requires-clause-few : goal.put_slices_at-requires-clause-few
put_slices_at-requires-clause-few g c = few-holders c.self.inside c.self.invariant (omega (arith, c.capacity-most.ensures.value, c.capacity-most.ensures.slots))

pub invariant_of-self : goal.invariant_of-self
invariant_of-self g c =
    let refused = c.in_default-put_slices_at.ensures in
    let k = c.self.inside in
    let target = c.in-Some.file.now in
    let there = file-there k.contents.slots c.args.to c.index_mut.result.now target c.index_mut.ensures.value c.in-Some.ensures.value in
    refused-sound k c.args.to (File target) there c.self.invariant c.put_slices_at.new.store (ap (λ (s : Segments). s.held) refused.unchanged.1)
    (File (record target { file = c.put_slices_at.new.self })) (λ i. File (record target { file = refused.unchanged.0 i })) (subst (λ (s : Segments). s.room ≤ c.self.inside.limits.spare_max) (sym refused.unchanged.1) c.self.invariant.spare)

pub returns-in_default-put_slices_at-clause-pipes : goal.returns-in_default-put_slices_at-clause-pipes
returns-in_default-put_slices_at-clause-pipes g c =
    let refused = c.in_default-put_slices_at.ensures in
    let k = c.self.inside in
    let target = c.in-Some.file.now in
    let there = file-there k.contents.slots c.args.to c.index_mut.result.now target c.index_mut.ensures.value c.in-Some.ensures.value in
    file-refused k c.args.to target there c.self.invariant c.args.self.now c.self.view_is c.put_slices_at.new.store (ap (λ (s : Segments). s.held) refused.unchanged.1)
    (record target { file = c.put_slices_at.new.self }) (λ i. record target { file = refused.unchanged.0 i })

pub returns-in_default-put_slices_at-clause-unchanged : goal.returns-in_default-put_slices_at-clause-unchanged
returns-in_default-put_slices_at-clause-unchanged g c =
    let refused = c.in_default-put_slices_at.ensures in
    let k = c.self.inside in
    let target = c.in-Some.file.now in
    let there = file-there k.contents.slots c.args.to c.index_mut.result.now target c.index_mut.ensures.value c.in-Some.ensures.value in
    refused-seen k c.args.to (File target) there c.self.invariant c.put_slices_at.new.store (ap (λ (s : Segments). s.held) refused.unchanged.1)
    (File (record target { file = c.put_slices_at.new.self })) (λ i. File (record target { file = refused.unchanged.0 i })) ∙ c.self.view_is

pub invariant_of-self-2 : goal.invariant_of-self-2
invariant_of-self-2 g c =
    let k = c.self.inside in
    let target = c.in-Some.file.now in
    let there = file-there k.contents.slots c.args.to c.index_mut.result.now target c.index_mut.ensures.value c.in-Some.ensures.value in
    let long = solid-length c.put_slices_at.new.self c.len-end.ensures.solid in
    rw (c.trim.ensures) (still-sound k c.args.to (File target) there c.self.invariant (trimmed c.self.inside.limits.spare_max c.put_slices_at.new.store) (File (record target { file = c.put_slices_at.new.self })) c.in-Ok.ensures.becomes.turns
    (omega (arith, long, c.len-end.ensures.value, c.len-end.ensures.most)) (refl, refl) refl (omega arith))

pub returns-clause-ok : goal.returns-clause-ok
returns-clause-ok g c =
    let k = c.self.inside in
    let source = c.index.ensures ∙ ap (λ x. Some x) c.in-Pipe.is in
    let target = c.in-Some.file.now in
    let there = file-there k.contents.slots c.args.to c.index_mut.result.now target c.index_mut.ensures.value c.in-Some.ensures.value in
    rw (c.trim.ensures) (put-ok k c.self.invariant c.args.self.now c.self.view_is c.args.from c.in-Pipe.pipe source c.args.count c.in_ok-slices.slices c.in_ok-slices.ensures.value
    c.args.to target there c.args.place c.requires.fits
    (trimmed c.self.inside.limits.spare_max c.put_slices_at.new.store) c.put_slices_at.new.self c.in-Ok.ensures.becomes.turns c.in-Ok.ensures.becomes.read)

pub returns-clause-pipes : goal.returns-clause-pipes
returns-clause-pipes g c =
    let k = c.self.inside in
    let target = c.in-Some.file.now in
    let there = file-there k.contents.slots c.args.to c.index_mut.result.now target c.index_mut.ensures.value c.in-Some.ensures.value in
    rw (c.trim.ensures) (file-pipes k c.args.to target there c.self.invariant c.args.self.now c.self.view_is (trimmed c.self.inside.limits.spare_max c.put_slices_at.new.store) (record target { file = c.put_slices_at.new.self }) c.in-Ok.ensures.becomes.turns)

pub returns-clause-none_added : goal.returns-clause-none_added
returns-clause-none_added g c = λ asked.
    let k = c.self.inside in
    let source = c.index.ensures ∙ ap (λ x. Some x) c.in-Pipe.is in
    let target = c.in-Some.file.now in
    let there = file-there k.contents.slots c.args.to c.index_mut.result.now target c.index_mut.ensures.value c.in-Some.ensures.value in
    let within = put-within k c.self.invariant c.args.self.now c.self.view_is c.args.from c.in-Pipe.pipe source c.args.count c.in_ok-slices.slices c.in_ok-slices.ensures.value
    c.args.to target there c.args.place c.requires.fits asked in
    record {
      fewer =
          let fewer = (c.in-Ok.ensures.between within).in_use in
          let seen : live_count k.store.held ≡ c.args.self.now.segments = ap (λ (v : Nodes). v.segments) c.self.view_is in
          let kept = ap (λ (s : Segments). live_count s.held) c.trim.ensures in
          omega (arith, fewer, seen, kept);
      named_before =
          let long = solid-length c.put_slices_at.new.self c.len-end.ensures.solid in
          let now = still-sound k c.args.to (File target) there c.self.invariant (trimmed c.self.inside.limits.spare_max c.put_slices_at.new.store) (File (record target { file = c.put_slices_at.new.self })) c.in-Ok.ensures.becomes.turns
          (omega (arith, long, c.len-end.ensures.value, c.len-end.ensures.most)) (refl, refl) refl (omega arith) in
          let some = put-some k c.self.invariant c.args.self.now c.self.view_is c.args.from c.in-Pipe.pipe source c.args.count c.in_ok-slices.slices c.in_ok-slices.ensures.value
          c.args.to target there c.args.place c.requires.fits c.requires.from.held c.requires.some c.in-Ok._moved c.in-Ok.ensures.count in
          put-named k c.self.invariant c.args.self.now c.self.view_is c.args.from c.in-Pipe.pipe source c.args.count c.in_ok-slices.slices c.in_ok-slices.ensures.value
          c.args.to target there c.args.place c.requires.fits
          (trimmed c.self.inside.limits.spare_max c.put_slices_at.new.store) c.put_slices_at.new.self c.in-Ok.ensures.becomes.turns now.shared c.in-Ok._moved ((c.in-Ok.ensures.between within).slots some);
    }
