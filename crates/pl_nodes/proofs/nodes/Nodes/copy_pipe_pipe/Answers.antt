use Rattle.std.proofs.Common.{refl, ◌≡◌, ◌≤◌, ◌∙◌, Some, None, ap, sym, take, arith, subst}
use Rattle.std.specs.Prelude.{is_some}
use Rattle.pl_segments.specs.Segments.{Segments, at, live_count, trimmed}
use Rattle.pl_nodes.specs.declared.content.Content.TheVariants.{Pipe}
use Rattle.pl_nodes.specs.Nodes.{Nodes, bytes_of}
use Rattle.pl_nodes.proofs.Keyed.{on_err}
use Rattle.pl_nodes.proofs.AtKey.{pipe-there, held, few-holders, still-sound, refused-sound, refused-seen}
use Rattle.pl_nodes.proofs.Pipes.{pipe-told, pipe-files, pipe-refused}
use Rattle.pl_nodes.proofs.Lending.{front-lies, front-bytes, front-few, front-exact, push-fits, pushed-ok, pushed-parts}
use Rattle.pl_nodes.proofs.nodes.Nodes.copy_pipe_pipe.Goals as goal

pub front_slices-requires : goal.front_slices-requires
front_slices-requires g c =
    pipe-told c.self.inside c.args.from c.in-Pipe.source (c.index.ensures ∙ ap (λ x. Some x) c.in-Pipe.is) c.self.invariant c.args.self.now c.self.view_is (λ x. x.packets ≡ None) c.requires.from.plain.bytes

pub push_front_slices-requires-clause-bytes : goal.push_front_slices-requires-clause-bytes
push_front_slices-requires-clause-bytes g c =
    let k = c.self.inside in
    let target = c.in-Some.target.now in
    let there = pipe-there k.contents.slots c.args.to c.index_mut.result.now target c.index_mut.ensures.value c.in-Some.ensures.value in
    pipe-told k c.args.to target there c.self.invariant c.args.self.now c.self.view_is (λ x. x.packets ≡ None) c.requires.to.plain.bytes

pub push_front_slices-requires-clause-held : goal.push_front_slices-requires-clause-held
push_front_slices-requires-clause-held g c =
    let k = c.self.inside in
    let target = c.in-Some.target.now in
    let there = pipe-there k.contents.slots c.args.to c.index_mut.result.now target c.index_mut.ensures.value c.in-Some.ensures.value in
    held k c.args.to (Pipe target) there c.self.invariant

pub push_front_slices-requires-clause-few : goal.push_front_slices-requires-clause-few
push_front_slices-requires-clause-few g c = few-holders c.self.inside c.self.invariant (omega (arith, c.capacity-most.ensures.value, c.capacity-most.ensures.slots))

pub push_front_slices-requires-clause-fits : goal.push_front_slices-requires-clause-fits
push_front_slices-requires-clause-fits g c =
    let k = c.self.inside in
    let target = c.in-Some.target.now in
    let there = pipe-there k.contents.slots c.args.to c.index_mut.result.now target c.index_mut.ensures.value c.in-Some.ensures.value in
    let source = c.index.ensures ∙ ap (λ x. Some x) c.in-Pipe.is in
    let few = front-few k c.self.invariant c.args.self.now c.self.view_is c.args.from c.in-Pipe.source source c.args.count c.in_ok-slices.slices c.in_ok-slices.ensures.value in
    let exact = front-exact k c.self.invariant c.args.self.now c.self.view_is c.args.from c.in-Pipe.source source c.args.count c.in_ok-slices.slices c.in_ok-slices.ensures.value c.requires.from.held in
    let fits = push-fits k c.self.invariant c.args.self.now c.self.view_is c.args.to target there c.in_ok-slices.slices c.args.count few c.requires.to.room (omega (arith, c.len-held.ensures.value, c.len-held.ensures.fits))
    (pipe-told k c.args.to target there c.self.invariant c.args.self.now c.self.view_is (λ x. x.packets ≡ None) c.requires.to.plain.bytes) in
    record {
      lie = front-lies k c.self.invariant c.args.self.now c.self.view_is c.args.from c.in-Pipe.source source c.args.count c.in_ok-slices.slices c.in_ok-slices.ensures.value;
      front = c.in_ok-slices.ensures.front;
      bytes = exact;
      fits = omega (arith, exact, fits);
    }

pub invariant_of-self : goal.invariant_of-self
invariant_of-self g c =
    let refused = c.in_err-push_front_slices.ensures in
    let k = c.self.inside in
    let target = c.in-Some.target.now in
    let there = pipe-there k.contents.slots c.args.to c.index_mut.result.now target c.index_mut.ensures.value c.in-Some.ensures.value in
    refused-sound k c.args.to (Pipe target) there c.self.invariant c.push_front_slices.new.store (ap (λ (s : Segments). s.held) refused.unchanged.1)
    (Pipe (record target { queue = c.push_front_slices.new.self })) (λ i. Pipe (record target { queue = refused.unchanged.0 i })) (subst (λ (s : Segments). s.room ≤ c.self.inside.limits.spare_max) (sym refused.unchanged.1) c.self.invariant.spare)

pub returns-in_err-push_front_slices-clause-files : goal.returns-in_err-push_front_slices-clause-files
returns-in_err-push_front_slices-clause-files g c =
    let refused = c.in_err-push_front_slices.ensures in
    let k = c.self.inside in
    let target = c.in-Some.target.now in
    let there = pipe-there k.contents.slots c.args.to c.index_mut.result.now target c.index_mut.ensures.value c.in-Some.ensures.value in
    pipe-refused k c.args.to target there c.self.invariant c.args.self.now c.self.view_is c.push_front_slices.new.store (ap (λ (s : Segments). s.held) refused.unchanged.1)
    (record target { queue = c.push_front_slices.new.self }) (λ i. record target { queue = refused.unchanged.0 i })

pub returns-in_err-push_front_slices-clause-unchanged : goal.returns-in_err-push_front_slices-clause-unchanged
returns-in_err-push_front_slices-clause-unchanged g c =
    let refused = c.in_err-push_front_slices.ensures in
    let k = c.self.inside in
    let target = c.in-Some.target.now in
    let there = pipe-there k.contents.slots c.args.to c.index_mut.result.now target c.index_mut.ensures.value c.in-Some.ensures.value in
    on_err c.from_residual-in_err-push_front_slices.result _
    (refused-seen k c.args.to (Pipe target) there c.self.invariant c.push_front_slices.new.store (ap (λ (s : Segments). s.held) refused.unchanged.1)
    (Pipe (record target { queue = c.push_front_slices.new.self })) (λ i. Pipe (record target { queue = refused.unchanged.0 i })) ∙ c.self.view_is)

pub invariant_of-self-2 : goal.invariant_of-self-2
invariant_of-self-2 g c =
    let k = c.self.inside in
    let target = c.in-Some.target.now in
    let there = pipe-there k.contents.slots c.args.to c.index_mut.result.now target c.index_mut.ensures.value c.in-Some.ensures.value in
    rw (c.trim.ensures) (still-sound k c.args.to (Pipe target) there c.self.invariant (trimmed c.self.inside.limits.spare_max c.push_front_slices.new.store) (Pipe (record target { queue = c.push_front_slices.new.self })) c.in_ok-push_front_slices.ensures.gains.turns
    (omega (arith, c.slots-slots.ensures.value, c.slots-slots.ensures.few)) (refl, refl) (ap is_some (c.push_front_slices.ensures.bytes ∙ sym (pipe-told k c.args.to target there c.self.invariant c.args.self.now c.self.view_is (λ x. x.packets ≡ None) c.requires.to.plain.bytes))) (omega arith))

pub returns-clause-ok : goal.returns-clause-ok
returns-clause-ok g c =
    let done = c.in_ok-push_front_slices.ensures in
    let k = c.self.inside in
    let target = c.in-Some.target.now in
    let there = pipe-there k.contents.slots c.args.to c.index_mut.result.now target c.index_mut.ensures.value c.in-Some.ensures.value in
    let source = c.index.ensures ∙ ap (λ x. Some x) c.in-Pipe.is in
    rw (c.trim.ensures) (pushed-ok k c.self.invariant c.args.self.now c.self.view_is c.args.to target there c.in_ok-slices.slices (trimmed c.self.inside.limits.spare_max c.push_front_slices.new.store) c.push_front_slices.new.self
    (take c.args.count (bytes_of (at c.args.self.now.pipes c.args.from)))
    (front-bytes k c.self.invariant c.args.self.now c.self.view_is c.args.from c.in-Pipe.source source c.args.count c.in_ok-slices.slices c.in_ok-slices.ensures.value)
    done.gains.turns done.gains.read c.push_front_slices.ensures.capacity (pipe-told k c.args.to target there c.self.invariant c.args.self.now c.self.view_is (λ x. x.packets ≡ None) c.requires.to.plain.bytes) c.push_front_slices.ensures.bytes)

pub returns-clause-files : goal.returns-clause-files
returns-clause-files g c =
    let k = c.self.inside in
    let target = c.in-Some.target.now in
    let there = pipe-there k.contents.slots c.args.to c.index_mut.result.now target c.index_mut.ensures.value c.in-Some.ensures.value in
    rw (c.trim.ensures) (pipe-files k c.args.to target there c.self.invariant c.args.self.now c.self.view_is (trimmed c.self.inside.limits.spare_max c.push_front_slices.new.store) (record target { queue = c.push_front_slices.new.self }) c.in_ok-push_front_slices.ensures.gains.turns)

pub returns-clause-shares : goal.returns-clause-shares
returns-clause-shares g c =
    let k = c.self.inside in
    let target = c.in-Some.target.now in
    let there = pipe-there k.contents.slots c.args.to c.index_mut.result.now target c.index_mut.ensures.value c.in-Some.ensures.value in
    let source = c.index.ensures ∙ ap (λ x. Some x) c.in-Pipe.is in
    let makes = c.in_ok-push_front_slices.ensures.makes in
    record {
      few =
          let seen : live_count k.store.held ≡ c.args.self.now.segments = ap (λ (v : Nodes). v.segments) c.self.view_is in
          let kept = ap (λ (s : Segments). live_count s.held) c.trim.ensures in
          omega (arith, makes.segments, seen, kept);
      parts =
          pushed-parts k c.self.invariant c.args.self.now c.self.view_is c.args.to target there c.in_ok-slices.slices c.push_front_slices.new.store c.push_front_slices.new.self
          c.args.from c.in-Pipe.source source c.args.count c.in_ok-slices.ensures.value makes.slots;
    }
