use Rattle.std.proofs.Common.{◌∙◌, ap, arith}
use Rattle.std.specs.Prelude.{is_ok, if◌then◌else◌}
use Rattle.std.specs.Vec.{vec_len}
use Rattle.pl_waiters.proofs.Places.{grown, same-place, otherwise}
use Rattle.pl_waiters.proofs.queue.Queues.reserve.Goals as goal

pub invariant_of-self : goal.invariant_of-self
invariant_of-self g c =
    let items = c.resize.ensures.items in
    let len = c.resize.ensures.len in
    let old = c.args.self.now.places.ok.0 in
    let new = c.resize.new.self.ok.0 in
    record {
      kept = grown c.args.self.now.places.items c.resize.new.self.items c.args.self.now.more c.args.self.now.kept
          (same-place c.args.self.now.places.items c.resize.new.self.items c.args.nodes (is_ok c.resize.result)
          (omega (arith, c.if-nodes-len.false, c.len.ensures, old))
          (λ ok. (let l = len ∙ ap (λ b. if b then c.args.nodes else vec_len c.args.self.now.places) ok in omega (arith, l, new)))
          (λ err. otherwise (is_ok c.resize.result) _ c.args.self.now.places.items c.resize.new.self.items items err)
          (λ k d l h. c.resize.ensures.by_index.0 k d l (omega (arith, h, old)))
          (λ ok k d h l. c.resize.ensures.by_index.1 k d ok (omega (arith, h, old)) l));
    }
