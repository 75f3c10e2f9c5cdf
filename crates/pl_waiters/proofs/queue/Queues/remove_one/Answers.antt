use Rattle.std.proofs.Common.{◌≡◌, true, false, None, sym, ◌∙◌, ap}
use Rattle.pl_waiters.specs.declared.queue.Place.{Place}
use Rattle.pl_waiters.specs.Queue.{place_at, is_one, may_stand}
use Rattle.pl_waiters.proofs.Places.{placed, within}
use Rattle.pl_waiters.proofs.queue.Queues.remove_one.Goals as goal

pub invariant_of-self : goal.invariant_of-self
invariant_of-self g c =
    let q = c.args.self.now in
    let node = c.args.call.now.node in
    let place = c.place-place in
    let one : is_one place.result.one c.args.call.now ≡ true = sym c.is_same.ensures ∙ c.if-is_same.true in
    record {
      kept = placed q.places.items q.more q.more node (record { one = None; last = place.result.last }) q.kept
          (within q.places.items node place.result place.ensures (λ empty. (let no : false ≡ true = sym (ap (λ (p : Place). is_one p.one c.args.call.now) empty) ∙ one in cc)))
          (λ w is. absurd (cc))
          (λ key at off. q.kept.none key (ap (λ n. may_stand (place_at q.places.items n).last key.queue) at ∙ ap (λ (p : Place). may_stand p.last key.queue) (sym place.ensures) ∙ off))
          (λ key apart off. off);
    }
