use Rattle.std.proofs.Common.{Some, sym, ◌∙◌, ap}
use Rattle.pl_waiters.specs.declared.queue.Place.{Place}
use Rattle.pl_waiters.specs.Queue.{place_at, may_stand}
use Rattle.pl_waiters.proofs.Places.{placed, after-later, in-another, apart}
use Rattle.pl_waiters.proofs.queue.Queues.add.Goals as goal

pub invariant_of-self-2 : goal.invariant_of-self-2
invariant_of-self-2 g c =
    let q = c.args.self.now in
    let node = c.args.call.node in
    let place = c.place-place in
    record {
      kept = placed q.places.items q.more c.insert.new.self node (record { one = place.result.one; last = Some c.later.result }) q.kept c.requires
          (λ w is. q.kept.home node w (ap (λ (p : Place). p.one) (sym place.ensures) ∙ is))
          (λ key at off.
          let past = after-later place.result.last c.args.call.queue key.queue (ap (λ l. may_stand (Some l) key.queue) (sym c.later.ensures) ∙ off) in
          c.in_ok-insert.ensures.updates.2 key (in-another c.args.call key past.0) ∙ q.kept.none key (ap (λ n. may_stand (place_at q.places.items n).last key.queue) at ∙ ap (λ (p : Place). may_stand p.last key.queue) (sym place.ensures) ∙ past.1))
          (λ key away off. c.in_ok-insert.ensures.updates.2 key (apart c.args.call key away) ∙ off);
    }
