use Rattle.std.proofs.Common.{◌≡◌, ◌<◌, None, true, false, length, sym, ◌∙◌, ap}
use Rattle.std.specs.BTreeMap.{is_at}
use Rattle.std.specs.BTreeSet.{contains}
use Rattle.pl_waiters.specs.declared.waiter.Waiter.{Waiter}
use Rattle.pl_waiters.specs.declared.queue.Place.{Place}
use Rattle.pl_waiters.specs.Queue.{waiter_order, may_stand}
use Rattle.pl_waiters.proofs.Places.{placed, within, fewer, off-or-off}
use Rattle.pl_waiters.proofs.queue.Queues.remove_further.Given.{Over}
use Rattle.pl_waiters.proofs.queue.Queues.remove_further.Goals.{After-remove}
use Rattle.pl_waiters.proofs.queue.Queues.remove_further.Goals as goal

module _ (g : Over) (c : After-remove g) where
  -- the node has a place
  there : c.args.call.now.node < length c.args.self.now.places.items
  there = within c.args.self.now.places.items c.args.call.now.node c.place-place.result c.place-place.ensures (λ empty. (let no : false ≡ true = sym (ap (λ (p : Place). may_stand p.last c.args.call.now.queue) empty) ∙ sym c.may_stand.ensures ∙ c.if-not-may_stand.false in cc))

  -- no call came into the set
  less : (key : Waiter) → contains waiter_order c.args.self.now.more key ≡ false → contains waiter_order c.remove.new.self key ≡ false
  less key off = c.remove.ensures.updates.0 key ∙ off-or-off (is_at (waiter_order c.args.call.now) key) (contains waiter_order c.args.self.now.more key) off

pub invariant_of-self : goal.invariant_of-self
invariant_of-self g c = record { kept = fewer c.args.self.now.places.items c.args.self.now.more c.remove.new.self c.args.self.now.kept (less g c) }

pub invariant_of-self-then-not-has_further : goal.invariant_of-self-then-not-has_further
invariant_of-self-then-not-has_further g c =
    let w = (goal.at.invariant_of-self-then-not-has_further g c).After-remove in
    let q = c.args.self.now in
    record {
      kept = placed q.places.items q.more c.remove.new.self c.args.call.now.node (record { one = None; last = None }) q.kept (there g w)
          (λ v is. absurd (cc))
          (λ key at off. c.has_further.ensures c.if-not-has_further.true key at)
          (λ key apart off. less g w key off);
    }
