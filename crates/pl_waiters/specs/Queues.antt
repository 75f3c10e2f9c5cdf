-- What stands in queues.
use Rattle.std.specs.Prelude.{◌<◌, ℕ, Bool, ◌||◌, length}
use Rattle.std.specs.BTreeSet.{contains}
use Rattle.pl_waiters.specs.declared.queue.Queues.{Queues}
use Rattle.pl_waiters.specs.declared.waiter.Waiter.{Waiter}
use Rattle.pl_waiters.specs.Queue.{waiter_order, place_at, is_one}

module _ {A : Type 0} where
  -- the call is the one of its node
  abbrev pub has_one : Queues A → Waiter → Bool
  has_one q key = is_one (place_at q.places.items key.node).one key

  -- the call stands in the queue: it is the one of its node, or in the set
  abbrev pub has_waiter : Queues A → Waiter → Bool
  has_waiter q key = has_one q key || contains waiter_order q.more key

  -- the node has a place
  abbrev pub has_place : Queues A → ℕ → Type 0
  has_place q node = node < length q.places.items
