-- Places for the nodes at which calls stand in queues.
use Rattle.std.specs.Prelude.{◌≡◌, ℕ, true}
use Rattle.pl_least.specs.declared.least.Least.{Least}
use Rattle.pl_least.specs.Numbers.{has_place}
use Rattle.pl_waiters.specs.declared.marks.Marks.{Marks}
use Rattle.pl_waiters.specs.declared.queue.Queues.{Queues}
use Rattle.pl_waiters.specs.declared.waiter.Waiter.{Waiter}
use Rattle.pl_waiters.specs.Marks.{has_room}
use Rattle.pl_waiters.specs.Queues.{has_waiter}

-- There is room for the mark of each node at which a call stands, and a place for the least number of each that may have a mark.
pub record HavePlaces {A : Type 0} (queues : Queues A) (touched : Marks A) (least : Least A) : Type 0 where
  pub room : (key : Waiter) → has_waiter queues key ≡ true → has_room touched key.node
  pub place : (node : ℕ) → has_room touched node → has_place least node
