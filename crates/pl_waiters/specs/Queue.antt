-- Calls in queues.
use Rattle.std.specs.Prelude.{◌≡◌, ◌<◌, ◌⊎◌, ℕ, Bool, false, ◌&&◌, nat_eq, nat_le, max, if◌then◌else◌, List, Option, slice_index_or}
use Rattle.std.specs.declared.option.Option.TheVariants.{None, Some}
use Rattle.std.specs.declared.cmp.Ordering.{Ordering}
use Rattle.std.specs.Ordering.{nat_cmp, ordering_then, is_gt}
use Rattle.std.specs.BTreeSet.{BTreeSet, contains}
use Rattle.pl_waiters.specs.declared.waiter.Waiter.{Waiter}
use Rattle.pl_waiters.specs.declared.queue.Place.{Place}

-- how two calls stand in order: by node, then by queue, and then by number
abbrev pub waiter_order : Waiter → Waiter → Ordering
waiter_order a b = ordering_then (nat_cmp a.node b.node) (ordering_then (nat_cmp a.queue b.queue) (nat_cmp a.number b.number))

-- the call of this node, queue and number
abbrev pub waiter : (node queue number : ℕ) → Waiter
waiter node queue number = record { node = node; queue = queue; number = number }

-- it is the same call in the same queue
abbrev pub is_waiter : Waiter → Waiter → Bool
is_waiter a b = nat_eq a.node b.node && (nat_eq a.queue b.queue && nat_eq a.number b.number)

-- the second doesn't stand before the first
abbrev pub IsBehind : Waiter → Waiter → Type 0
IsBehind a b = is_gt (waiter_order a b) ≡ false

-- a call of this queue and number stands before that one, at the same node
abbrev pub IsBefore : (queue number : ℕ) → Waiter → Type 0
IsBefore queue number key = (queue < key.queue) ⊎ ((queue ≡ key.queue) × (number < key.number))

-- the call, if it doesn't stand before another one
abbrev pub on_from : Option Waiter → Waiter → Option Waiter
on_from None least = None
on_from (Some w) least = if is_gt (waiter_order least w) then None else Some w

-- the call, if it is of the node
abbrev pub at_node : Option Waiter → ℕ → Option Waiter
at_node None node = None
at_node (Some w) node = if nat_eq w.node node then Some w else None

-- the one of two calls that stands before the other, where there are any
abbrev pub earlier_of : Option Waiter → Option Waiter → Option Waiter
earlier_of None o = o
earlier_of (Some a) None = Some a
earlier_of (Some a) (Some b) = Some (if is_gt (waiter_order a b) then b else a)

-- the place of a node
abbrev pub place_at : List Place → ℕ → Place
place_at places node = slice_index_or places node (record { one = None; last = None })

-- a call is the one of a place
abbrev pub is_one : Option Waiter → Waiter → Bool
is_one None key = false
is_one (Some w) key = is_waiter w key

-- by the last queue of a place: further calls may stand in this queue, or after it
abbrev pub may_stand : Option ℕ → ℕ → Bool
may_stand None queue = false
may_stand (Some last) queue = nat_le queue last

-- the later one of a queue and of the last queue of a place
abbrev pub later : Option ℕ → ℕ → ℕ
later None queue = queue
later (Some last) queue = max last queue

-- The one call of a place is of its node. In queues after the last one of a place, no call of its node stands in the set.
pub record ArePlaced (places : List Place) (more : BTreeSet Waiter) : Type 0 where
  pub home : (node : ℕ) (w : Waiter) → (place_at places node).one ≡ Some w → w.node ≡ node
  pub none : (key : Waiter) → may_stand (place_at places key.node).last key.queue ≡ false → contains waiter_order more key ≡ false
