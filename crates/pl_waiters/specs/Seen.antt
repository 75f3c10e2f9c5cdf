-- What is seen of an index of calls that wait.
use Rattle.std.specs.Prelude.{◌≡◌, ◌≤◌, ℕ, Bool, Option}
use Rattle.std.specs.declared.option.Option.TheVariants.{Some}
use Rattle.pl_least.specs.Numbers.{number_at}
use Rattle.pl_waiters.specs.declared.waiter.Waiter.{Waiter}
use Rattle.pl_waiters.specs.declared.waiters.Waiters.{Waiters}
use Rattle.pl_waiters.specs.Marks.{is_marked}
use Rattle.std.specs.BTreeSet.{btree_set_len, contains}
use Rattle.pl_waiters.specs.Queue.{waiter_order, place_at}
use Rattle.pl_waiters.specs.Queues.{has_waiter}

module _ {A : Type 0} where
  -- the call stands in the queue
  abbrev pub stands : Waiters A → Waiter → Bool
  stands w key = has_waiter w.queues key

  -- the call that has the plain place of the node, if one has
  abbrev pub one_at : Waiters A → (node : ℕ) → Option Waiter
  one_at w node = (place_at w.queues.places.items node).one

  -- the call stands in the set, beside the ones of the nodes
  abbrev pub is_further : Waiters A → Waiter → Bool
  is_further w key = contains waiter_order w.queues.more key

  -- how many do
  abbrev pub further : Waiters A → ℕ
  further w = btree_set_len w.queues.more

  -- the node is still to be asked
  abbrev pub is_touched : Waiters A → (node : ℕ) → Bool
  is_touched w node = is_marked w.touched node

  -- the least number of those at the node that could get on when it was asked
  abbrev pub least : Waiters A → (node : ℕ) → Option ℕ
  least w node = number_at w.least node

  -- A number was found at the node, and no lesser one at another.
  pub record IsFirst (w : Waiters A) (node : ℕ) : Type 0 where
    pub number : ℕ
    pub here : least w node ≡ Some number
    pub first : (other n : ℕ) → least w other ≡ Some n → number ≤ n

  -- the same calls stand in the same queues
  abbrev pub SameQueues : (old new : Waiters A) → Type 0
  SameQueues old new = (key : Waiter) → stands new key ≡ stands old key

  -- the same nodes are still to be asked
  abbrev pub SameMarks : (old new : Waiters A) → Type 0
  SameMarks old new = (node : ℕ) → is_touched new node ≡ is_touched old node

  -- and in the same order
  abbrev pub SameTouched : (old new : Waiters A) → Type 0
  SameTouched old new = new.touched ≡ old.touched

  -- the same numbers were found at the nodes
  abbrev pub SameNumbers : (old new : Waiters A) → Type 0
  SameNumbers old new = (node : ℕ) → least new node ≡ least old node

  -- and there are as many places
  abbrev pub SameLeast : (old new : Waiters A) → Type 0
  SameLeast old new = new.least ≡ old.least

  -- as many calls were looked at
  abbrev pub SameKnown : (old new : Waiters A) → Type 0
  SameKnown old new = new.looked ≡ old.looked
