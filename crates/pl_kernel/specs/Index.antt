-- What the kernel's index knows of the calls that wait.
use Rattle.std.specs.Prelude.{◌≡◌, ◌≤◌, ◌<◌, ℕ, Bool, Option, true, false, ◌&&◌, ◌⊎◌, nat_eq, is_some, IsSome, ⊤, List, if◌then◌else◌}
use Rattle.std.specs.declared.option.Option.TheVariants.{None, Some}
use Rattle.pl_model.specs.declared.calls.Step.{Step}
use Rattle.pl_model.specs.Map.{get}
use Rattle.pl_model.specs.Keys.{Node}
use Rattle.pl_model.specs.State.{Core, Waiting}
use Rattle.pl_model.specs.Numbered.{numbers}
use Rattle.pl_model.specs.Waking.{can_progress}
use Rattle.pl_model.specs.Touching.{touches}
use Rattle.pl_kernel.specs.Progress.{is_ready}
use Rattle.pl_kernel.specs.ToldNodes.{key_of}
use Rattle.pl_waiters.specs.declared.waiter.Waiter.{Waiter}
use Rattle.pl_waiters.specs.declared.waiters.Waiters.{Waiters}
use Rattle.pl_waiters.specs.Seen.{stands, is_touched, least, SameQueues, SameLeast, SameNumbers, SameKnown}
use Rattle.pl_kernel.specs.Queues.{ends, places, is_place, is_placed, is_polls, finds}

-- The call waits, and can get on for the sake of its queue: a poll by what it asks of that node, any other call at all.
abbrev pub is_open : {A : Type 0} → Core A numbers → Waiter → Bool
is_open c key = is_some (get nat_eq c.parked key.number) && (if is_polls key.queue then finds c key.node key.queue else can_progress c key.number)

module _ {A : Type 0} where
  -- the call waits in that queue of that node
  abbrev pub IsIn : Core A numbers → Waiter → Waiting A numbers → Type 0
  IsIn c key v = is_place (places v.call (ends c v.kept)) key.node key.queue ≡ true

  -- The node is still to be asked, or a call was found there that has this number or a lesser one.
  abbrev pub IsUp : Waiters A → (key number : ℕ) → Type 0
  IsUp w key number = (is_touched w key ≡ true) ⊎ ((n : ℕ) × (least w key ≡ Some n) × (n ≤ number))

  -- the same, or it is the one node that is just being asked, if there is one
  abbrev pub IsUpBut : Waiters A → (hole : Option ℕ) → (key number : ℕ) → Type 0
  IsUpBut w hole key number = (hole ≡ Some key) ⊎ IsUp w key number

  -- A queue in which a call stands that is no poll, and at whose node it is up.
  pub record IsUpSomewhere (w : Waiters A) (hole : Option ℕ) (number : ℕ) : Type 0 where
    pub key : Waiter
    pub of_it : key.number ≡ number
    pub no_poll : is_polls key.queue ≡ false
    pub there : stands w key ≡ true
    pub up : IsUpBut w hole key.node number

  -- What is known of the calls, but for the node that is just being asked: each that was looked at stands in its queues. A poll is up at each node
  -- where it finds something, any other call that was looked at and can get on at some node. What stands in a queue was parked, and waits there.
  pub record KnowsBut (c : Core A numbers) (w : Waiters A) (hole : Option ℕ) : Type 0 where
    pub coming : w.looked ≤ c.next_call
    pub placed : (key : Waiter) (v : Waiting A numbers) → get nat_eq c.parked key.number ≡ Some v → key.number < w.looked → IsIn c key v → stands w key ≡ true
    pub whole : (number : ℕ) (v : Waiting A numbers) → get nat_eq c.parked number ≡ Some v → number < w.looked → is_placed v.call (ends c v.kept) ≡ true
    pub polled : (key : Waiter) → is_polls key.queue ≡ true → stands w key ≡ true → is_open c key ≡ true → IsUpBut w hole key.node key.number
    pub told : (key : Waiter) → is_polls key.queue ≡ false → stands w key ≡ true → is_open c key ≡ true → key.number < w.looked → IsUpSomewhere w hole key.number
    pub right : (key : Waiter) → stands w key ≡ true → (v : Waiting A numbers) → get nat_eq c.parked key.number ≡ Some v → IsIn c key v
    pub given : (key : Waiter) → stands w key ≡ true → key.number < c.next_call

  -- where no node is being asked
  abbrev pub Knows : Core A numbers → Waiters A → Type 0
  Knows c w = KnowsBut c w None

  -- No call was taken from its queues, and no node from those that are to be asked.
  pub record IsNoLess (old new : Waiters A) : Type 0 where
    pub queues : SameQueues old new
    pub least_ones : SameLeast old new
    pub known : SameKnown old new
    pub more : (key : ℕ) → is_touched old key ≡ true → is_touched new key ≡ true

  -- The node is to be asked, if a call stands there.
  abbrev pub IsTouched : (old new : Waiters A) → (key : ℕ) → Type 0
  IsTouched old new key = (x : Waiter) → x.node ≡ key → stands old x ≡ true → is_touched new key ≡ true

  -- if there is a key
  abbrev pub IsTouchedAt : (old new : Waiters A) → Option ℕ → Type 0
  IsTouchedAt old new None = ⊤
  IsTouchedAt old new (Some key) = IsTouched old new key

  -- Each node that passes the test is to be asked, if a call stands there.
  abbrev pub TouchesAll : (old new : Waiters A) → (Node numbers → Bool) → Type 0
  TouchesAll old new test = (node : Node numbers) → test node ≡ true → IsTouched old new (key_of node)

  -- Each node that the step touches is to be asked, if a call that waits stands there.
  pub record Touches (c : Core A numbers) (x : Step A) (old new : Waiters A) : Type 0 where
    pub no_less : IsNoLess old new
    pub touched : (node : Node numbers) → touches c x node ≡ true → (key : Waiter) → key.node ≡ key_of node → IsSome (get nat_eq c.parked key.number) → stands old key ≡ true → is_touched new (key_of node) ≡ true

  -- The call of this number was added to some of these queues, whose nodes are to be asked, and to no other; where it is done, to all. No call
  -- that waits was taken out.
  pub record Adds (c : Core A numbers) (old new : Waiters A) (number : ℕ) (ps : List (ℕ × ℕ)) (done : Bool) : Type 0 where
    pub looked : new.looked ≡ old.looked
    pub least_ones : SameNumbers old new
    pub more : (key : ℕ) → is_touched old key ≡ true → is_touched new key ≡ true
    pub kept : (key : Waiter) → IsSome (get nat_eq c.parked key.number) → stands old key ≡ true → stands new key ≡ true
    pub only : (key : Waiter) → stands new key ≡ true → (stands old key ≡ true) ⊎ ((key.number ≡ number) × (is_place ps key.node key.queue ≡ true) × (is_touched new key.node ≡ true))
    pub added : done ≡ true → (key : Waiter) → key.number ≡ number → is_place ps key.node key.queue ≡ true → (stands new key ≡ true) × (is_touched new key.node ≡ true)

-- where it was found out that no call can make progress, none can
abbrev pub FindsNone : {A : Type 0} → Core A numbers → (none_ready : Bool) → Type 0
FindsNone c none_ready = none_ready ≡ true → (number : ℕ) → is_ready c number ≡ false
