-- What is known of the calls of a queue.
use Rattle.std.specs.Prelude.{◌≡◌, ◌≢◌, ◌≤◌, ◌<◌, ◌^◌, ◌⊎◌, ℕ, true, false, nat_eq, min, Option, IsSome, IfSome, if◌then◌else◌}
use Rattle.std.specs.declared.option.Option.TheVariants.{None, Some}
use Rattle.pl_model.specs.Map.{get}
use Rattle.pl_model.specs.State.{Core}
use Rattle.pl_model.specs.Numbered.{numbers}
use Rattle.pl_least.specs.None.{none}
use Rattle.pl_kernel.specs.Progress.{is_ready}
use Rattle.pl_kernel.specs.declared.asking.Found.{Found}
use Rattle.pl_kernel.specs.declared.asking.Found.TheVariants.{Gone, Stuck, Ready}
use Rattle.pl_waiters.specs.declared.waiter.Waiter.{Waiter}
use Rattle.pl_waiters.specs.declared.waiters.Waiters.{Waiters}
use Rattle.pl_waiters.specs.Queue.{waiter, IsBefore}
use Rattle.pl_waiters.specs.Seen.{stands, least, SameTouched, SameLeast, SameKnown}
use Rattle.pl_kernel.specs.Queues.{others, answers_to, polls_of_pipes, is_polls}
use Rattle.pl_kernel.specs.Index.{is_open}

module _ {A : Type 0} (c : Core A numbers) where
  -- What is known of the calls that stand in the queues, from what a kernel's state is known to be.
  pub record AreUnderstood (w : Waiters A) : Type 0 where
    -- if one that waits can't get on, none can for which it answers
    pub alike : (at one other a b : ℕ) → one ≢ others → one ≤ other → other ≤ answers_to one → stands w (waiter at one a) ≡ true → stands w (waiter at other b) ≡ true → IsSome (get nat_eq c.parked a) →
        is_open c (waiter at one a) ≡ false → is_open c (waiter at other b) ≡ false
    -- one that can get on for the sake of its queue can
    pub sound : (key : Waiter) → stands w key ≡ true → is_open c key ≡ true → is_ready c key.number ≡ true
    -- one that can get on does so for the sake of a queue
    pub some : (n : ℕ) → is_ready c n ≡ true → n < w.looked → (key : Waiter) × (key.number ≡ n) × (stands w key ≡ true) × (is_open c key ≡ true)
    -- a pipe of which a poll asks something is there
    pub there : (key : Waiter) → stands w key ≡ true → IsSome (get nat_eq c.parked key.number) → is_polls key.queue ≡ true → polls_of_pipes ≤ key.queue → IsSome (c.pipes key.node)
    -- no number of a queue is too large, nor of a call
    pub fits : (key : Waiter) → stands w key ≡ true → IsSome (get nat_eq c.parked key.number) → key.queue < 2 ^ 64
    pub below : (n : ℕ) → is_ready c n ≡ true → n < none

  -- No call that waits was taken out of a queue, and nothing else changed.
  pub record Prunes (old new : Waiters A) : Type 0 where
    pub fewer : (key : Waiter) → stands new key ≡ true → stands old key ≡ true
    pub kept : (key : Waiter) → IsSome (get nat_eq c.parked key.number) → stands old key ≡ true → stands new key ≡ true
    pub touched : SameTouched old new
    pub least_ones : SameLeast old new
    pub known : SameKnown old new

  -- Of a queue no call from a number on, up to the greatest one, can get on for its sake that is below what was found.
  abbrev pub Covers : Waiters A → (node queue from : ℕ) → Option ℕ → Type 0
  Covers w node queue from found =
      (other : ℕ) → from ≤ other → other < 2 ^ 64 → stands w (waiter node queue other) ≡ true → is_open c (waiter node queue other) ≡ true → (n : ℕ) × (found ≡ Some n) × (n ≤ other)

  -- So it is of each queue of the node, if a call was found there before.
  abbrev pub CoversNode : Waiters A → (node from : ℕ) → Option ℕ → Type 0
  CoversNode w node from found = (m : ℕ) → least w node ≡ Some m → (queue : ℕ) → queue < 2 ^ 64 → Covers w node queue from found

  -- What was found can get on, and is at most any other that can, from a number on and below another.
  pub record FindsBelow (from looked : ℕ) (found : Option ℕ) : Type 0 where
    pub some : IfSome found (λ n. (from ≤ n) × (is_ready c n ≡ true))
    pub most : (n : ℕ) → from ≤ n → n < looked → is_ready c n ≡ true → (m : ℕ) × (found ≡ Some m) × (m ≤ n)

-- It stands before the call that was asked, or is that one, or is of a queue for which it answered, if it did so for any: up to the last one.
abbrev pub IsDone : (asked : Waiter) → (last : Option ℕ) → (queue number : ℕ) → Type 0
IsDone asked None queue number = IsBefore queue number asked ⊎ ((queue ≡ asked.queue) × (number ≡ asked.number))
IsDone asked (Some last) queue number = IsBefore queue number asked ⊎ ((asked.queue ≤ queue) × (queue ≤ last))

-- Each that stands before this place is done.
abbrev pub IsPast : (queue number : ℕ) → (asked : Waiter) → (last : Option ℕ) → Type 0
IsPast queue number asked last = (q n : ℕ) → n < 2 ^ 64 → IsBefore q n (waiter asked.node queue number) → IsDone asked last q n

-- the number of a call that was asked, if it can make progress
abbrev pub number_if : Found → ℕ → Option ℕ
number_if Ready n = Some n
number_if Stuck n = None
number_if Gone n = None

-- up to which queue what it came to answers for the calls from there on, if it does: those of its own queue after one that is ready have greater
-- numbers
abbrev pub answered_to : Found → (queue : ℕ) → Option ℕ
answered_to Ready queue = Some queue
answered_to Stuck queue = if nat_eq queue others then None else Some (answers_to queue)
answered_to Gone queue = None

-- the lesser one of two numbers, where there are any
abbrev pub lesser_of : Option ℕ → Option ℕ → Option ℕ
lesser_of None o = o
lesser_of (Some a) None = Some a
lesser_of (Some a) (Some b) = Some (min a b)
