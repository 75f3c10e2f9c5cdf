-- Whom a step wakes.
use Rattle.std.specs.Prelude.{◌≡◌, ℕ, Bool, true, false, not, ◌&&◌, ◌||◌, nat_eq, nat_le, List, length, Option, option_and_then, get_or, slice_set, IfSome, ◌<◌, if◌then◌else◌}
use Rattle.std.specs.declared.option.Option.TheVariants.{None, Some}
use Rattle.std.specs.List.{find, list_any, position, All}
use Rattle.pl_model.specs.declared.calls.Limits.{Limits}
use Rattle.pl_model.specs.declared.calls.Step.{Step}
use Rattle.pl_model.specs.declared.history.Entry.{Entry}
use Rattle.pl_model.specs.History.{state_of_history}
use Rattle.pl_model.specs.Map.{get}
use Rattle.pl_model.specs.State.{Waiting as ParkedCall}
use Rattle.pl_model.specs.Numbered.{numbers, State}
use Rattle.pl_model.specs.Touching.{is_of_call}
use Rattle.pl_model.specs.Waking.{can_progress}
use Rattle.pl_kernel.specs.ToldCalls.{IsReadAt}
use Rattle.pl_locked.specs.declared.waiting.Waiting.{Waiting}
use Rattle.pl_locked.specs.declared.waiting.Waiting.TheVariants.{Nothing, Awake, Asleep, Together}
use Rattle.pl_locked.specs.declared.waiting.Looked.{Looked}
use Rattle.pl_locked.specs.declared.waiting.Looked.TheVariants.{Ends, Waits}

-- What is noted of the callers that wait: for which call each does, and whether all that sleep together are known to wait for reads of one
-- description.
pub record Notes : Type 0 where
  pub waiting : List Waiting
  pub alike : Bool

-- a caller waits for a call
abbrev pub waits : Waiting → Bool
waits Nothing = false
waits (Awake call) = true
waits (Asleep call) = true
waits (Together call) = true

-- what is noted of it once it was woken
abbrev pub awake : Waiting → Waiting
awake (Asleep call) = Awake call
awake (Together call) = Awake call
awake Nothing = Nothing
awake (Awake call) = Awake call

-- it is awake for the call of a number
abbrev pub is_awake_for : ℕ → Waiting → Bool
is_awake_for number (Awake call) = nat_eq number call
is_awake_for number Nothing = false
is_awake_for number (Asleep call) = false
is_awake_for number (Together call) = false

-- it sleeps until the call of a number can end
abbrev pub sleeps_for : ℕ → Waiting → Bool
sleeps_for number (Asleep call) = nat_eq number call
sleeps_for number (Together call) = nat_eq number call
sleeps_for number Nothing = false
sleeps_for number (Awake call) = false

-- a caller sleeps with others whose calls are reads of the same description
abbrev pub is_together : Waiting → Bool
is_together (Together call) = true
is_together Nothing = false
is_together (Awake call) = false
is_together (Asleep call) = false

-- and so for the call of a number
abbrev pub is_together_for : ℕ → Waiting → Bool
is_together_for number (Together call) = nat_eq number call
is_together_for number Nothing = false
is_together_for number (Awake call) = false
is_together_for number (Asleep call) = false

abbrev pub call_together : Waiting → Option ℕ
call_together (Together call) = Some call
call_together Nothing = None
call_together (Awake call) = None
call_together (Asleep call) = None

-- the call of the first that sleeps so
abbrev pub first_together : List Waiting → Option ℕ
first_together waiting = option_and_then call_together (find is_together waiting)

-- A call for which a caller waits can end: it can get on, or the journal has as many steps as it takes, and so the next try is refused.
abbrev pub can_end : {A : Type 0} → Limits → (most : ℕ) → List (Entry A) → ℕ → Bool
can_end limits most journal call = nat_le most (length journal) || can_progress (state_of_history limits journal).core call

module _ (can : ℕ → Bool) where
  -- a caller waits awake for a call, and that can end
  abbrev pub is_helped_awake : Waiting → Bool
  is_helped_awake (Awake call) = can call
  is_helped_awake Nothing = false
  is_helped_awake (Asleep call) = false
  is_helped_awake (Together call) = false

  -- a caller sleeps until a call can end, and that can
  abbrev pub is_helped_asleep : Waiting → Bool
  is_helped_asleep (Asleep call) = can call
  is_helped_asleep (Together call) = can call
  is_helped_asleep Nothing = false
  is_helped_asleep (Awake call) = false

  -- Nobody while the call of one that is awake can end. Else it is the first that sleeps and whose call can.
  abbrev pub to_wake : List Waiting → Option ℕ
  to_wake waiting = if list_any is_helped_awake waiting then None else position is_helped_asleep waiting

  -- Nobody sleeps in vain: if the call of a caller that sleeps can end, so can that of one that is awake.
  abbrev pub AreServed : List Waiting → Type 0
  AreServed waiting = to_wake waiting ≡ None

  -- the same as `is_helped_asleep`, where it may be known that the calls of those who sleep together can't end
  abbrev pub is_helped_but : (stuck : Bool) → Waiting → Bool
  is_helped_but stuck (Asleep call) = can call
  is_helped_but stuck (Together call) = not stuck && can call
  is_helped_but stuck Nothing = false
  is_helped_but stuck (Awake call) = false

  -- none can end of those for which callers sleep together
  abbrev pub AreStuck : List Waiting → Type 0
  AreStuck waiting = All (λ w. is_helped_but true w ≡ is_helped_asleep w) waiting

-- Whoever is woken is awake from then on: it looks itself.
abbrev pub woken : Option ℕ → List Waiting → List Waiting
woken None waiting = waiting
woken (Some k) waiting = slice_set waiting k (awake (get_or waiting k Nothing))

-- One note was changed, and then the first was woken that is to be. There are so many callers.
pub record Noted (callers : ℕ) (can : ℕ → Bool) (caller : ℕ) (note : Waiting) (old new : List Waiting) (whom : Option ℕ) : Type 0 where
  pub first : whom ≡ to_wake can (slice_set old caller note)
  pub notes : new ≡ woken whom (slice_set old caller note)
  pub within : IfSome whom (λ k. k < callers)

-- A caller looked whether its call can end. Where it can't, its note is changed to this one.
abbrev pub Looks : ℕ → (ℕ → Bool) → ℕ → ℕ → Waiting → List Waiting → List Waiting → Looked → Type 0
Looks callers can caller call note old new Ends = (can call ≡ true) × (new ≡ old)
Looks callers can caller call note old new (Waits whom) = (can call ≡ false) × Noted callers can caller note old new whom

module _ {A : Type 0} (s : State A) where
  -- who sleeps together waits for a read that keeps so
  abbrev pub SleepsBy : List ℕ → Waiting → Type 0
  SleepsBy kept (Together call) = IsReadAt s.core kept call
  SleepsBy kept Nothing = Unit {0}
  SleepsBy kept (Awake call) = Unit {0}
  SleepsBy kept (Asleep call) = Unit {0}

  -- All who sleep together wait for reads of one description.
  abbrev pub SleepAlike : List Waiting → Type 0
  SleepAlike waiting = (kept : List ℕ) × All (SleepsBy kept) waiting

  -- and a call is such a read too
  abbrev pub SleepAlikeWith : ℕ → List Waiting → Type 0
  SleepAlikeWith call waiting = (kept : List ℕ) × All (SleepsBy kept) waiting × IsReadAt s.core kept call

  abbrev pub is_of_parked : Step A → ℕ → Option (ParkedCall A numbers) → Bool
  is_of_parked x call None = false
  is_of_parked x call (Some w) = is_of_call x call w

  -- a step is of a call for which a caller sleeps together with others
  abbrev pub is_of_together : Step A → Waiting → Bool
  is_of_together x (Together call) = is_of_parked x call (get nat_eq s.core.parked call)
  is_of_together x Nothing = false
  is_of_together x (Awake call) = false
  is_of_together x (Asleep call) = false
