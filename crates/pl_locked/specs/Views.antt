-- What contracts see of a layer and its callers, and what becomes of a call.
use Rattle.std.specs.Prelude.{◌≡◌, ◌==◌, ℕ, zero, suc, ◌+◌, ◌<◌, ◌≤◌, List, [], ◌∷◌, ◌++◌, length, true, Option, Some, None, ◌⊎◌}
use Rattle.std.specs.List.{sum_by, list_any, All}
use mathlib.Core.List.{IsPrefix}
use Rattle.pl_history.specs.Sights.{Tables}
use Rattle.pl_model.specs.declared.calls.Call.{Call}
use Rattle.pl_model.specs.declared.calls.Limits.{Limits}
use Rattle.pl_model.specs.declared.calls.Step.{Step}
use Rattle.pl_model.specs.declared.calls.Step.TheVariants.{Begin, Resume}
use Rattle.pl_model.specs.declared.replies.Reply.{Reply}
use Rattle.pl_model.specs.declared.replies.Reply.TheVariants.{Parked}
use Rattle.pl_model.specs.declared.history.Entry.{Entry}
use Rattle.pl_model.specs.History.{entry, of, IsLegal, state_of_history}
use Rattle.pl_model.specs.Waking.{can_progress}
use Rattle.pl_state.specs.Contents.{Contents}
use Rattle.pl_state.specs.Makes.{Stands}
use Rattle.pl_locked.specs.declared.waiting.Waiting.{Waiting}
use Rattle.pl_locked.specs.Waking.{can_end}

-- What a layer is made on: the name of its ledger, into how many parts that is cut, and its history word, with the name of its second ledger.
pub record GroundId : Type 0 where
  pub name : ℕ
  pub parts : ℕ
  pub table : Tables

-- A caller: its number, the history that it has seen, the entries that it made, how many it was handed, and how often it glanced.
pub record CallerView (A : Type 0) : Type 0 where
  pub number : ℕ
  pub seen : List (Entry A)
  pub made : List (Entry A)
  pub handed : ℕ
  pub glances : ℕ

-- What is kept of a kernel's steps: the journal of all of them, of which so many first entries were handed out.
pub record Kept (A : Type 0) : Type 0 where
  pub journal : List (Entry A)
  pub first : ℕ

-- What lies under the lock: the journal, how many of its first entries were handed out, and for which call each caller waits.
pub record Held (A : Type 0) : Type 0 where
  pub journal : List (Entry A)
  pub first : ℕ
  pub waiting : List Waiting

module _ {A : Type 0} where
  -- a caller that has seen and made nothing, and was handed nothing
  abbrev pub newcomer : ℕ → CallerView A
  newcomer k = record { number = k; seen = []; made = []; handed = 0; glances = 0 }

  -- the callers below n, none of which has seen or made anything, or was handed any
  abbrev pub newcomers : ℕ → List (CallerView A)
  newcomers zero = []
  newcomers (suc n) = newcomers n ++ newcomer n ∷ []

  -- caller k is among them
  abbrev pub HasCaller : List (CallerView A) → ℕ → Type 0
  HasCaller callers k = list_any (λ c. c.number == k) callers ≡ true

  -- k is the least number below n that none of these callers has
  abbrev pub IsLeastMissing : ℕ → List (CallerView A) → ℕ → Type 0
  IsLeastMissing n callers k = (k < n) × ¬ HasCaller callers k × ((j : ℕ) → j < k → HasCaller callers j)

  -- how many entries these callers made
  abbrev pub total_made : List (CallerView A) → ℕ
  total_made callers = sum_by (λ c. length c.made) callers

  -- how many entries they were handed
  abbrev pub total_handed : List (CallerView A) → ℕ
  total_handed callers = sum_by (λ c. c.handed) callers

  -- the entries xs stand among ys, in this order
  abbrev pub IsSub : List (Entry A) → List (Entry A) → Type 0
  IsSub [] ys = Unit {0}
  IsSub (x ∷ xs) [] = ⊥
  IsSub (x ∷ xs) (y ∷ ys) = ((x ≡ y) × IsSub xs ys) ⊎ IsSub (x ∷ xs) ys

  -- These entries are the rest of the journal behind its first ones, of which there are so many.
  pub record IsRest (first : ℕ) (journal rest : List (Entry A)) : Type 0 where
    pub before : List (Entry A)
    pub count : length before ≡ first
    pub all : journal ≡ before ++ rest

  -- The journal begins with what the caller has seen, and its entries of the caller are just those that the caller made.
  abbrev pub IsDone : List (Entry A) → CallerView A → Type 0
  IsDone journal c = IsPrefix c.seen journal × (of c.number journal ≡ c.made)

  -- A layer ended so: its journal is legal, with as many entries as these callers made. It begins with what each has seen, and has just
  -- what each made. These entries are its rest behind the first ones, which are as many as the callers were handed. The kernel stands for
  -- the state that the journal leads to.
  pub record Ends (limits : Limits) (callers : List (CallerView A)) (first : ℕ) (rest : List (Entry A)) (k : Contents A) : Type 0 where
    pub journal : List (Entry A)
    pub part : IsRest first journal rest
    pub legal : IsLegal limits journal
    pub count : length journal ≡ total_made callers
    pub handed : first ≡ total_handed callers
    pub each : All (IsDone journal) callers
    pub kernel : Stands k (state_of_history limits journal)

  -- The caller made nothing, and was handed nothing. It may have seen more.
  pub record Sees (old new : CallerView A) : Type 0 where
    pub number : new.number ≡ old.number
    pub made : new.made ≡ old.made
    pub handed : new.handed ≡ old.handed
    pub earlier : IsPrefix old.seen new.seen

  -- The caller glanced once, and did nothing else.
  abbrev pub Glances : CallerView A → CallerView A → Type 0
  Glances old new = Sees old new × (new.glances ≡ old.glances + 1)

  -- The caller has seen a legal history of at most so many entries, in which what it made stands in order among its own.
  pub record Knows (limits : Limits) (most : ℕ) (c : CallerView A) : Type 0 where
    pub legal : IsLegal limits c.seen
    pub room : length c.seen ≤ most
    pub own : IsSub c.made (of c.number c.seen)

  -- The caller made nothing, was handed nothing, and has seen all that had happened.
  abbrev pub Shown : Limits → ℕ → CallerView A → CallerView A → Type 0
  Shown limits most old new = Sees old new × Knows limits most new

  -- The caller made nothing, and has seen all that had happened. Of that it was handed these entries, behind as many first ones. It was
  -- handed no more than so many before.
  pub record IsHanded (limits : Limits) (most : ℕ) (old new : CallerView A) (first : ℕ) (entries : List (Entry A)) : Type 0 where
    pub number : new.number ≡ old.number
    pub made : new.made ≡ old.made
    pub earlier : IsPrefix old.seen new.seen
    pub knows : Knows limits most new
    pub part : IsRest first new.seen entries
    pub handed : new.handed ≡ old.handed + length entries
    pub before : old.handed ≤ first

  -- The caller has seen a history that is full.
  abbrev pub Full : ℕ → CallerView A → Type 0
  Full most c = length c.seen ≡ most

  -- The entry is the last of a legal journal of at most so many: so its reply is the machine's there, and its number right.
  pub record IsLastOf (limits : Limits) (most : ℕ) (e : Entry A) : Type 0 where
    pub before : List (Entry A)
    pub legal : IsLegal limits (before ++ e ∷ [])
    pub room : length before < most

  -- The caller made one entry more, of this step with this reply. It is the last of the history that the caller has now seen, which
  -- goes on from what it had.
  pub record Gains (limits : Limits) (most : ℕ) (old new : CallerView A) (x : Step A) (r : Reply A) : Type 0 where
    pub before : List (Entry A)
    pub earlier : IsPrefix old.seen before
    pub seen : new.seen ≡ before ++ entry old.number (length (of old.number before)) x r ∷ []
    pub made : new.made ≡ old.made ++ entry old.number (length (of old.number before)) x r ∷ []
    pub number : new.number ≡ old.number
    pub handed : new.handed ≡ old.handed
    pub knows : Knows limits most new

  -- The caller has seen one entry behind the history.
  abbrev pub IsBehind : List (Entry A) → CallerView A → Type 0
  IsBehind history c = (e : Entry A) × (c.seen ≡ history ++ e ∷ [])

  -- the reply answers a call
  abbrev pub IsAnswer : Reply A → Type 0
  IsAnswer (Parked c) = ⊥
  IsAnswer _ = Unit {0}

  -- Caller k tried call c again, which waits on.
  abbrev pub WaitsOn : Limits → ℕ → ℕ → ℕ → Entry A → Type 0
  WaitsOn limits most k c e = (e.caller ≡ k) × (e.step ≡ Resume c) × (e.reply ≡ Parked c) × IsLastOf limits most e

  -- The caller began the call of process pid, which was parked as c. It tried it again, maybe often, and it waits on.
  pub record Waits (limits : Limits) (most pid : ℕ) (call : Call A) (c : ℕ) (old new : CallerView A) : Type 0 where
    pub number : new.number ≡ old.number
    pub handed : new.handed ≡ old.handed
    pub earlier : IsPrefix old.seen new.seen
    pub first : ℕ
    pub began : IsLastOf limits most (entry old.number first (Begin pid call) (Parked c))
    pub turns : List (Entry A)
    pub waiting : All (WaitsOn limits most old.number c) turns
    pub made : new.made ≡ old.made ++ entry old.number first (Begin pid call) (Parked c) ∷ turns

  -- The call was answered at once; or it was parked, tried again, and answered.
  abbrev pub Called : Limits → ℕ → CallerView A → CallerView A → ℕ → Call A → Reply A → Type 0
  Called limits most old new pid call r =
      IsAnswer r
      × (Gains limits most old new (Begin pid call) r
      ⊎ ((c : ℕ) × (between : CallerView A) × Waits limits most pid call c old between × Gains limits most between new (Resume c) r))

  -- the call waits, and was tried again at most n times
  abbrev pub WaitsIn : ℕ → Limits → ℕ → ℕ → Call A → ℕ → CallerView A → CallerView A → Type 0
  WaitsIn n limits most pid call c old new = (w : Waits limits most pid call c old new) × (length w.turns ≤ n)

  -- The call was answered at once; or it was parked, and answered within n turns; or it still waits after so many.
  abbrev pub CalledIn : ℕ → Limits → ℕ → CallerView A → CallerView A → ℕ → Call A → Reply A → Type 0
  CalledIn n limits most old new pid call r =
      (IsAnswer r × Gains limits most old new (Begin pid call) r)
      ⊎ (((c : ℕ) × (between : CallerView A) × (w : Waits limits most pid call c old between) × (length w.turns < n) × IsAnswer r × Gains limits most between new (Resume c) r)
      ⊎ ((c : ℕ) × WaitsIn n limits most pid call c old new × (r ≡ Parked c)))

  -- A call that was not answered: nothing is parked and nothing was made, or it stays parked as c. Either way the caller has seen all
  -- that had happened.
  abbrev pub Failed : Limits → ℕ → CallerView A → CallerView A → ℕ → Call A → Option ℕ → Type 0
  Failed limits most old new pid call None = Shown limits most old new
  Failed limits most old new pid call (Some c) = Waits limits most pid call c old new × Knows limits most new

  -- One more turn of call c: it waits on, or it was answered.
  abbrev pub Turned : Limits → ℕ → CallerView A → CallerView A → ℕ → Option (Reply A) → Type 0
  Turned limits most old new c None = Gains limits most old new (Resume c) (Parked c)
  Turned limits most old new c (Some r) = IsAnswer r × Gains limits most old new (Resume c) r

  -- The caller glanced, and saw more than before.
  abbrev pub GlancesMore : CallerView A → CallerView A → Type 0
  GlancesMore old new = Glances old new × (length old.seen < length new.seen)

  -- It made this step with this reply, and didn't glance.
  abbrev pub Makes : Limits → ℕ → CallerView A → CallerView A → Step A → Reply A → Type 0
  Makes limits most old new x r = Gains limits most old new x r × (new.glances ≡ old.glances)

  -- A turn of call c after which it waits on: a glance, and one more try exactly if there was more to see.
  abbrev pub IsTurn : Limits → ℕ → ℕ → CallerView A → CallerView A → Type 0
  IsTurn limits most c old new =
      (Glances old new × (length new.seen ≡ length old.seen))
      ⊎ ((glanced : CallerView A) × GlancesMore old glanced × Makes limits most glanced new (Resume c) (Parked c))

  -- n such turns
  abbrev pub AreTurns : ℕ → Limits → ℕ → ℕ → CallerView A → CallerView A → Type 0
  AreTurns zero limits most c old new = new ≡ old
  AreTurns (suc n) limits most c old new = (mid : CallerView A) × AreTurns n limits most c old mid × IsTurn limits most c mid new

  -- The call was begun, and waits as c after all of n turns.
  pub record UsesTurns (n : ℕ) (limits : Limits) (most pid : ℕ) (call : Call A) (c : ℕ) (old new : CallerView A) : Type 0 where
    pub begun : CallerView A
    pub began : Makes limits most old begun (Begin pid call) (Parked c)
    pub turns : AreTurns n limits most c begun new

  -- One turn of call c: it waits on, or the one more try answered it.
  abbrev pub Glanced : Limits → ℕ → CallerView A → CallerView A → ℕ → Option (Reply A) → Type 0
  Glanced limits most old new c None = IsTurn limits most c old new
  Glanced limits most old new c (Some r) = IsAnswer r × (glanced : CallerView A) × GlancesMore old glanced × Makes limits most glanced new (Resume c) r

  -- The call could get on where the history stood so.
  abbrev pub CouldGetOn : Limits → List (Entry A) → ℕ → Type 0
  CouldGetOn limits history c = can_progress (state_of_history limits history).core c ≡ true

  -- The call could end there: it could get on, or the next step was refused.
  abbrev pub CouldEnd : Limits → ℕ → List (Entry A) → ℕ → Type 0
  CouldEnd limits most history c = can_end limits most history c ≡ true

  -- If the entry tries a call again, that could get on.
  abbrev pub IsNotInVain : Limits → Entry A → Type 0
  IsNotInVain limits e = (c : ℕ) → e.step ≡ Resume c → (before : List (Entry A)) × IsLegal limits (before ++ e ∷ []) × CouldGetOn limits before c

  -- No try in what the caller made since was in vain.
  pub record NoneInVain (limits : Limits) (old new : CallerView A) : Type 0 where
    pub more : List (Entry A)
    pub made : new.made ≡ old.made ++ more
    pub none : All (IsNotInVain limits) more
