-- Which calls that wait can get on.
use Rattle.std.specs.Prelude.{◌≡◌, ℕ, Bool, true, false, not, nat_eq, [], Option, IfSome}
use Rattle.std.specs.declared.option.Option.TheVariants.{None, Some}
use Rattle.pl_model.specs.declared.calls.Step.TheVariants.{Resume}
use Rattle.pl_model.specs.declared.replies.Reply.TheVariants.{Parked}
use Rattle.pl_model.specs.Map.{get}
use Rattle.pl_model.specs.Keys.{Keys}
use Rattle.pl_model.specs.State.{Core, Waiting}
use Rattle.pl_model.specs.Trial.{Trial, Flow, Done, Wait}
use Rattle.pl_model.specs.Step.{try}
use Rattle.pl_model.specs.Numbered.{numbers, State, step}
use Rattle.pl_model.specs.Renaming.{Renamings, rename}

module _ {A : Type 0} {K : Keys} where
  -- A try gets the call on: it answers it, or it takes bytes beyond those that were taken before.
  abbrev pub gets_on : (taken : ℕ) → Trial A K → Bool
  gets_on taken (Done s flow reply) = true
  gets_on taken (Wait s flow now) = not (nat_eq now taken)

  -- the next try of a call that may be there does so; where there is none, the answer comes at once
  abbrev pub progresses : Core A K → Option (Waiting A K) → Bool
  progresses s None = true
  progresses s (Some w) = gets_on w.taken (try s w w.call true)

  -- the next Resume of the number gets its call on
  abbrev pub can_progress : Core A K → ℕ → Bool
  can_progress s c = progresses s (get nat_eq s.parked c)

-- no byte goes out of a pipe, or into one
pub record MovesNoByte {K : Keys} (flow : Flow K) : Type 0 where
  pub out : flow.out ≡ None
  pub into : IfSome flow.into (λ i. i.1 ≡ [])

-- A Resume of a call that can't get on is answered that it waits on, and moves no byte.
abbrev pub WaitsInVain : Type 0 → Type 0
WaitsInVain A =
    (s : State A) (c : ℕ) → can_progress s.core c ≡ false →
    ((step s (Resume c)).reply ≡ Parked c) × MovesNoByte (step s (Resume c)).flow

-- Whatever keys the state has, the same calls can get on.
abbrev pub ProgressesUnderRenaming : Type 0 → Type 0
ProgressesUnderRenaming A = (r : Renamings) (s : Core A numbers) (c : ℕ) → can_progress (rename r s) c ≡ can_progress s c
