-- Whether a step took bytes of a call that waits on, of the flat machine.
use Rattle.std.specs.Prelude.{ℕ, ◌<◌, Bool, true, false, nat_lt, length, MatchOption}
use Rattle.pl_model.specs.declared.calls.Step.{Step}
use Rattle.pl_model.specs.declared.calls.Step.TheVariants.{Resume}
use Rattle.pl_model.specs.declared.replies.Reply.{Reply}
use Rattle.pl_model.specs.declared.replies.Reply.TheVariants.{Parked}
use Rattle.pl_model.specs.Fates.{taken_by}
use Rattle.pl_model.specs.Keys.{Keys}
use Rattle.pl_model.specs.Numbered.{State, step}
use Rattle.pl_model.specs.Trial.{Flow}
use Rattle.pl_model.specs.Waking.{MovesNoByte}

module _ {A : Type 0} where
  -- how many bytes the call of a step had taken before the step: none, if it begins with it
  abbrev pub taken_before : State A → Step A → ℕ
  taken_before s (Resume number) = taken_by s.core number
  taken_before s other = 0

  -- the reply is that the call waits, and by then it has taken more than so many bytes
  abbrev pub has_taken_more : (before : ℕ) → (after : State A) → Reply A → Bool
  has_taken_more before after (Parked number) = nat_lt before (taken_by after.core number)
  has_taken_more before after other = false

  -- the call of a step waits after it, and has taken more bytes than before it
  abbrev pub takes_more : State A → Step A → Bool
  takes_more s x = has_taken_more (taken_before s x) (step s x).state (step s x).reply

-- The bytes that a step moved are as was told of them: some went into a pipe; or none did, and none went out of one.
abbrev pub FlowsAsTold : {K : Keys} → (moved : Bool) → Flow K → Type 0
FlowsAsTold true flow = MatchOption flow.into ⊥ (λ i. 0 < length i.1)
FlowsAsTold false flow = MovesNoByte flow
