-- A call that waits at no node that a step touches is left as it was.
use Rattle.std.proofs.Common.{◌≡◌, ℕ, ◌<◌, length, true, false, Some, sym, subst, nat_eq}
use Rattle.pl_model.specs.declared.calls.Step.{Step}
use Rattle.pl_model.specs.Map.{get}
use Rattle.pl_model.specs.Keys.{Node, NewKeys, drawn}
use Rattle.pl_model.specs.State.{Core, Waiting}
use Rattle.pl_model.specs.Step.{Stepped, happen, core_step}
use Rattle.pl_model.specs.Numbered.{numbers}
use Rattle.pl_model.specs.StandsFor.{AreUnused}
use Rattle.pl_model.specs.Waking.{can_progress}
use Rattle.pl_model.specs.Touching.{keeps_at, touches, is_of_call}
use Rattle.pl_model.proofs.touching.SameAt.{IsFit}
use Rattle.pl_model.proofs.touching.Happening.{happened, call_stays, of_another}
use Rattle.pl_model.proofs.touching.Parked.{happen-limits, core_step-is, Stays, ended-stays}

module _ {A : Type 0} (c : Core A numbers) (x : Step A) (new : NewKeys numbers) (unused : AreUnused c new) (fit : IsFit c) (number : ℕ) (w : Waiting A numbers)
    (here : get nat_eq c.parked number ≡ Some w) (away : (node : Node numbers) → keeps_at c node w ≡ true → touches c x node ≡ false) where
  -- The step is of another call, or of none.
  pub untouched_by_another : is_of_call x number w ≡ false → let u = (drawn new (core_step c x)).state in (get nat_eq u.parked number ≡ Some w) × (can_progress u number ≡ can_progress c number)
  untouched_by_another other =
      let h = (drawn new (happen c x)).state in
      subst (λ (z : Stepped A numbers). Stays c fit number w here z.state) (sym (core_step-is c x new))
      (ended-stays c fit number w here h (happen-limits c x new) (call_stays c x new unused fit number w here other away)
      (λ node d live on keeps. happened c x new unused fit node d live on (away node keeps)))

  -- It is so where the call keeps something, as a step of the call touches that.
  pub untouched : 0 < length w.kept → let u = (drawn new (core_step c x)).state in (get nat_eq u.parked number ≡ Some w) × (can_progress u number ≡ can_progress c number)
  untouched some = untouched_by_another (of_another c fit number w here some x away)
