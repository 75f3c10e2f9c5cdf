-- A call that is tried in vain leaves every call as it was.
use Rattle.std.proofs.Common.{◌≡◌, ℕ, true, false, Option, refl, sym, subst, nat_eq}
use Rattle.std.specs.declared.option.Option.TheVariants.{None, Some}
use Rattle.pl_model.specs.declared.calls.Step.TheVariants.{Resume}
use Rattle.pl_model.specs.Map.{get}
use Rattle.pl_model.specs.Keys.{NewKeys, drawn}
use Rattle.pl_model.specs.State.{Core, Waiting}
use Rattle.pl_model.specs.Trial.{Trial, Done, Wait}
use Rattle.pl_model.specs.Step.{Stepped, try, core_step, happen, resumed, tried_again, parked_again}
use Rattle.pl_model.specs.Numbered.{numbers}
use Rattle.pl_model.specs.Laws.{IsSettled}
use Rattle.pl_model.specs.Waking.{gets_on, progresses, can_progress, MovesNoByte}
use Rattle.pl_model.proofs.by_call.InVain.{Idle, try-idle, stuck_at}
use Rattle.pl_model.proofs.touching.SameAt.{IsFit}
use Rattle.pl_model.proofs.touching.Parked.{core_step-is, Stays}
use Rattle.pl_model.proofs.touching.Idle.{IsLeft, left-stays, flowed-is, again-left}

module _ {A : Type 0} (c : Core A numbers) (k : ℕ) where
  tried-left : IsSettled c → (w : Waiting A numbers) (t : Trial A numbers) → get nat_eq c.parked k ≡ Some w → Idle c w.taken t → gets_on w.taken t ≡ false → IsLeft c (tried_again k w t).state
  tried-left settled w (Done u flow reply) here idle stuck = absurd (cc)
  tried-left settled w (Wait u flow now) here idle stuck =
      let same : now ≡ w.taken = stuck_at now w.taken stuck in
      let still : MovesNoByte flow = idle.1 same in
      subst (IsLeft c) (λ i. parked_again (sym (flowed-is c u flow idle.0 still.out) i) k (record w { taken = sym same i })) (again-left c settled flow.into still.into k w here)

  resumed-left : IsSettled c → (o : Option (Waiting A numbers)) → get nat_eq c.parked k ≡ o → progresses c o ≡ false → IsLeft c (resumed c k o).state
  resumed-left settled None here stuck = absurd (cc)
  resumed-left settled (Some w) here stuck = tried-left settled w (try c w w.call true) here (try-idle c w w.call true) stuck

  happen-left : (new : NewKeys numbers) → IsSettled c → can_progress c k ≡ false → IsLeft c (drawn new (happen c (Resume k))).state
  unfolding happen
  happen-left new settled stuck = resumed-left settled (get nat_eq c.parked k) refl stuck

  -- The call itself too is parked as it was.
  pub idle_resumed : (new : NewKeys numbers) → IsFit c → can_progress c k ≡ false → (number : ℕ) (w : Waiting A numbers) → get nat_eq c.parked number ≡ Some w →
      let u = (drawn new (core_step c (Resume k))).state in (get nat_eq u.parked number ≡ Some w) × (can_progress u number ≡ can_progress c number)
  idle_resumed new fit stuck number w here =
      subst (λ (z : Stepped A numbers). Stays c fit number w here z.state) (sym (core_step-is c (Resume k) new))
      (left-stays c (drawn new (happen c (Resume k))).state fit (happen-left new fit.settled stuck) number w here)
