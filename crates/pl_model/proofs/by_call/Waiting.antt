-- A call that is tried again waits under its number.
use Rattle.std.proofs.Common.{◌≡◌, ℕ, true, Option, nat_eq, subst}
use Rattle.std.specs.declared.option.Option.TheVariants.{None, Some}
use Rattle.pl_model.specs.declared.calls.Step.TheVariants.{Resume}
use Rattle.pl_model.specs.declared.replies.Reply.TheVariants.{Parked}
use Rattle.pl_model.specs.Map.{get}
use Rattle.pl_model.specs.Keys.{Keys}
use Rattle.pl_model.specs.State.{Core, Waiting}
use Rattle.pl_model.specs.Trial.{Trial, Done, Wait}
use Rattle.pl_model.specs.Step.{try, core_step, happen, resumed, tried_again}
use Rattle.pl_model.specs.Numbered.{State, step}
use Rattle.pl_model.proofs.by_call.Refusals.{Fair, IsFair, try-fair}

module _ {A : Type 0} {K : Keys} (s : Core A K) (c d : ℕ) where
  number : (w : Option (Waiting A K)) → (resumed s c w).reply ≡ Parked d → d ≡ c
  number None r = absurd (cc)
  number (Some w) r = again (try s w w.call true) (try-fair s w w.call true) r
    where
      again : (t : Trial A K) → IsFair s t → (tried_again c w t).reply ≡ Parked d → d ≡ c
      again (Done u flow reply) fair r = absurd (subst (λ z. Fair s u flow z) r fair)
      again (Wait u flow taken) fair r = cc

pub resumed_number : {A : Type 0} (s : State A) (c d : ℕ) → (step s (Resume c)).reply ≡ Parked d → d ≡ c
unfolding step core_step happen
resumed_number s c d r = number s.core c d (get nat_eq s.core.parked c) r
