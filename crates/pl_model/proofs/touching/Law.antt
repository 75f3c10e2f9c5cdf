-- What a step leaves of the calls that wait, in the words of the law.
use Rattle.std.proofs.Common.{◌≡◌, ℕ, ◌+◌, ◌<◌, length, true, false, refl, sym, subst, ◌∙◌, ap, Some, nat_eq, arith}
use Rattle.pl_model.specs.declared.calls.Call.{Call}
use Rattle.pl_model.specs.declared.calls.Step.{Step}
use Rattle.pl_model.specs.declared.calls.Step.TheVariants.{Begin, Resume}
use Rattle.pl_model.specs.declared.replies.Reply.TheVariants.{Parked}
use Rattle.pl_model.specs.Map.{get}
use Rattle.pl_model.specs.Keys.{Node, Drawing, Plain, Draws, drawn}
use Rattle.pl_model.specs.State.{Core, Waiting}
use Rattle.pl_model.specs.Step.{Stepped, core_step}
use Rattle.pl_model.specs.Numbered.{numbers, State, next_numbers, step_of, step}
use Rattle.pl_model.specs.StandsFor.{AreUnused, IsBelowCounters}
use Rattle.pl_model.specs.Waking.{can_progress}
use Rattle.pl_model.specs.Touching.{keeps_at, touches, is_of_call}
use Rattle.pl_model.specs.TouchingLaw.{IsWhole, IsUndisturbed, GoesOn, opens_name}
use Rattle.pl_model.proofs.touching.SameAt.{IsFit}
use Rattle.pl_model.proofs.touching.Untouched.{untouched, untouched_by_another}
use Rattle.pl_model.proofs.touching.Begun.{idle_begun}
use Rattle.pl_model.proofs.touching.InVain.{idle_resumed}
use Rattle.pl_model.proofs.touching.Going.{step_waits}

module _ {A : Type 0} (s : State A) where
  fit_of : IsWhole s → IsFit s.core
  fit_of whole = record { settled = whole.sound.settled; once = whole.order.once; rows = whole.rows; kept = whole.kept; there = whole.there }

  -- the next numbers are unused
  next_unused : IsBelowCounters s → AreUnused s.core (next_numbers s)
  next_unused below = record {
    description = below.descriptions s.next_description (omega arith);
    other_description = below.descriptions (s.next_description + 1) (omega arith);
    apart = λ e. omega (arith, e);
    pipe = below.pipes s.next_pipe (omega arith);
    file = below.files s.next_file (omega arith);
  }

  core_of : (d : Drawing numbers (Stepped A numbers)) → (step_of s d).state.core ≡ (drawn (next_numbers s) d).state
  core_of (Plain h) = refl
  core_of (Draws f) = refl

  reply_of : (d : Drawing numbers (Stepped A numbers)) → (step_of s d).reply ≡ (drawn (next_numbers s) d).reply
  reply_of (Plain h) = refl
  reply_of (Draws f) = refl

  module _ (x : Step A) where
    leaves : (step s x).state.core ≡ (drawn (next_numbers s) (core_step s.core x)).state
    unfolding step
    leaves = core_of (core_step s.core x)

    replies : (step s x).reply ≡ (drawn (next_numbers s) (core_step s.core x)).reply
    unfolding step
    replies = reply_of (core_step s.core x)

    undisturbed : (number : ℕ) (w : Waiting A numbers) →
        (let u = (drawn (next_numbers s) (core_step s.core x)).state in (get nat_eq u.parked number ≡ Some w) × (can_progress u number ≡ can_progress s.core number)) → IsUndisturbed s (step s x).state number w
    undisturbed number w h = record { parked = ap (λ c. get nat_eq c.parked number) leaves ∙ h.0; progress = ap (λ c. can_progress c number) leaves ∙ h.1 }

  pub leaves_the_untouched : (x : Step A) (number : ℕ) (w : Waiting A numbers) → IsWhole s → get nat_eq s.core.parked number ≡ Some w → 0 < length w.kept →
      ((node : Node numbers) → keeps_at s.core node w ≡ true → touches s.core x node ≡ false) → IsUndisturbed s (step s x).state number w
  leaves_the_untouched x number w whole here some away = undisturbed x number w (untouched s.core x (next_numbers s) (next_unused whole.sound.below) (fit_of whole) number w here away some)

  pub leaves_another : (x : Step A) (number : ℕ) (w : Waiting A numbers) → IsWhole s → get nat_eq s.core.parked number ≡ Some w → is_of_call x number w ≡ false →
      ((node : Node numbers) → keeps_at s.core node w ≡ true → touches s.core x node ≡ false) → IsUndisturbed s (step s x).state number w
  leaves_another x number w whole here other away = undisturbed x number w (untouched_by_another s.core x (next_numbers s) (next_unused whole.sound.below) (fit_of whole) number w here away other)

  pub ends_by_its_own : (x : Step A) (number : ℕ) (w : Waiting A numbers) → get nat_eq s.core.parked number ≡ Some w → is_of_call x number w ≡ false → GoesOn (step s x).state.core number w
  ends_by_its_own x number w here other = subst (λ (c : Core A numbers). GoesOn c number w) (sym (leaves x)) (step_waits s.core (next_numbers s) number w here x other)

  pub waits_alone : (pid : ℕ) (call : Call A) (n : ℕ) (v : Waiting A numbers) (number : ℕ) (w : Waiting A numbers) → IsWhole s → opens_name call ≡ false →
      (step s (Begin pid call)).reply ≡ Parked n → get nat_eq (step s (Begin pid call)).state.core.parked n ≡ Some v → v.taken ≡ 0 →
      get nat_eq s.core.parked number ≡ Some w → IsUndisturbed s (step s (Begin pid call)).state number w
  waits_alone pid call n v number w whole off reply there nothing here =
      let x : Step A = Begin pid call in
      undisturbed x number w (idle_begun s.core pid call (next_numbers s) (fit_of whole) whole.order off n v
      (sym (replies x) ∙ reply) (ap (λ c. get nat_eq c.parked n) (sym (leaves x)) ∙ there) nothing number w here)

  pub resumes_alone : (c number : ℕ) (w : Waiting A numbers) → IsWhole s → can_progress s.core c ≡ false → get nat_eq s.core.parked number ≡ Some w → IsUndisturbed s (step s (Resume c)).state number w
  resumes_alone c number w whole stuck here = undisturbed (Resume c) number w (idle_resumed s.core c (next_numbers s) (fit_of whole) stuck number w here)
