-- What the replies of a run say of the state that it leaves.
use Rattle.std.proofs.Common.{◌≡◌, Bool, true, false, cond, List, [], ◌∷◌, refl, sym, ◌∙◌, ap, subst}
use Rattle.pl_model.specs.declared.calls.Step.{Step}
use Rattle.pl_model.specs.declared.calls.Step.TheVariants.{Start, Begin, Resume, Interrupt}
use Rattle.pl_model.specs.declared.replies.Reply.{Reply}
use Rattle.pl_model.specs.declared.replies.Reply.TheVariants.{Fault}
use Rattle.pl_model.specs.declared.replies.Outcome.{Outcome}
use Rattle.pl_model.specs.declared.replies.Outcome.TheVariants.{Replied, NoMemory}
use Rattle.pl_model.specs.State.{Core}
use Rattle.pl_model.specs.Numbered.{numbers, State, step}
use Rattle.pl_model.specs.Run.{after, outcomes, marked}
use Rattle.pl_model.specs.Refused.{is_refused, after_reply, after_outcomes}
use Rattle.pl_model.specs.Renaming.{rename}
use Rattle.pl_model.specs.StandsFor.{StandsFor}
use Rattle.pl_model.specs.Laws.{IsSettled}
use Rattle.pl_model.proofs.renaming.Renames.{settle-rename}
use Rattle.pl_model.proofs.by_call.Refusals.{refused-unchanged, resumed_ends, interrupted_ends}
use Rattle.pl_model.proofs.settling.Sound.{step-settled}

-- What is settled under keys stands for what is settled.
pub stands_settled : {A : Type 0} (c : Core A numbers) (s : State A) → StandsFor c s → IsSettled c → IsSettled s.core
stands_settled c s stands settled =
    subst IsSettled stands.renamed (settle-rename stands.numbered c c ∙ ap (rename stands.numbered) settled)

module _ {A : Type 0} where
  unless_refused : (s : State A) (x : Step A) (b : Bool) → IsSettled s.core → is_refused x (step s x).reply ≡ b → cond b s (step s x).state ≡ (step s x).state
  unless_refused s x true settled r = sym (refused-unchanged s x settled r).0
  unless_refused s x false settled r = refl

  -- the reply of the machine says what its step leaves
  pub reply_tells : (s : State A) (x : Step A) → IsSettled s.core → after_reply s x (step s x).reply ≡ (step s x).state
  reply_tells s Start settled = unless_refused s Start (is_refused Start (step s Start).reply) settled refl
  reply_tells s (Begin pid call) settled = unless_refused s (Begin pid call) (is_refused (Begin pid call) (step s (Begin pid call)).reply) settled refl
  reply_tells s (Resume c) settled = at (step s (Resume c)).reply refl where
    at : (reply : Reply A) → (step s (Resume c)).reply ≡ reply → after_reply s (Resume c) reply ≡ (step s (Resume c)).state
    at (Fault errno) e = sym (resumed_ends s c errno e).0
    at reply e = unless_refused s (Resume c) (is_refused (Resume c) reply) settled (ap (is_refused (Resume c)) e)
  reply_tells s (Interrupt c) settled = at (step s (Interrupt c)).reply refl where
    at : (reply : Reply A) → (step s (Interrupt c)).reply ≡ reply → after_reply s (Interrupt c) reply ≡ (step s (Interrupt c)).state
    at (Fault errno) e = sym (interrupted_ends s c errno e).0
    at reply e = unless_refused s (Interrupt c) (is_refused (Interrupt c) reply) settled (ap (is_refused (Interrupt c)) e)

  pub outcomes_tell : (s : State A) (xs : List (Step A)) (os : List (Outcome A)) → IsSettled s.core → os ≡ outcomes s (marked xs os) → after_outcomes s xs os ≡ after s (marked xs os)
  outcomes_tell s [] os settled same = refl
  outcomes_tell s (x ∷ xs) [] settled same = refl
  outcomes_tell s (x ∷ xs) (NoMemory ∷ os) settled same =
      let rest : os ≡ outcomes s (marked xs os) = cc in
      outcomes_tell s xs os settled rest
  outcomes_tell s (x ∷ xs) (Replied reply ∷ os) settled same =
      let is : reply ≡ (step s x).reply = cc in
      let rest : os ≡ outcomes (step s x).state (marked xs os) = cc in
      ap (λ u. after_outcomes u xs os) (ap (after_reply s x) is ∙ reply_tells s x settled) ∙ outcomes_tell (step s x).state xs os (step-settled s x) rest
