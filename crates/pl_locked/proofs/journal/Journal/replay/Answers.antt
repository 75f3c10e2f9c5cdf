use Rattle.std.proofs.Common.{◌≡◌, ◌∙◌, IsTrue, subst}
use Rattle.pl_model.specs.History.{IsLegal}
use Rattle.pl_locked.proofs.journal.Journal.replay.Goals as goal

pub returns-then-numbered : goal.returns-then-numbered
returns-then-numbered g c =
    let same : c.as_slice-entries.result.now ≡ c.args.self.now = c.as_slice-entries.ensures.value ∙ c.self.view_is in
    let r = c.in_ok-replayed.replayed in
    subst (λ h. (IsTrue r → IsLegal c.args.limits h) × (IsLegal c.args.limits h → IsTrue r)) same (
      λ t. record { replies = c.in_ok-replayed.ensures.0 t; numbers = c.in_ok-numbered.ensures.0 c.if-numbered.true },
      λ legal. c.in_ok-replayed.ensures.1 legal.replies,
    )

pub returns-else-numbered : goal.returns-else-numbered
returns-else-numbered g c =
    let same : c.as_slice-entries.result.now ≡ c.args.self.now = c.as_slice-entries.ensures.value ∙ c.self.view_is in
    let r = c.in_ok-numbered.numbered in
    subst (λ h. (IsTrue r → IsLegal c.args.limits h) × (IsLegal c.args.limits h → IsTrue r)) same
    (λ t. absurd (cc (t, c.if-numbered.false)), λ legal. c.in_ok-numbered.ensures.1 legal.numbers)
