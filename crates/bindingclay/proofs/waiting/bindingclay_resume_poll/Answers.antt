use Rattle.std.proofs.Common.{◌≡◌, None, subst}
use Rattle.bindingclay.specs.declared.layer.Layer.{Layer}
use Rattle.bindingclay.specs.Made.{IsFrugal}
use Rattle.bindingclay.proofs.waiting.bindingclay_resume_poll.Goals as goal

pub returns-clause-frugal : goal.returns-clause-frugal
returns-clause-frugal c =
    subst (λ (z : Layer). z.recorder ≡ None → IsFrugal z.kernel c.args.number c.resume_poll.result) c.layer.ensures c.resume_poll.ensures.frugal
