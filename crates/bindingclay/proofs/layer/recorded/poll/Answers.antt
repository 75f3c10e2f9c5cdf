use Rattle.std.proofs.Common.{subst}
use Rattle.pl_model.specs.declared.calls.Call.{Call}
use Rattle.pl_model.specs.declared.calls.Step.TheVariants.{Begin}
use Rattle.pl_polls.specs.Entries.{asked}
use Rattle.pl_state.specs.Makes.{Makes}
use Rattle.bindingclay.proofs.Telling.{replied}
use Rattle.bindingclay.proofs.layer.recorded.poll.Goals as goal

pub returns-in-Ok-step-clause-makes : goal.returns-in-Ok-step-clause-makes
returns-in-Ok-step-clause-makes c =
    let made = subst (λ l. Makes c.args.kernel.now (Begin c.args.pid (Call.Poll l c.args.wait)) c.in-Ok-step.reply c.step.new.self) c.in-Ok.ensures c.in-Ok-step.ensures.made in
    replied c.args.kernel.now (Begin c.args.pid (Call.Poll (asked c.args.entries.now) c.args.wait)) c.answer_of-answer.result c.in-Ok-step.reply c.step.new.self made c.answer_of-answer.ensures
