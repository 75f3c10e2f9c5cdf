use Rattle.pl_model.specs.declared.calls.Call.{Call}
use Rattle.pl_model.specs.declared.calls.Step.TheVariants.{Begin}
use Rattle.bindingclay.proofs.Telling.{replied}
use Rattle.bindingclay.proofs.layer.recorded.pipe.Goals as goal

pub returns-in-Ok-clause-makes : goal.returns-in-Ok-clause-makes
returns-in-Ok-clause-makes c = replied c.args.kernel.now (Begin c.args.pid (Call.Pipe c.args.nonblock c.args.direct)) c.answer_of-answer.result c.in-Ok.reply c.step.new.self c.in-Ok.ensures.made c.answer_of-answer.ensures
