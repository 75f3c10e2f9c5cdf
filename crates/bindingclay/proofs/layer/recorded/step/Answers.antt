use Rattle.bindingclay.proofs.Telling.{replied}
use Rattle.bindingclay.proofs.layer.recorded.step.Goals as goal

pub returns-in-Ok-clause-makes : goal.returns-in-Ok-clause-makes
returns-in-Ok-clause-makes c = replied c.args.kernel.now c.args.step c.answer_of-answer.result c.in-Ok.reply c.step.new.self c.in-Ok.ensures.made c.answer_of-answer.ensures
