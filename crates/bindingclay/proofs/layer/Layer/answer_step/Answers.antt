use Rattle.bindingclay.proofs.Telling.{replied}
use Rattle.bindingclay.proofs.layer.Layer.answer_step.Goals as goal

pub returns-in-Ok-clause-makes : goal.returns-in-Ok-clause-makes
returns-in-Ok-clause-makes c = replied c.args.self.now.kernel c.args.step c.answer_of.result c.in-Ok.reply c.step.new.self c.in-Ok.ensures.made c.answer_of.ensures
