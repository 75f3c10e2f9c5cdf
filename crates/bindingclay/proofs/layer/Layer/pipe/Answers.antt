use Rattle.std.proofs.Common.{◌≡◌}
use Rattle.pl_model.specs.declared.calls.Call.{Call}
use Rattle.pl_model.specs.declared.calls.Step.TheVariants.{Begin}
use Rattle.pl_numbers.specs.Answers.{ends_after}
use Rattle.bindingclay.proofs.Telling.{replied, of_reply}
use Rattle.bindingclay.proofs.layer.Layer.pipe.Goals as goal

pub returns-in-Ok-clause-makes : goal.returns-in-Ok-clause-makes
returns-in-Ok-clause-makes c = replied c.args.self.now.kernel (Begin c.args.pid (Call.Pipe c.args.nonblock c.args.direct)) c.answer_of.result c.in-Ok.reply c.step.new.self c.in-Ok.ensures.made c.answer_of.ensures

pub returns-in-Ok-clause-ends : goal.returns-in-Ok-clause-ends
returns-in-Ok-clause-ends c =
    of_reply c.args.self.now.kernel (Begin c.args.pid (Call.Pipe c.args.nonblock c.args.direct)) c.answer_of.result c.in-Ok.reply c.step.new.self c.in-Ok.ensures.made
    (λ reply. c.tell_ends.new.ends ≡ ends_after c.args.ends.now reply) c.tell_ends.ensures
