use Rattle.std.proofs.Common.{refl}
use Rattle.pl_script.proofs.RunSteps.{replies}
use Rattle.pl_script.proofs.running.answer_step.Goals as goal

pub returns-in_ok-push_line-in-Ok-clause-answered : goal.returns-in_ok-push_line-in-Ok-clause-answered
returns-in_ok-push_line-in-Ok-clause-answered g c = replies _ _ _ _ c.args.step c.in-Ok.reply _ _ refl c.in-Ok.ensures.made c.in_ok-push_line-in-Ok.ensures.done
