use Rattle.pl_script.proofs.LiveSteps.{refused_line}
use Rattle.pl_script.proofs.live_lines.answer.Goals as goal

pub returns-in-Some : goal.returns-in-Some
returns-in-Some g c = refused_line _ _ _ _ c.in-Some.refusal _ _ c.in-Some.ensures c.in_ok-push_line.ensures.done
