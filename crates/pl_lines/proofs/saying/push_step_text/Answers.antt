use Rattle.pl_model.specs.Said.{step_words, said_step}
use Rattle.pl_lines.proofs.Pushing.{pushed}
use Rattle.pl_lines.proofs.saying.push_step_text.Goals as goal

pub returns-in-Start : goal.returns-in-Start
unfolding said_step step_words
returns-in-Start g c = rw c.in-Start.is (pushed _ _ _ _ c.push_str.ensures.bytes)

pub returns-in-Resume : goal.returns-in-Resume
unfolding said_step step_words
returns-in-Resume g c = rw c.in-Resume.is c.push_number.ensures

pub returns-in-Interrupt : goal.returns-in-Interrupt
unfolding said_step step_words
returns-in-Interrupt g c = rw c.in-Interrupt.is c.push_number-in-Interrupt.ensures
