use Rattle.pl_model.specs.Shown.{outcome_text}
use Rattle.pl_lines.proofs.Pushing.{pushed}
use Rattle.pl_lines.proofs.text.push_outcome.Goals as goal

pub returns-in-Replied : goal.returns-in-Replied
unfolding outcome_text
returns-in-Replied g c = rw c.in-Replied.is c.push_reply.ensures

pub returns-in-NoMemory : goal.returns-in-NoMemory
unfolding outcome_text
returns-in-NoMemory g c = rw c.in-NoMemory.is (pushed _ _ _ _ c.push_str.ensures.bytes)
