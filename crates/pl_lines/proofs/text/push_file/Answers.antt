use Rattle.pl_model.specs.Shown.{file_text}
use Rattle.pl_lines.proofs.Pushing.{pushed}
use Rattle.pl_lines.proofs.text.push_file.Goals as goal

pub returns-in-Some : goal.returns-in-Some
unfolding file_text
returns-in-Some g c = rw c.in-Some.is c.push_bytes.ensures

pub returns-in-None : goal.returns-in-None
unfolding file_text
returns-in-None g c = rw c.in-None.is (pushed _ _ _ _ c.push_str.ensures.bytes)
