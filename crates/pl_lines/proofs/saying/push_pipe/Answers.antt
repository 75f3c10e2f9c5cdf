use Rattle.pl_model.specs.Shown.{names_text}
use Rattle.pl_model.specs.Said.{call_words}
use Rattle.pl_lines.proofs.Pushing.{pushed}
use Rattle.pl_lines.proofs.saying.push_pipe.Goals as goal

pub returns-in-true-true : goal.returns-in-true-true
unfolding call_words names_text
returns-in-true-true g c = rw (c.in-true-true.is-0, c.in-true-true.is-1) (pushed _ _ _ _ c.push_str.ensures.bytes)

pub returns-in-true-false : goal.returns-in-true-false
unfolding call_words names_text
returns-in-true-false g c = rw (c.in-true-false.is-0, c.in-true-false.is-1) (pushed _ _ _ _ c.push_str-in-true-false.ensures.bytes)

pub returns-in-false-true : goal.returns-in-false-true
unfolding call_words names_text
returns-in-false-true g c = rw (c.in-false-true.is-0, c.in-false-true.is-1) (pushed _ _ _ _ c.push_str-in-false-true.ensures.bytes)

pub returns-in-false-false : goal.returns-in-false-false
unfolding call_words names_text
returns-in-false-false g c = rw (c.in-false-false.is-0, c.in-false-false.is-1) (pushed _ _ _ _ c.push_str-in-false-false.ensures.bytes)
