use Rattle.std.proofs.Common.{Some, [], ap, ◌∙◌}
use Rattle.pl_script.proofs.CheckSteps.{is_refused_so, is_answered_so}
use Rattle.pl_script.proofs.checking.answer_if_asked.Goals as goal

pub returns-in-Some : goal.returns-in-Some
returns-in-Some g c = is_refused_so _ _ _ c.in-Some.refusal [] _ _ c.in-Some.ensures c.in_ok-push_line.ensures.done c.clear.ensures.bytes

pub returns : goal.returns
returns g c = is_answered_so _ _ _ _ c.in-Some-2.asked c.in_ok-answer_line.field-0 [] _ _ (c.in_ok-asked.ensures ∙ ap (λ o. Some o) c.in-Some-2.is) c.in_ok-answer_line.ensures.answered c.clear-2.ensures.bytes
