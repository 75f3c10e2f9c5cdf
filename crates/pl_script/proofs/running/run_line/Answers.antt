use Rattle.std.proofs.Common.{◌≡◌, Some, ap, ◌∙◌, ◌++◌, cond, refl, rules}
use Rattle.std.specs.Prelude.{string_bytes}
use Rattle.pl_script.proofs.RunSteps.{skips, refuses, runs}
use Rattle.pl_script.proofs.running.run_line.Goals as goal

pub returns-in_default-2 : goal.returns-in_default-2
returns-in_default-2 g c = λ script front limits rest is at.
    skips script (front ++ string_bytes c.args.out.now) limits _ c.args.totals.now c.args.line.now rest (rw is (c.in_ok-asked.ensures ∙ ap (λ o. Some o) c.in_default-2.is)) at

pub returns-in-Some : goal.returns-in-Some
returns-in-Some g c = λ script front limits rest is at.
    refuses script (front ++ string_bytes c.args.out.now) limits _ c.args.totals.now c.args.line.now rest c.in-Some.refusal front (string_bytes c.args.out.now) _ (rw is c.in-Some.ensures) (rw is c.in_ok-push_line.ensures.done) refl at

pub returns : goal.returns
returns g c = λ script front limits rest is at.
    let steps-is : c.from.result ≡ cond c.asks_a_step-is_step.result 1 0 = search rules in
    let nomem-is : c.from-2.result ≡ cond c.in_ok-found_none.found_none 1 0 = search rules in
    rw (nomem-is, steps-is, c.asks_a_step-is_step.ensures)
    (runs script (front ++ string_bytes c.args.out.now) limits _ c.args.totals.now c.args.line.now rest c.in-Some-2.asked _ front (string_bytes c.args.out.now) _ c.in_ok-found_none.found_none
    (rw is (c.in_ok-asked.ensures ∙ ap (λ o. Some o) c.in-Some-2.is)) (rw is c.in_ok-found_none.ensures.answered) refl at)
