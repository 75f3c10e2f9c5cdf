use Rattle.std.proofs.Common.{◌≡◌, ◌∷◌, [], sym, ap, ◌∙◌, arith}
use Rattle.std.specs.Prelude.{string_bytes}
use Rattle.std.proofs.lemmas.List.{append-nil}
use Rattle.pl_script.specs.Checked.{compared_at}
use Rattle.pl_script.specs.Comparing.{text_of}
use Rattle.pl_script.proofs.CheckSteps.{skips, answers_it}
use Rattle.pl_script.proofs.checking.check_line.Goals as goal

pub returns-then-asks : goal.returns-then-asks
returns-then-asks g c = λ script front limits rest is at.
    let done = rw c.if-asks.true at c.in_ok-asks.ensures in
    answers_it c.args.all script _ _ limits _ c.args.checked.now c.args.number c.args.line.now rest _ done.0 done.1 _ (rw is done.2) (rw is done.3) at

pub returns-in_default : goal.returns-in_default
returns-in_default g c = λ script front limits rest is at.
    let done = rw c.if-asks.false at c.in_ok-asks.ensures in
    rw done.2
    (skips c.args.all script _ _ limits _ c.args.checked.now c.args.number c.args.line.now rest _ _ c.args.checked.now [] (rw is done.0) done.1
    (ap (compared_at c.args.number (text_of (string_bytes c.args.last.now))) (sym c.in_default.ensures)) (omega arith) (λ compared tally. rw (append-nil compared) tally) at)

pub returns : goal.returns
returns g c = λ script front limits rest is at.
    let done = rw c.if-asks.false at c.in_ok-asks.ensures in
    let answered : c.text_of-answered.result.now ≡ text_of (string_bytes c.args.last.now) = c.text_of-answered.ensures ∙ ap text_of c.as_bytes.ensures.value ∙ done.2 in
    let tallies = rw answered at c.in_ok-compare.ensures.done in
    rw done.2
    (skips c.args.all script _ _ limits _ c.args.checked.now c.args.number c.args.line.now rest _ _ c.compare.new.checked
    (record { number = c.args.number; expects = c.in-Some.expects.now; answered = text_of (string_bytes c.args.last.now) } ∷ []) (rw is done.0) done.1
    (ap (compared_at c.args.number (text_of (string_bytes c.args.last.now))) (sym c.in-Some.ensures)) (omega arith) (λ compared tally. tallies front compared tally) at)
