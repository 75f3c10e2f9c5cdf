use Rattle.std.proofs.Common.{refl, sym, ◌∙◌}
use Rattle.pl_script.proofs.LiveSteps.{judged_long, judged_header, judged_run, judged_bad}
use Rattle.pl_script.proofs.live_lines.judge.Goals as goal

pub returns-then-live-clause-judged : goal.returns-then-live-clause-judged
returns-then-live-clause-judged g c = λ limits front refused ls l at. judged_long limits c.args.live.now _ front refused ls l c.if-live.true refl refl refl at

pub returns-then-is_header-clause-judged : goal.returns-then-is_header-clause-judged
returns-then-is_header-clause-judged g c = λ limits front refused ls l at. judged_header limits c.args.live.now c.args.live.now front refused ls l c.if-live.false (sym c.is_header.ensures ∙ c.if-is_header.true) at

pub returns-in-Ok-clause-judged : goal.returns-in-Ok-clause-judged
returns-in-Ok-clause-judged g c = λ limits front refused ls l at. judged_run limits c.args.live.now _ front refused ls l c.if-live.false (sym c.is_header.ensures ∙ c.if-is_header.false) refl (rw c.as_slice-line.ensures.value at c.in-Ok.ensures) at

pub returns-in-Err-Bad-clause-judged : goal.returns-in-Err-Bad-clause-judged
returns-in-Err-Bad-clause-judged g c = λ limits front refused ls l at. judged_bad limits c.args.live.now _ front refused ls l c.if-live.false (sym c.is_header.ensures ∙ c.if-is_header.false) refl (rw (c.as_slice-line.ensures.value, c.in-Err-Bad.field-0-is) at c.in-Err-Bad.ensures) at
