use Rattle.std.proofs.Common.{◌+◌, false, true, add-zero, refl, sym, ◌∙◌, ap}
use Rattle.std.proofs.lemmas.Result.{err_from_is_err_and}
use Rattle.pl_script.proofs.LiveSteps.{counted_line}
use Rattle.pl_script.proofs.live_lines.take_line.Goals as goal

pub returns-in_err-is_good-clause-taken : goal.returns-in_err-is_good-clause-taken
returns-in_err-is_good-clause-taken g c = λ limits front refused ls l at.
    let p = err_from_is_err_and c.from_residual.result c.from_residual.ensures.1 in
    rw p.1 (c.in_err-is_good.ensures.judged limits front refused ls l at)

pub returns-then-not-is_good-clause-taken : goal.returns-then-not-is_good-clause-taken
returns-then-not-is_good-clause-taken g c = λ limits front refused ls l at.
    let is = c.if-not-is_good.true in
    rw is (counted_line limits c.args.live.now _ front refused ls l false c.judge.new.live at (rw is at (c.in_ok-is_good.ensures.judged limits front refused ls l at)) refl refl refl refl c.clear.ensures.items (ap (λ n. n + 1) c.judge.ensures.lines) (ap (λ n. n + 1) c.judge.ensures.bad))

pub returns-else-not-is_good-clause-taken : goal.returns-else-not-is_good-clause-taken
returns-else-not-is_good-clause-taken g c = λ limits front refused ls l at.
    let is = c.if-not-is_good.false in
    rw is (counted_line limits c.args.live.now _ front refused ls l true c.judge.new.live at (rw is at (c.in_ok-is_good.ensures.judged limits front refused ls l at)) refl refl refl refl c.clear.ensures.items (ap (λ n. n + 1) c.judge.ensures.lines) (c.judge.ensures.bad ∙ sym (add-zero c.args.live.now.bad)))
