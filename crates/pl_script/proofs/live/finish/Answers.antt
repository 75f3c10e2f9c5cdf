use Rattle.std.proofs.Common.{[], sym, ◌∙◌}
use Rattle.std.proofs.lemmas.Result.{err_from_is_err_and}
use Rattle.pl_script.proofs.LiveSteps.{none_held, some_held}
use Rattle.pl_script.proofs.LiveRuns.{ends_well, last_line, ends_behind}
use Rattle.pl_script.proofs.live.finish.Goals as goal

pub returns-then-holds_none-clause-run : goal.returns-then-holds_none-clause-run
returns-then-holds_none-clause-run g c = λ limits first t known over at.
    (t, known, ends_well limits c.args.strict c.args.live.now t at over (none_held c.args.live.now.is_too_long c.args.live.now.line.items at.line (sym c.holds_none.ensures ∙ c.if-holds_none.true) at.behind.held), tt)

pub returns-in_err-run_held-clause-run : goal.returns-in_err-run_held-clause-run
returns-in_err-run_held-clause-run g c = λ limits first t known over at.
    let amid = last_line limits c.args.strict c.args.live.now t at (some_held c.args.live.now.is_too_long c.args.live.now.line.items at.line (sym c.holds_none.ensures ∙ c.if-holds_none.false) at.behind.held) in
    let p = err_from_is_err_and c.from_residual.result c.from_residual.ensures.1 in
    rw (p.1, p.2) (c.in_err-run_held.ensures.run limits first t at.before at.line [] known amid)

pub returns-clause-run : goal.returns-clause-run
returns-clause-run g c = λ limits first t known over at.
    let amid = last_line limits c.args.strict c.args.live.now t at (some_held c.args.live.now.is_too_long c.args.live.now.line.items at.line (sym c.holds_none.ensures ∙ c.if-holds_none.false) at.behind.held) in
    let ran = c.in_ok-run_held.ensures.run limits first t at.before at.line [] known amid in
    (ran.0, ran.1, ends_behind limits c.args.strict c.run_held.new.live ran.0 _ (ran.2.2 ∙ over) ran.2.0, tt)
