use Rattle.std.proofs.lemmas.Result.{err_from_is_err_and}
use Rattle.pl_script.proofs.RunSteps.{uncounted}
use Rattle.pl_script.proofs.running.run_whole.Goals as goal

pub returns-in_err-run_lines-clause-run : goal.returns-in_err-run_lines-clause-run
returns-in_err-run_lines-clause-run g c =
    let p = err_from_is_err_and c.from_residual.result c.from_residual.ensures.1 in
    let ran = c.in_err-run_lines.ensures.run in
    rw (p.1, p.2) (ran.0, ran.1, uncounted _ _ c.args.limits c.in_err-run_lines.field-0.0 c.run_lines.new.totals ran.0 ran.2)
