use Rattle.std.proofs.lemmas.Result.{err_from_is_err_and}
use Rattle.pl_model.specs.declared.script.Totals.{Totals}
use Rattle.pl_script.proofs.Unread.{unread}
use Rattle.pl_script.proofs.WhyBad.{unexplained}
use Rattle.pl_script.proofs.running.run_script_explained.Goals as goal

pub returns-in_err-script-clause-run : goal.returns-in_err-script-clause-run
returns-in_err-script-clause-run g c =
    let p = err_from_is_err_and c.from_residual.result c.from_residual.ensures.1 in
    rw (p.1, p.2) (unread _ _ _ _ _ c.args.limits c.in_err-script.field-0.0 c.in_err-script.ensures.fault)

pub returns-in_err-script-clause-why : goal.returns-in_err-script-clause-why
returns-in_err-script-clause-why g c =
    let p = err_from_is_err_and c.from_residual.result c.from_residual.ensures.1 in
    rw (p.1, p.2) (unexplained Totals _ _ _ c.in_err-script.field-0.0 c.args.why.now c.in_err-script.ensures.fault)
