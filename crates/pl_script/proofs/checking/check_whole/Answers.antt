use Rattle.std.proofs.Common.{refl, sym}
use Rattle.std.proofs.lemmas.Result.{err_from_is_err_and}
use Rattle.pl_script.proofs.HeaderSteps.{within, misnamed, misspelt}
use Rattle.pl_script.proofs.checking.check_whole.Goals as goal

pub returns-in_err-named-clause-run : goal.returns-in_err-named-clause-run
returns-in_err-named-clause-run g c =
    let p = err_from_is_err_and c.from_residual.result c.from_residual.ensures.1 in
    rw (p.1, p.2, c.in_err-named.ensures.said.1)
    (misnamed _ c.args.all _ c.args.script.now c.args.script.now c.args.limits _ refl c.requires.short c.in_err-named.ensures.said.0 refl)

pub returns-in-Some-clause-run : goal.returns-in-Some-clause-run
returns-in-Some-clause-run g c =
    misspelt _ c.args.all _ c.args.script.now c.args.limits c.in_ok-named.named c.in-Some.number c.requires.short c.in_ok-named.ensures.said (sym c.in-Some.ensures)

pub returns-in_err-check_lines-clause-run : goal.returns-in_err-check_lines-clause-run
returns-in_err-check_lines-clause-run g c =
    let p = err_from_is_err_and c.from_residual-in_err-check_lines.result c.from_residual-in_err-check_lines.ensures.1 in
    rw (p.1, p.2)
    (within _ c.args.all _ _ c.args.script.now c.args.script.now c.args.limits c.in_ok-named.named _ refl c.in_ok-named.ensures.said (sym c.in_default.ensures) c.in_err-check_lines.ensures.run)

pub returns-clause-run : goal.returns-clause-run
returns-clause-run g c =
    within _ c.args.all _ _ c.args.script.now c.args.script.now c.args.limits c.in_ok-named.named _ refl c.in_ok-named.ensures.said (sym c.in_default.ensures) c.in_ok-check_lines.ensures.run
