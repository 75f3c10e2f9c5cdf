use Rattle.std.proofs.Common.{◌≡◌, ◌<◌, arith}
use Rattle.std.proofs.lemmas.Result.{err_from_is_err_and}
use Rattle.pl_run.proofs.Checks.{as_recorded, cut}
use Rattle.pl_run.proofs.program.check_from.Goals as goal

pub returns-in_err-write_same-clause-check : goal.returns-in_err-write_same-clause-check
returns-in_err-write_same-clause-check g c =
    let p = err_from_is_err_and c.from_residual.result c.from_residual.ensures.1 in
    let none : c.in-Ok.checked.different ≡ 0 = omega arith in
    let some : 0 < c.in-Ok.checked.compared = omega arith in
    rw (p.1, p.2, c.in_err-write_same.ensures.stopped.0)
    (cut c.args.all c.args.explain c.args.limits _ _ _ c.in-Ok.checked c.in-Ok.ensures.run _ none some c.in_err-write_same.ensures.front)

pub returns-clause-check : goal.returns-clause-check
returns-clause-check g c =
    let none : c.in-Ok.checked.different ≡ 0 = omega arith in
    let some : 0 < c.in-Ok.checked.compared = omega arith in
    as_recorded c.args.all c.args.explain c.args.limits _ _ _ c.in-Ok.checked c.in-Ok.ensures.run _ none some c.in_ok-write_same.ensures.front
