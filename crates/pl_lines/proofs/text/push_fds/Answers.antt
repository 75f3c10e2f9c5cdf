use Rattle.std.proofs.Common.{rules, w32, SFits}
use Rattle.std.proofs.lemmas.Int.{to_z-of_z}
use Rattle.std.specs.Prelude.{codes}
use Rattle.std.proofs.lemmas.Result.{err_from_is_err_and}
use Rattle.pl_lines.proofs.Pushing.{front, behind_both}
use Rattle.pl_lines.proofs.text.push_fds.Goals as goal

pub returns-in_err-push_number : goal.returns-in_err-push_number
returns-in_err-push_number g c =
    let is = err_from_is_err_and c.from_residual.result c.from_residual.ensures.1 in
    front _ _ is.1 c.in_err-push_number.ensures

pub returns : goal.returns
returns g c =
    let reader : SFits w32 c.args.reader = search rules in
    let writer : SFits w32 c.args.writer = search rules in
    let one = rw (to_z-of_z w32 c.args.reader reader) at c.push_number.ensures in
    let two = rw (to_z-of_z w32 c.args.writer writer) at c.push_number-2.ensures in
    behind_both (codes "fds ") _ _ c.in_ok-push_number.was one two
