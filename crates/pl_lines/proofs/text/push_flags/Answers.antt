use Rattle.std.specs.Prelude.{codes}
use Rattle.std.proofs.lemmas.Result.{err_from_is_err_and}
use Rattle.pl_lines.proofs.Pushing.{front, behind_both}
use Rattle.pl_lines.proofs.text.push_flags.Goals as goal

pub returns-in_err-push_two : goal.returns-in_err-push_two
returns-in_err-push_two g c =
    let is = err_from_is_err_and c.from_residual.result c.from_residual.ensures.1 in
    front _ _ is.1 c.in_err-push_two.ensures

pub returns : goal.returns
returns g c = rw (← c.mode_text.ensures) (behind_both (codes "flags ") _ _ c.in_ok-push_two.was c.push_two.ensures c.push_status.ensures)
