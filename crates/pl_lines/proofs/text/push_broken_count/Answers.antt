use Rattle.std.specs.Prelude.{codes}
use Rattle.std.proofs.lemmas.Result.{err_from_is_err_and}
use Rattle.pl_lines.proofs.Pushing.{pushed, front, behind_both}
use Rattle.pl_lines.proofs.text.push_broken_count.Goals as goal

pub returns-in_err-push_number : goal.returns-in_err-push_number
returns-in_err-push_number g c =
    let is = err_from_is_err_and c.from_residual.result c.from_residual.ensures.1 in
    front _ _ is.1 c.in_err-push_number.ensures

pub returns : goal.returns
returns g c = behind_both (codes "count ") _ _ c.in_ok-push_number.was c.push_number.ensures (pushed _ _ _ _ c.push_str.ensures.bytes)
