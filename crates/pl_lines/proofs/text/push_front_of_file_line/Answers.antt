use Rattle.std.proofs.Common.{refl}
use Rattle.std.proofs.lemmas.Result.{err_from_is_err_and}
use Rattle.pl_lines.proofs.Pushing.{pushed, front, behind}
use Rattle.pl_lines.proofs.text.push_front_of_file_line.Goals as goal

pub returns-in_err-push_file : goal.returns-in_err-push_file
returns-in_err-push_file g c =
    let is = err_from_is_err_and c.from_residual.result c.from_residual.ensures.1 in
    front _ _ is.1 c.in_err-push_file.ensures

pub returns : goal.returns
returns g c = behind _ _ c.in_ok-push_file.was c.push_file.ensures (pushed _ _ _ _ c.push_str.ensures.bytes) refl
