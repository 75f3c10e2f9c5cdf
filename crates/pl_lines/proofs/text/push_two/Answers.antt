use Rattle.std.proofs.Common.{refl}
use Rattle.std.proofs.lemmas.Result.{err_from_is_err_and}
use Rattle.pl_lines.proofs.Pushing.{pushed, front, behind}
use Rattle.pl_lines.proofs.text.push_two.Goals as goal

pub returns-in_err-push_str : goal.returns-in_err-push_str
returns-in_err-push_str g c =
    let is = err_from_is_err_and c.from_residual.result c.from_residual.ensures.1 in
    front _ _ is.1 (pushed _ _ _ c.args.first.now c.push_str.ensures.bytes)

pub returns : goal.returns
returns g c = behind _ _ c.in_ok-push_str.was (pushed _ _ _ _ c.push_str.ensures.bytes) (pushed _ _ _ _ c.push_str-2.ensures.bytes) refl
