use Rattle.std.proofs.lemmas.Result.{err_from_is_err_and}
use Rattle.pl_lines.proofs.Pushing.{stopped}
use Rattle.pl_lines.proofs.said_words.push_name_bytes.Goals as goal

pub returns-in_err-push_name_byte : goal.returns-in_err-push_name_byte
returns-in_err-push_name_byte g c =
    let is = err_from_is_err_and c.from_residual.result c.from_residual.ensures.1 in
    stopped c.loop-byte.invariant _ is.1 c.push_name_byte.ensures
