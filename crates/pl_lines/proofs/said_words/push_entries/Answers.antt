use Rattle.std.proofs.lemmas.Result.{err_from_is_err_and}
use Rattle.pl_lines.proofs.Pushing.{stopped}
use Rattle.pl_lines.proofs.said_words.push_entries.Goals as goal

pub returns-in_err-push_entry : goal.returns-in_err-push_entry
returns-in_err-push_entry g c =
    let is = err_from_is_err_and c.from_residual.result c.from_residual.ensures.1 in
    stopped c.loop-entry.invariant _ is.1 c.push_entry.ensures
