use Rattle.std.proofs.Common.{arith}
use Rattle.std.proofs.lemmas.Result.{err_from_is_err_and}
use Rattle.pl_words.proofs.HexBytes.{wants_places}
use Rattle.pl_words.proofs.pieces.push_digits.Goals as goal

pub returns-in_err-resize : goal.returns-in_err-resize
returns-in_err-resize g c =
    let p = err_from_is_err_and c.from_residual.result c.from_residual.ensures.1 in
    rw (p.1, p.2) (wants_places c.args.digits.now c.args.bytes.now.items (omega (arith, c.in_err-resize.ensures.full)))
