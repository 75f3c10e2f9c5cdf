use Rattle.std.proofs.Common.{rules, arith}
use Rattle.std.proofs.lemmas.Result.{err_from_is_err_and}
use Rattle.pl_words.proofs.HexBytes.{repeats}
use Rattle.pl_words.proofs.bytes.repeated.Goals as goal

pub returns-in_err-bytes : goal.returns-in_err-bytes
returns-in_err-bytes g c =
    let p = err_from_is_err_and c.from_residual-in_err-bytes.result c.from_residual-in_err-bytes.ensures.1 in
    rw (p.1, p.2) (repeats c.args.times.now c.args.digits.now c.in_ok-times.times c.in_ok-byte.byte c.in_ok-times.ensures.said (search rules) c.in_ok-times.ensures.few (omega arith))
