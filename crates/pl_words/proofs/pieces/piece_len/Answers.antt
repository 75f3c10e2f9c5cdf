use Rattle.std.proofs.Common.{◌<◌, length, refl, rules, tests}
use Rattle.pl_words.proofs.PieceLemmas.{digits_count, says_nothing}
use Rattle.pl_words.proofs.pieces.piece_len.Goals as goal

pub returns-then-is_empty : goal.returns-then-is_empty
returns-then-is_empty c = rw (says_nothing c.args.piece.now (search (rules, tests))) refl

pub returns-then-is_one_write : goal.returns-then-is_one_write
returns-then-is_one_write c =
    let some : 0 < length c.args.piece.now = search (rules, tests) in
    rw (c.in_default.ensures.none refl some) (digits_count c.args.piece.now (search rules))
