use Rattle.std.proofs.Common.{rules, tests}
use Rattle.pl_words.proofs.PieceLemmas.{says_nothing}
use Rattle.pl_words.proofs.pieces.push_piece.Goals as goal

pub returns-then-is_empty : goal.returns-then-is_empty
returns-then-is_empty g c = says_nothing c.args.piece.now (search (rules, tests))
