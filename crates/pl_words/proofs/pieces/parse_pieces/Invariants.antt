use Rattle.std.proofs.Common.{◌≡◌, ◌≤◌, length}
use Rattle.std.specs.Prelude.{vec_len}
use Rattle.pl_model.specs.Numbers.{most_bytes}
use Rattle.pl_words.proofs.PieceLemmas.{pieces_in, behind}
use Rattle.pl_words.proofs.pieces.parse_pieces.Given as goal

abbrev pub invariant-loop-plus : goal.invariant-loop-plus
invariant-loop-plus g l = (vec_len l.bytes ≤ most_bytes) × (pieces_in l.word ≡ behind l.bytes.items (pieces_in l.rest))

abbrev pub decreases-loop-plus : goal.decreases-loop-plus
decreases-loop-plus g l = length l.rest
