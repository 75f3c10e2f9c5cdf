use Rattle.std.proofs.Common.{◌≤◌, length}
use Rattle.pl_model.specs.Numbers.{most_bytes}
use Rattle.pl_words.proofs.PieceLemmas.{pieces_in, AreCounted}
use Rattle.pl_words.proofs.pieces.pieces_len.Given as goal

abbrev pub invariant-loop-plus : goal.invariant-loop-plus
invariant-loop-plus l = (l.len ≤ most_bytes) × AreCounted (pieces_in l.word) l.len l.rest

abbrev pub decreases-loop-plus : goal.decreases-loop-plus
decreases-loop-plus l = length l.rest
