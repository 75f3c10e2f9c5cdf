use Rattle.std.proofs.Common.{◌≡◌, length}
use Rattle.std.specs.List.{slice_split}
use Rattle.pl_model.specs.Words.{is_plus}
use Rattle.pl_words.specs.Reasons.{pieces_reason}
use Rattle.pl_words.proofs.reasons.pieces_reason.Given as goal

abbrev pub invariant-loop-plus : goal.invariant-loop-plus
invariant-loop-plus l = pieces_reason (slice_split is_plus l.word) ≡ pieces_reason (slice_split is_plus l.rest)

abbrev pub decreases-loop-plus : goal.decreases-loop-plus
decreases-loop-plus l = length l.rest
