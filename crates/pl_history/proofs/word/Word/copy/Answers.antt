use Rattle.std.proofs.Common.{sym, ◌∙◌}
use Rattle.pl_history.proofs.Moves.{has_word, copies}
use Rattle.pl_history.proofs.word.Word.copy.Goals as goal

pub split_seat-requires : goal.split_seat-requires
split_seat-requires g c = (c.eye.invariant.0 ∙ sym c.self.invariant.0, has_word _ _ c.self.invariant.0 c.self.invariant.1, copies _ _)
