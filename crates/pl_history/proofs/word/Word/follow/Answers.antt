use Rattle.std.proofs.Common.{sym, ◌∙◌}
use Rattle.pl_history.proofs.Moves.{has_word, follows}
use Rattle.pl_history.proofs.word.Word.follow.Goals as goal

pub join_seat-requires : goal.join_seat-requires
join_seat-requires g c = (c.eye.invariant.0 ∙ sym c.self.invariant.0, c.seat.invariant.0 ∙ sym c.self.invariant.0, c.seat.invariant.1, has_word _ _ c.self.invariant.0 c.self.invariant.1, follows _ _ _ _)
