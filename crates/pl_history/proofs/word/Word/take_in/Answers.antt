use Rattle.std.proofs.Common.{sym, ◌∙◌}
use Rattle.pl_history.proofs.Moves.{has_word, informs, looks}
use Rattle.pl_history.proofs.word.Word.take_in.Goals as goal

pub join_seat-requires : goal.join_seat-requires
join_seat-requires g c = (c.recorder.invariant.0 ∙ sym c.self.invariant.0, c.other.invariant.0 ∙ sym c.self.invariant.0, c.other.invariant.1, has_word _ _ c.self.invariant.0 c.self.invariant.1, informs _ _ _ _)

pub load-requires : goal.load-requires
load-requires g c = (c.join_seat.ensures.0 ∙ (c.recorder.invariant.0 ∙ sym c.self.invariant.0), has_word _ _ c.self.invariant.0 c.self.invariant.1, looks _ _ _)
