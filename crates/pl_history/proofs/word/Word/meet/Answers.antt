use Rattle.std.proofs.Common.{sym, ap, ◌∙◌}
use Rattle.pl_history.proofs.Moves.{has_word, copies, informs, looks}
use Rattle.pl_history.proofs.word.Word.meet.Goals as goal

pub split_seat-copy-requires : goal.split_seat-copy-requires
split_seat-copy-requires g c = (c.other.invariant.0 ∙ sym c.self.invariant.0, has_word _ _ c.self.invariant.0 c.self.invariant.1, copies _ _)

pub join_seat-requires : goal.join_seat-requires
join_seat-requires g c =
    let s = c.split_seat-copy.ensures in
    (c.recorder.invariant.0 ∙ sym c.self.invariant.0, s.3 ∙ (c.other.invariant.0 ∙ sym c.self.invariant.0), ap (λ m. m.1) s.4, has_word _ _ c.self.invariant.0 c.self.invariant.1, informs _ _ _ _)

pub load-requires : goal.load-requires
load-requires g c = (c.join_seat.ensures.0 ∙ (c.recorder.invariant.0 ∙ sym c.self.invariant.0), has_word _ _ c.self.invariant.0 c.self.invariant.1, looks _ _ _)
