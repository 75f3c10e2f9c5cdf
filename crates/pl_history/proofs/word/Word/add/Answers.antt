use Rattle.std.proofs.Common.{sym, ap, length, ◌∙◌}
use Rattle.pl_history.proofs.Moves.{has_word, adds}
use Rattle.pl_history.specs.Sights.{Sight}
use Rattle.pl_history.proofs.word.Word.add.Goals as goal

pub compare_exchange_with-requires : goal.compare_exchange_with-requires
compare_exchange_with-requires g c = (c.recorder.invariant.0 ∙ sym c.self.invariant.0, has_word _ _ c.self.invariant.0 c.self.invariant.1, adds _ _ _ _ _ (ap (λ (v : Sight g.row.A.Denot). v.recorder) c.recorder.view_is ∙ c.requires.recorder) (c.requires.count ∙ sym (ap (λ (v : Sight g.row.A.Denot). length v.seen) c.recorder.view_is)))
