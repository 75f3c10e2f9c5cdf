use Rattle.std.proofs.Common.{sym, ◌∙◌}
use Rattle.pl_history.proofs.Moves.{has_word, looks}
use Rattle.pl_history.proofs.word.Word.look.Goals as goal

pub load-requires : goal.load-requires
load-requires g c = (c.eye.invariant.0 ∙ sym c.self.invariant.0, has_word _ _ c.self.invariant.0 c.self.invariant.1, looks _ _ _)
