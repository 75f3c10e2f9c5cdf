use Rattle.pl_history.proofs.Moves.{begins}
use Rattle.pl_history.proofs.word.history.Goals as goal

pub of_words-requires : goal.of_words-requires
of_words-requires g c = begins {A = g.row.A.Denot}
