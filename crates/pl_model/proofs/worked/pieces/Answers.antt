use Rattle.pl_model.proofs.computed.PieceExamples.{in_pieces}
use Rattle.pl_model.proofs.worked.pieces.Goals as goal

pub returns : goal.returns
returns g c = in_pieces _
