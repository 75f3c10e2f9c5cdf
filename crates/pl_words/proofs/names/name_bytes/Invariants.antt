use Rattle.std.proofs.Common.{◌≡◌, length}
use Rattle.pl_model.specs.Words.{name_bytes}
use Rattle.pl_words.proofs.Behind.{behind}
use Rattle.pl_words.proofs.names.name_bytes.Given as goal

abbrev pub invariant-loop-rest : goal.invariant-loop-rest
invariant-loop-rest g l = name_bytes l.word ≡ behind l.bytes.items (name_bytes l.rest)

abbrev pub decreases-loop-rest : goal.decreases-loop-rest
decreases-loop-rest g l = length l.rest
