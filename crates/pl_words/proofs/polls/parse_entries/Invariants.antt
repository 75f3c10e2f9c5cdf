use Rattle.std.proofs.Common.{length}
use Rattle.pl_model.specs.Words.{words}
use Rattle.pl_words.proofs.EntryLemmas.{AreTaken}
use Rattle.pl_words.proofs.polls.parse_entries.Given as goal

abbrev pub invariant-loop-word : goal.invariant-loop-word
invariant-loop-word g l = AreTaken (words l.rest) (words l.left) l.wants l.entries.items

abbrev pub decreases-loop-word : goal.decreases-loop-word
decreases-loop-word g l = length (words l.left)
