use Rattle.std.proofs.Common.{◌≡◌, length}
use Rattle.pl_model.specs.Words.{flags_of}
use Rattle.pl_words.specs.Named.{flag_of}
use Rattle.pl_words.proofs.FlagLemmas.{flags_in}
use Rattle.pl_words.proofs.flags.parse_flags.Given as goal

abbrev pub invariant-loop-comma : goal.invariant-loop-comma
invariant-loop-comma l = flags_of (flag_of l.named) l.names ≡ flags_in (flag_of l.named) l.bits l.rest

abbrev pub decreases-loop-comma : goal.decreases-loop-comma
decreases-loop-comma l = length l.rest
