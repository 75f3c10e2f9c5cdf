use Rattle.std.proofs.Common.{length}
use Rattle.std.specs.Prelude.{string_bytes}
use Rattle.pl_model.specs.Shown.{hex_text}
use Rattle.pl_lines.proofs.Pushing.{IsSoFar}
use Rattle.pl_lines.proofs.digits.push_digits.Given as goal

abbrev pub invariant-loop-rest : goal.invariant-loop-rest
invariant-loop-rest g l = IsSoFar (hex_text l.bytes) (string_bytes l.initial.text) (string_bytes l.text) (hex_text l.rest)

abbrev pub decreases-loop-rest : goal.decreases-loop-rest
decreases-loop-rest g l = length l.rest
