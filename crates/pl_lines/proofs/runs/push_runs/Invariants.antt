use Rattle.std.proofs.Common.{length}
use Rattle.std.specs.Prelude.{string_bytes}
use Rattle.pl_lines.proofs.Pieces.{ArePut}
use Rattle.pl_lines.proofs.runs.push_runs.Given as goal

abbrev pub invariant-loop-rest : goal.invariant-loop-rest
invariant-loop-rest g l = ArePut l.bytes (string_bytes l.initial.text) (string_bytes l.text) l.others l.rest

abbrev pub decreases-loop-rest : goal.decreases-loop-rest
decreases-loop-rest g l = length l.rest
