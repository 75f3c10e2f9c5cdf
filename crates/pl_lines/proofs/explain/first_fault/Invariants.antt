use Rattle.std.proofs.Common.{◌≡◌, ◌+◌, length}
use Rattle.pl_model.specs.Words.{words}
use Rattle.pl_lines.specs.Explained.{first_fault}
use Rattle.pl_lines.proofs.explain.first_fault.Given as goal

abbrev pub invariant-loop-word : goal.invariant-loop-word
invariant-loop-word l = record {
  same : first_fault l.version l.first l.expected (words l.rest) ≡ first_fault l.version l.number l.ahead (words l.left);
  count : l.number + length (words l.left) ≡ l.first + length (words l.rest);
}

abbrev pub decreases-loop-word : goal.decreases-loop-word
decreases-loop-word l = length (words l.left)
