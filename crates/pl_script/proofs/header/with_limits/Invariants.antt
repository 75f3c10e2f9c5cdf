use Rattle.std.proofs.Common.{◌≡◌, ◌≤◌, length}
use Rattle.pl_model.specs.Numbers.{most_file_bytes}
use Rattle.pl_model.specs.Words.{words}
use Rattle.pl_script.specs.Header.{with_limits}
use Rattle.pl_script.proofs.header.with_limits.Given as goal

abbrev pub invariant-loop-option : goal.invariant-loop-option
invariant-loop-option l = record {
  same : with_limits l.fn.limits (words l.options) ≡ with_limits l.set (words l.left);
  most : l.set.file_max ≤ most_file_bytes;
}

abbrev pub decreases-loop-option : goal.decreases-loop-option
decreases-loop-option l = length (words l.left)
