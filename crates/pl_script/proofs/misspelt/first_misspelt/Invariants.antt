use Rattle.std.proofs.Common.{◌≡◌, ◌+◌, ◌≤◌, length}
use Rattle.pl_model.specs.Numbers.{most_script_bytes}
use Rattle.pl_model.specs.Script.{lines}
use Rattle.pl_script.specs.Misspelt.{first_misspelt}
use Rattle.pl_script.proofs.misspelt.first_misspelt.Given as goal

abbrev pub invariant-loop-rest : goal.invariant-loop-rest
invariant-loop-rest l = record {
  same : first_misspelt 1 (lines l.fn.script) ≡ first_misspelt l.number (lines l.rest);
  few : l.number + length l.rest ≤ most_script_bytes + 1;
}

abbrev pub decreases-loop-rest : goal.decreases-loop-rest
decreases-loop-rest l = length l.rest
