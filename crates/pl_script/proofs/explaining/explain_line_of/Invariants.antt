use Rattle.std.proofs.Common.{◌≡◌, ◌-◌}
use Rattle.std.specs.List.{slice_get}
use Rattle.pl_model.specs.Script.{lines}
use Rattle.pl_script.proofs.explaining.explain_line_of.Given as goal

abbrev pub invariant-loop-before : goal.invariant-loop-before
invariant-loop-before l = slice_get (lines l.fn.script) (l.fn.number - 1) ≡ slice_get (lines l.rest) l.before

abbrev pub decreases-loop-before : goal.decreases-loop-before
decreases-loop-before l = l.before
