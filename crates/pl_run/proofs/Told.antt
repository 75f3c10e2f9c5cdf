-- What a far end is told of a bad line.
use Rattle.std.proofs.Common.{◌≡◌, ℕ, List, Bool, true, false, not, cond, Option, None}
use Rattle.pl_lines.specs.declared.explain.Explanation.{Explanation}
use Rattle.pl_run.specs.Fault.{line_of, WritesLine}
use Rattle.pl_run.specs.declared.fault.Fault.TheVariants.{BadLine}

-- a far end that tells why, or doesn't, wrote the line of a bad line so
pub told_line : (explain : Bool) (n : ℕ) (why told : Option Explanation) (all stopped : Bool) (old new : Option (List ℕ)) → told ≡ cond explain why None → stopped ≡ not all
    → WritesLine all old new (line_of (BadLine n told)) → WritesLine (not stopped) old new (line_of (BadLine n (cond explain why None)))
told_line explain n why told true stopped old new is e h = rw (e, ← is) h
told_line explain n why told false stopped old new is e h = rw (e, ← is) h
