use Rattle.std.proofs.Common.{take, w32, SFits}
use Rattle.std.specs.List.{All}
use Rattle.pl_lines.proofs.sayable.entries_fit.Given as goal

abbrev pub invariant-loop-entry : goal.invariant-loop-entry
invariant-loop-entry l = All (λ e. SFits w32 e.0) (take l.entry-index l.entries)
