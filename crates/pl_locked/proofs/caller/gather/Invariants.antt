use Rattle.std.proofs.Common.{◌≡◌, ◌+◌, ◌≤◌, ◌++◌, List, length}
use Rattle.std.specs.List.{All}
use mathlib.Core.List.{IsPrefix}
use Rattle.pl_model.specs.History.{of}
use Rattle.pl_locked.specs.Views.{CallerView, IsSub, total_handed, total_made}
use Rattle.pl_locked.proofs.caller.gather.Given as goal

-- the shares of the callers that are gone are in one, and the journal begins with what each of these has seen
abbrev pub invariant-loop-caller : goal.invariant-loop-caller
invariant-loop-caller g l = record {
  parts : l.all.parts + length l.callers.items ≡ l.fn.all.parts + length l.fn.callers.items;
  amount : l.all.amount + total_made l.callers.items ≡ l.fn.all.amount + total_made l.fn.callers.items;
  bound : l.all.parts ≤ g.N.Ledger.parts;
  out : l.out.parts + length l.callers.items ≡ l.fn.out.parts + length l.fn.callers.items;
  handed : l.out.amount + total_handed l.callers.items ≡ l.fn.out.amount + total_handed l.fn.callers.items;
  recorded : l.recorded ≡ l.fn.recorded;
  gone : List (CallerView g.row.A.Denot);
  all : l.fn.callers.items ≡ l.callers.items ++ gone;
  each : All (λ c. IsPrefix c.seen l.fn.recorded.journal × IsSub c.made (of c.number l.fn.recorded.journal)) gone;
}

abbrev pub decreases-loop-caller : goal.decreases-loop-caller
decreases-loop-caller g l = length l.callers.items
