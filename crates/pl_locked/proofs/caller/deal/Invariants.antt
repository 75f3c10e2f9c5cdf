use Rattle.std.proofs.Common.{◌≡◌, ◌+◌, ◌≤◌, vec_len, vec_capacity}
use Rattle.pl_locked.specs.Views.{newcomers}
use Rattle.pl_locked.proofs.caller.deal.Given as goal

-- the callers below the number have their parts, and there is room for the others
abbrev pub invariant-loop-number : goal.invariant-loop-number
invariant-loop-number g l = record {
  dealt : l.callers.items ≡ newcomers l.number;
  many : vec_len l.callers ≡ l.number;
  room : l.fn.count ≤ vec_capacity l.callers;
  parts : l.rest.parts + l.number ≡ l.fn.rest.parts;
  amount : l.rest.amount ≡ 0;
  spare : l.spare.parts + l.number ≡ l.fn.spare.parts;
  none : l.spare.amount ≡ 0;
  recorder : l.recorder ≡ l.fn.recorder;
}
