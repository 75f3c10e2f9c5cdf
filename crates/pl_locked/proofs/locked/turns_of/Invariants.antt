use Rattle.std.proofs.Common.{◌≡◌, ◌≤◌, vec_len, vec_capacity}
use Rattle.pl_locked.proofs.locked.turns_of.Given as goal

-- one for each caller so far, and there is room for the others
abbrev pub invariant-loop : goal.invariant-loop
invariant-loop g l = record {
  many : vec_len l.turns ≡ l.counter;
  room : l.fn.callers ≤ vec_capacity l.turns;
}
