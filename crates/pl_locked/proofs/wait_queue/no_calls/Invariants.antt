use Rattle.std.proofs.Common.{◌≡◌, ◌≤◌, replicate, vec_len, vec_capacity}
use Rattle.pl_locked.specs.declared.waiting.Waiting.TheVariants.{Nothing}
use Rattle.pl_locked.proofs.wait_queue.no_calls.Given as goal

-- none for each caller so far, and there is room for the others
abbrev pub invariant-loop : goal.invariant-loop
invariant-loop g l = record {
  none : l.calls.items ≡ replicate l.counter Nothing;
  many : vec_len l.calls ≡ l.counter;
  room : l.fn.callers ≤ vec_capacity l.calls;
}
