use Rattle.std.proofs.Common.{◌≡◌, ◌<◌, ◌-◌, ◌^◌, ℕ, true, Some, nat_eq}
use Rattle.std.specs.List.{list_any}
use Rattle.pl_model.specs.Map.{get}
use Rattle.pl_model.specs.Keys.{Node}
use Rattle.pl_model.specs.Numbers.{numbers_from}
use Rattle.pl_model.specs.Numbered.{numbers}
use Rattle.pl_model.specs.State.{Waiting}
use Rattle.pl_model.specs.Touching.{is_at, keeps_at}
use Rattle.pl_state.specs.Contents.{core_of}
use Rattle.pl_kernel.specs.ToldNodes.{key_of}
use Rattle.pl_kernel.specs.Index.{IsNoLess, IsTouched}
use Rattle.pl_kernel.proofs.touch.touch_process.Given as goal
use Rattle.pl_model.specs.Tables.{descriptor_limit}

-- What the descriptors so far name is touched.
abbrev pub invariant-loop-fd : goal.invariant-loop-fd
invariant-loop-fd g l = record {
  less : IsNoLess l.fn.waiters l.waiters;
  named : (node : Node numbers) (f : ℕ) → f < l.fd → is_at (core_of l.state) node ((core_of l.state).rows l.pid f) ≡ true → IsTouched l.fn.waiters l.waiters (key_of node);
}

-- What any descriptor names is touched, and so is where the calls of the process wait whose numbers are lower.
abbrev pub invariant-loop-number : goal.invariant-loop-number
invariant-loop-number g l = record {
  less : IsNoLess l.fn.waiters l.waiters;
  named : (node : Node numbers) → list_any (λ fd. is_at (core_of l.state) node ((core_of l.state).rows l.pid fd)) (numbers_from (descriptor_limit l.state.limits) 0) ≡ true → IsTouched l.fn.waiters l.waiters (key_of node);
  kept : (node : Node numbers) (n : ℕ) (v : Waiting g.row.A.Denot numbers) → n < l.from → get nat_eq (core_of l.state).parked n ≡ Some v → v.pid ≡ l.pid → keeps_at (core_of l.state) node v ≡ true → IsTouched l.fn.waiters l.waiters (key_of node);
}

abbrev pub decreases-loop-number : goal.decreases-loop-number
decreases-loop-number g l = 2 ^ 64 - l.from
