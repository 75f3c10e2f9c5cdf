-- What holds as the nodes are gone over.
use Rattle.std.specs.Prelude.{◌≡◌, ◌≤◌, ◌<◌, ℕ, true, IfSome, Option}
use Rattle.pl_model.specs.State.{Core}
use Rattle.pl_model.specs.Numbered.{numbers}
use Rattle.pl_state.specs.Contents.{core_of}
use Rattle.pl_kernel.specs.Progress.{is_ready}
use Rattle.pl_waiters.specs.declared.waiters.Waiters.{Waiters}
use Rattle.pl_kernel.specs.Asking.{Prunes, CoversNode}
use Rattle.pl_kernel.proofs.asking.first_ready_from.Given as goal

-- Of the nodes so far none has a call that can make progress, and is below what was found.
pub record AreCovered {A : Type 0} (c : Core A numbers) (old now : Waiters A) (from node : ℕ) (found : Option ℕ) : Type 0 where
  pub prunes : Prunes c old now
  pub some : IfSome found (λ n. (from ≤ n) × (is_ready c n ≡ true))
  pub covers : (key : ℕ) → key < node → CoversNode c old key from found

abbrev pub invariant-loop-node : goal.invariant-loop-node
invariant-loop-node g l = AreCovered (core_of l.state) l.initial.waiters l.waiters l.from l.node l.least
