-- What holds as touched nodes are asked.
use Rattle.std.specs.Prelude.{◌≡◌, ℕ, Option, IfSome, true, length}
use Rattle.pl_model.specs.State.{Core}
use Rattle.pl_model.specs.Numbered.{numbers}
use Rattle.pl_state.specs.Contents.{core_of}
use Rattle.pl_waiters.specs.declared.waiters.Waiters.{Waiters}
use Rattle.pl_waiters.specs.Seen.{SameKnown}
use Rattle.pl_kernel.specs.Asking.{AreUnderstood}
use Rattle.pl_kernel.specs.Progress.{is_ready}
use Rattle.pl_kernel.specs.Index.{Knows}
use Rattle.pl_kernel.proofs.asking.settle.Given as goal

pub record AreSettled {A : Type 0} (c : Core A numbers) (old now : Waiters A) (least : Option ℕ) : Type 0 where
  pub understood : AreUnderstood c now
  pub knows : Knows c now
  pub known : SameKnown old now
  pub ready : IfSome least (λ n. is_ready c n ≡ true)

abbrev pub invariant-loop-node : goal.invariant-loop-node
invariant-loop-node g l = AreSettled (core_of l.state) l.initial.waiters l.waiters l.least

abbrev pub decreases-loop-node : goal.decreases-loop-node
decreases-loop-node g l = length l.waiters.touched.nodes.items
