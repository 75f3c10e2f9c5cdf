-- What holds as nodes are asked again.
use Rattle.std.specs.Prelude.{◌≡◌, ℕ, false}
use Rattle.pl_model.specs.State.{Core}
use Rattle.pl_model.specs.Numbered.{numbers}
use Rattle.pl_state.specs.Contents.{core_of}
use Rattle.pl_waiters.specs.declared.waiters.Waiters.{Waiters}
use Rattle.pl_waiters.specs.Seen.{is_touched, SameKnown}
use Rattle.pl_kernel.specs.Asking.{AreUnderstood}
use Rattle.pl_kernel.specs.Index.{Knows}
use Rattle.pl_kernel.proofs.asking.first_ready.Given as goal

pub record AreUp {A : Type 0} (c : Core A numbers) (old now : Waiters A) : Type 0 where
  pub understood : AreUnderstood c now
  pub knows : Knows c now
  pub known : SameKnown old now
  pub settled : (node : ℕ) → is_touched now node ≡ false

abbrev pub invariant-loop : goal.invariant-loop
invariant-loop g l = AreUp (core_of l.state) l.initial.waiters l.waiters
