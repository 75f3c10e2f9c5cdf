-- To what a size is rounded, and the capacities of the pipes of each state that a run comes to.
use Rattle.std.specs.Prelude.{ℕ, ◌≤◌, max, IfSome, Bool, List}
use Rattle.std.specs.Int.{IsPowerOfTwo}
use Rattle.pl_model.specs.declared.calls.Limits.{Limits}
use Rattle.pl_model.specs.declared.calls.Step.{Step}
use Rattle.pl_model.specs.Numbers.{least_capacity, most_capacity}
use Rattle.pl_model.specs.State.{Core}
use Rattle.pl_model.specs.Capacity.{rounded_capacity, IsPipeCapacity}
use Rattle.pl_model.specs.Numbered.{numbers, State, opening, step}
use Rattle.pl_model.specs.Run.{after}

-- p is a power of two that is n or more, and no such one is less
pub record IsLeastPowerOfTwo (n p : ℕ) : Type 0 where
  pub power : IsPowerOfTwo p
  pub enough : n ≤ p
  pub least : (q : ℕ) → IsPowerOfTwo q → n ≤ q → p ≤ q

-- A size is rounded up to a power of two, and no further than it has to be.
abbrev pub RoundsUp : Type 0
RoundsUp = (size : ℕ) → size ≤ most_capacity → IsLeastPowerOfTwo (max least_capacity size) (rounded_capacity size)

-- each pipe has a capacity that a pipe may have
abbrev pub HaveCapacities : {A : Type 0} → Core A numbers → Type 0
HaveCapacities s = (p : ℕ) → IfSome (s.pipes p) (λ x. IsPipeCapacity x.capacity)

abbrev pub OpensWithCapacities : Type 0 → Type 0
OpensWithCapacities A = (limits : Limits) → HaveCapacities (opening {A = A} limits).core

abbrev pub StaysWithCapacities : Type 0 → Type 0
StaysWithCapacities A = (s : State A) (x : Step A) → HaveCapacities s.core → HaveCapacities (step s x).state.core

abbrev pub RunsWithCapacities : Type 0 → Type 0
RunsWithCapacities A = (s : State A) (xs : List (Step A × Bool)) → HaveCapacities s.core → HaveCapacities (after s xs).core
