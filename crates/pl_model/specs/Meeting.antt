-- Opens that wait for their other end, once they met it.
use Rattle.std.specs.Prelude.{◌≡◌, ℕ, nat_eq, Bool, true, List, Some}
use Rattle.pl_model.specs.declared.calls.Step.{Step}
use Rattle.pl_model.specs.Map.{get}
use Rattle.pl_model.specs.State.{Core, Waiting}
use Rattle.pl_model.specs.Numbered.{numbers, State, step}
use Rattle.pl_model.specs.Run.{after}
use Rattle.pl_model.specs.InOrder.{AreInOrder}

-- the call is parked under the number, and met its other end
pub record IsMet {A : Type 0} (c : Core A numbers) (n : ℕ) : Type 0 where
  pub call : Waiting A numbers
  pub parked : get nat_eq c.parked n ≡ Some call
  pub met : call.met ≡ true

-- A call that met its other end has met it after any step that leaves it parked.
abbrev pub StaysMet : Type 0 → Type 0
StaysMet A =
    (s : State A) (x : Step A) (n : ℕ) → AreInOrder s.core → IsMet s.core n →
    (now : Waiting A numbers) → get nat_eq (step s x).state.core.parked n ≡ Some now → now.met ≡ true

-- The same of a whole run.
abbrev pub RunsStayMet : Type 0 → Type 0
RunsStayMet A =
    (s : State A) (xs : List (Step A × Bool)) (n : ℕ) → AreInOrder s.core → IsMet s.core n →
    (now : Waiting A numbers) → get nat_eq (after s xs).core.parked n ≡ Some now → now.met ≡ true
