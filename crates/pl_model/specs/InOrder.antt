-- The parked calls of each state that a run comes to.
use Rattle.std.specs.Prelude.{◌≡◌, ⊤, ℕ, ◌<◌, ◌≤◌, nat_eq, length, Bool, List, Some}
use Rattle.pl_model.specs.declared.calls.Call.{Call}
use Rattle.pl_model.specs.declared.calls.Limits.{Limits}
use Rattle.pl_model.specs.declared.calls.Step.{Step}
use Rattle.pl_model.specs.Numbers.{pipe_buf}
use Rattle.pl_model.specs.Map.{get, EachOnce}
use Rattle.pl_model.specs.State.{Core, Waiting}
use Rattle.pl_model.specs.Numbered.{numbers, State, opening, step}
use Rattle.pl_model.specs.Run.{after}

module _ {A : Type 0} where
  -- A parked write has taken some of its bytes, and none of them where it is to go in whole.
  abbrev pub HasTaken : Call A → ℕ → Type 0
  HasTaken (Call.Write fd bytes) t = (t ≤ length bytes) × (length bytes ≤ pipe_buf → t ≡ 0)
  HasTaken call t = ⊤

  -- What holds of the parked calls of each state that a run comes to.
  pub record AreInOrder (s : Core A numbers) : Type 0 where
    pub once : EachOnce nat_eq s.parked
    -- a new number is new
    pub below : (c : ℕ) (w : Waiting A numbers) → get nat_eq s.parked c ≡ Some w → c < s.next_call
    pub taken : (c : ℕ) (w : Waiting A numbers) → get nat_eq s.parked c ≡ Some w → HasTaken w.call w.taken

abbrev pub OpensInOrder : Type 0 → Type 0
OpensInOrder A = (limits : Limits) → AreInOrder (opening {A = A} limits).core

abbrev pub StaysInOrder : Type 0 → Type 0
StaysInOrder A = (s : State A) (x : Step A) → AreInOrder s.core → AreInOrder (step s x).state.core

abbrev pub RunsInOrder : Type 0 → Type 0
RunsInOrder A = (s : State A) (xs : List (Step A × Bool)) → AreInOrder s.core → AreInOrder (after s xs).core
