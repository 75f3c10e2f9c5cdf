-- Splices and tees that wait.
use Rattle.std.specs.Prelude.{◌≢◌, ℕ}
use Rattle.pl_state.specs.Contents.{Contents}
use Rattle.pl_state.specs.declared.waits.WaitingMove.{WaitingMove}
use Rattle.pl_splices.specs.declared.waiting.Sides.{Sides}
use Rattle.pl_splices.specs.Moves.{Goes, MoveWaits}

module _ {A : Type 0} where
  -- the call of the number is this splice or tee, which waits on these two sides for some bytes
  pub record WaitsToMove (k : Contents A) (number : ℕ) (m : WaitingMove) (s : Sides) : Type 0 where
    pub waits : MoveWaits k number s.from s.to m.len m.is_tee
    pub goes : Goes k s.from s.to m.is_tee
    pub some : m.len ≢ 0
