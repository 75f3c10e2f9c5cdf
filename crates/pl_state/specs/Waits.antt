-- What the parked call of a number waits for.
use Rattle.std.specs.Prelude.{◌≡◌, ℕ, true, false, [], ◌∷◌, nat_eq, None, Some}
use Rattle.pl_model.specs.declared.calls.Call.{Call}
use Rattle.pl_model.specs.declared.calls.Call.TheVariants.{Splice, Tee}
use Rattle.pl_model.specs.Map.{get}
use Rattle.pl_parked.specs.declared.call.ParkedCall.{ParkedCall}
use Rattle.pl_state.specs.declared.waits.WaitingMove.{WaitingMove}
use Rattle.pl_state.specs.declared.waits.WaitingCall.{WaitingCall}
use Rattle.pl_state.specs.declared.waits.WaitingCall.TheVariants.{Read, Write, Open, Move, Poll}
use Rattle.pl_state.specs.Contents.{Contents}
use Rattle.pl_state.specs.Parking.{ReadWaits, WriteWaits, OpenWaits}
use Rattle.pl_state.specs.Sound.{IsPoll}

module _ {A : Type 0} where
  -- splice(2), tee(2): the call moves, or copies, so many bytes at most; a tee is given no offsets
  abbrev pub AsksMove : Call A → WaitingMove → Type 0
  AsksMove (Splice a x b y n flags) m = (x ≡ m.from_offset) × (y ≡ m.to_offset) × (n ≡ m.len) × (m.is_tee ≡ false)
  AsksMove (Tee a b n flags) m = (m.from_offset ≡ None) × (m.to_offset ≡ None) × (n ≡ m.len) × (m.is_tee ≡ true)
  AsksMove other m = ⊥

  module _ (k : Contents A) (number : ℕ) where
    -- the call of the number is this splice or tee, which keeps two descriptions
    pub record MoveIsKept (m : WaitingMove) : Type 0 where
      pub call : ParkedCall A
      pub here : get nat_eq k.calls.calls number ≡ Some call
      pub asked : AsksMove call.call m
      pub kept : call.kept ≡ m.from ∷ m.to ∷ []

    -- the call of the number is a poll
    pub record PollWaits : Type 0 where
      pub call : ParkedCall A
      pub here : get nat_eq k.calls.calls number ≡ Some call
      pub asked : IsPoll call.call

    -- what the call of the number waits for
    abbrev pub WaitsAs : WaitingCall → Type 0
    WaitsAs (Read key n) = ReadWaits k number key n
    WaitsAs (Write key length taken) = WriteWaits k number key length taken
    WaitsAs (Open key pid met) = OpenWaits k number pid key met
    WaitsAs (Move m) = MoveIsKept m
    WaitsAs Poll = PollWaits
