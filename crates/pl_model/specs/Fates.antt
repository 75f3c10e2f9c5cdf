-- What becomes of a call in a run.
use Rattle.std.specs.Prelude.{ℕ, Bool, true, false, nat_eq, ◌&&◌, not, List, [], ◌∷◌, is_some, if◌then◌else◌, option_map, unwrap_or}
use Rattle.pl_model.specs.declared.calls.Step.{Step}
use Rattle.pl_model.specs.declared.calls.Step.TheVariants.{Resume, Interrupt}
use Rattle.pl_model.specs.declared.replies.Reply.{Reply}
use Rattle.pl_model.specs.declared.replies.Reply.TheVariants.{Count, Bytes, Parked}
use Rattle.pl_model.specs.Map.{get}
use Rattle.pl_model.specs.State.{Core}
use Rattle.pl_model.specs.Numbered.{numbers, State, step}
use Rattle.pl_model.specs.Chunks.{unless_empty}

-- How a call ended: its last try answered so, or it was interrupted and answered so, or its process ended before. Or it
-- waits.
pub data Ending (A : Type 0) : Type 0 where
  Answered : Reply A → Ending A
  Interrupted : Reply A → Ending A
  Dropped : Ending A
  Waits : Ending A

-- with the bytes that a write took until its last try
pub record Fate (A : Type 0) : Type 0 where
  pub ending : Ending A
  pub taken : ℕ

module _ {A : Type 0} where
  abbrev pub is_parked : Core A numbers → ℕ → Bool
  is_parked s c = is_some (get nat_eq s.parked c)

  -- the bytes that the parked call took
  abbrev pub taken_by : Core A numbers → ℕ → ℕ
  taken_by s c = unwrap_or (option_map (λ w. w.taken) (get nat_eq s.parked c)) 0

  -- the same after this answer, where so many were taken before
  abbrev pub taken_with : ℕ → Reply A → ℕ
  taken_with t (Count n sigpipe) = n
  taken_with t reply = t

  -- the call c, which is parked no more after this step
  abbrev pub ended_by : Step A → Reply A → ℕ → ℕ → Fate A
  ended_by (Resume d) reply c t = if nat_eq d c then record { ending = Answered reply; taken = taken_with t reply } else record { ending = Dropped; taken = t }
  ended_by (Interrupt d) reply c t = if nat_eq d c then record { ending = Interrupted reply; taken = taken_with t reply } else record { ending = Dropped; taken = t }
  ended_by x reply c t = record { ending = Dropped; taken = t }

  -- the parked call c
  abbrev pub fate : State A → List (Step A × Bool) → ℕ → Fate A
  fate s [] c = record { ending = Waits; taken = taken_by s.core c }
  fate s ((x, true) ∷ xs) c = fate s xs c
  fate s ((x, false) ∷ xs) c =
      if is_parked (step s x).state.core c then fate (step s x).state xs c
      else ended_by x (step s x).reply c (taken_by s.core c)

  -- a call that begins in this step, which is answered so, and then in the rest of the run
  abbrev pub fate_answered : State A → List (Step A × Bool) → Reply A → Fate A
  fate_answered s xs (Parked c) = fate s xs c
  fate_answered s xs reply = record { ending = Answered reply; taken = taken_with 0 reply }

  abbrev pub fate_begun : State A → Step A → List (Step A × Bool) → Fate A
  fate_begun s x xs = fate_answered (step s x).state xs (step s x).reply

  -- the count of so many bytes was answered, with a reader left
  abbrev pub answers_count : Ending A → ℕ → Bool
  answers_count (Answered (Count k sigpipe)) n = nat_eq k n && not sigpipe
  answers_count ending n = false

  -- the bytes that a read was answered; nothing, where there are none
  abbrev pub bytes_answered : Ending A → List (List ℕ)
  bytes_answered (Answered (Bytes bytes)) = unless_empty bytes
  bytes_answered ending = []
