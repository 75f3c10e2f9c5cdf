-- What a call answers that works on the caller's bytes or entries.
use Rattle.pl_model.specs.declared.replies.Reply.{Reply}
use Rattle.pl_model.specs.declared.replies.Reply.TheVariants as reply
use Rattle.pl_state.specs.declared.answered.Answered.{Answered}
use Rattle.pl_state.specs.declared.answered.Answered.TheVariants.{Done, Fault, Parked, NoProcess, CallsSpent}

module _ {T : Type 0} where
  -- the reply that an answer tells, by that of a call that is done
  abbrev pub told : {A : Type 0} → (T → Reply A) → Answered T → Reply A
  told reply_of (Done gives) = reply_of gives
  told reply_of (Fault errno) = reply.Fault errno
  told reply_of (Parked number) = reply.Parked number
  told reply_of NoProcess = reply.NoProcess
  told reply_of CallsSpent = reply.CallsSpent

  abbrev pub IsDone : Answered T → Type 0
  IsDone (Done gives) = Unit {0}
  IsDone other = ⊥
