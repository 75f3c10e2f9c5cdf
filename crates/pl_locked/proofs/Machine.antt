-- A call that is tried again keeps its number.
use Rattle.std.proofs.Common.{◌≡◌, sym}
use Rattle.pl_model.specs.declared.calls.Step.{Step}
use Rattle.pl_model.specs.declared.calls.Step.TheVariants.{Resume}
use Rattle.pl_model.specs.declared.replies.Reply.{Reply}
use Rattle.pl_model.specs.declared.replies.Reply.TheVariants.{Parked}
use Rattle.pl_model.specs.Numbered.{State, step}
use Rattle.pl_model.proofs.by_call.Waiting.{resumed_number}
use Rattle.pl_locked.specs.Journals.{KeepsItsNumber}

pub keeps_number : {A : Type 0} (s : State A) (x : Step A) (r : Reply A) → r ≡ (step s x).reply → KeepsItsNumber x r
keeps_number s (Resume c) (Parked d) is = resumed_number s c d (sym is)
keeps_number s x r is = tt
