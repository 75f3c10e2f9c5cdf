-- What a write comes to at its first try.
use Rattle.std.specs.Prelude.{◌≡◌, ◌≢◌, ℕ, ℤ, List, length, false, not, IfSome, None}
use Rattle.pl_model.specs.declared.calls.Call.{Call}
use Rattle.pl_model.specs.declared.calls.Step.TheVariants.{Begin}
use Rattle.pl_model.specs.declared.cases.WriteCase.{WriteCase}
use Rattle.pl_model.specs.Modes.{writes}
use Rattle.pl_model.specs.declared.replies.Reply.{Reply}
use Rattle.pl_model.specs.declared.replies.Reply.TheVariants as reply
use Rattle.pl_model.specs.Transfer.{room, write_case}
use Rattle.pl_desc.specs.Rows.{at}
use Rattle.pl_decisions.specs.Decided.{FitsRoom}
use Rattle.pl_state.specs.declared.access.OpenEnd.{OpenEnd}
use Rattle.pl_state.specs.Contents.{Contents}
use Rattle.pl_state.specs.LastHold.{has_reader}
use Rattle.pl_state.specs.Makes.{MakesAtKeys}
use Rattle.pl_state.specs.Opens.{Opens, of_end}
use Rattle.pl_state.specs.Parking.{refusal_in}
use Rattle.pl_state.specs.declared.answered.Answered.{Answered}
use Rattle.pl_state.specs.Answered.{told}
use Rattle.pl_transfers.specs.declared.transfers.Written.{Written}
use Rattle.pl_transfers.specs.declared.transfers.WriteTry.{WriteTry}
use Rattle.pl_transfers.specs.declared.transfers.WriteTry.TheVariants as try

-- the reply that a write's answer tells
abbrev pub reply_of : {A : Type 0} → Answered Written → Reply A
reply_of answered = told (λ w. reply.Count w.n w.sigpipe) answered

module _ {A : Type 0} (k : Contents A) (pid : ℕ) (fd : ℤ) (bytes : List ℕ) where
  -- nothing keeps a write of these bytes from waiting, and so many of them go in first
  pub record WaitsToWrite (end : OpenEnd) (to : ℕ) : Type 0 where
    pub opens : Opens k writes pid fd (of_end end)
    pub some : length bytes ≢ 0
    pub from : ℕ
    pub comes : IfSome (at k.nodes.pipes end.pipe) (λ x. WriteCase.Waits from to ≡ write_case (length bytes) 0 (room x) (has_reader k.opened end.pipe) (not end.nonblock))
    pub fits : IfSome (at k.nodes.pipes end.pipe) (λ x. FitsRoom (WriteCase.Waits from to) (length bytes) 0 (room x))
    pub left : refusal_in {A = A} k pid end.nonblock ≡ None

  -- what a write comes to before it is parked
  abbrev pub WriteTried : WriteTry → Contents A → Type 0
  WriteTried (try.Answered reply) new = MakesAtKeys k (Begin pid (Call.Write fd bytes)) (reply_of reply) new
  WriteTried (try.Wrote n) new = MakesAtKeys k (Begin pid (Call.Write fd bytes)) (reply.Count n false) new
  WriteTried (try.Waits end to) new = (new ≡ k) × WaitsToWrite end to
