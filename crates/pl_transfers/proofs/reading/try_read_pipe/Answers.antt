use Rattle.std.proofs.Common.{◌≡◌, None, false, refl, sym, ap, subst, ◌∙◌, nat_eq, w32, IfSome, Some}
use Rattle.std.proofs.lemmas.Int.{to_z-of_z}
use Rattle.std.proofs.lemmas.Bool.{ne_eqb}
use Rattle.pl_model.specs.Packets.{front}
use Rattle.pl_model.specs.declared.calls.Call.{Call}
use Rattle.pl_model.specs.declared.calls.Step.TheVariants.{Begin}
use Rattle.pl_model.specs.declared.replies.Reply.TheVariants.{Parked, Fault, CallsSpent}
use Rattle.pl_model.specs.declared.replies.Reply.{Reply}
use Rattle.pl_model.specs.declared.replies.Errno.TheVariants.{EAGAIN}
use Rattle.std.specs.Prelude.{Bool, Option, if◌then◌else◌, ◌||◌, not}
use Rattle.pl_model.specs.Modes.{reads}
use Rattle.pl_model.specs.Transfer.{read_case}
use Rattle.pl_state.specs.KernelView.{view_of}
use Rattle.pl_model.specs.State.{Pipe}
use Rattle.pl_state.specs.declared.access.OpenEnd.{OpenEnd}
use Rattle.pl_state.specs.Contents.{Contents, lets_wait}
use Rattle.pl_state.specs.Opens.{Opens, of_end}
use Rattle.pl_desc.specs.Rows.{at}
use Rattle.pl_state.specs.LastHold.{has_writer}
use Rattle.pl_state.specs.Makes.{MakesAtKeys}
use Rattle.pl_state.specs.Parking.{refusal, refusal_in, call_on, with_call}
use Rattle.pl_nodes.proofs.Keyed.{on_err}
use Rattle.pl_state.proofs.by_call.Begun.{pipe_there}
use Rattle.pl_transfers.proofs.by_call.Reading.{read-end, read-refused, read-waits, read-waits-parks}
use Rattle.pl_state.proofs.Known.{Caller, caller}
use Rattle.pl_transfers.proofs.reading.try_read_pipe.Given.{Over}
use Rattle.pl_transfers.proofs.reading.try_read_pipe.Goals.{After-case_of_read, Else-spent}
use Rattle.pl_transfers.proofs.reading.try_read_pipe.Goals as goal

-- the pipe, and what the read comes to
module _ (g : Over) (c : After-case_of_read g) where
  abbrev k : Contents g.row.A.Denot
  k = view_of c.kernel.inside

  abbrev o : OpenEnd
  o = c.args.end

  abbrev calls_on : Caller g.row.A.Denot
  calls_on = caller c.kernel.inside c.kernel.invariant c.args.kernel.now c.kernel.view_is c.args.pid c.requires.process

  on_end : Opens k reads c.args.pid c.args.fd (of_end o)
  on_end = subst (λ z. Opens z reads c.args.pid c.args.fd (of_end o)) (sym c.kernel.view_is) c.requires.opens

  some : nat_eq c.args.n 0 ≡ false
  some = ne_eqb c.args.n 0 c.requires.some

  on_pipe : (p : Pipe) × (at k.nodes.pipes o.pipe ≡ Some p)
  on_pipe = pipe_there k c.kernel.invariant.0.whole o.key o.pipe on_end.on

  comes_to : read_case c.args.n (front on_pipe.0) (has_writer k.opened o.pipe) ≡ c.case_of_read.result
  comes_to =
      let told : IfSome (at k.nodes.pipes o.pipe) (λ x. c.case_of_read.result ≡ read_case c.args.n (front x) (has_writer k.opened o.pipe)) = subst (λ z. IfSome (at z.nodes.pipes o.pipe) (λ x. c.case_of_read.result ≡ read_case c.args.n (front x) (has_writer z.opened o.pipe))) (sym c.kernel.view_is) c.case_of_read.ensures.case in
      sym (subst (λ z. IfSome z (λ x. c.case_of_read.result ≡ read_case c.args.n (front x) (has_writer k.opened o.pipe))) on_pipe.1 told)

-- why a call that may wait doesn't
abbrev why : {A : Type 0} → Bool → Option (Reply A)
why spent = if spent then Some CallsSpent else None

-- nothing keeps the call from waiting
may_wait : (g : Over) (c : Else-spent g) → refusal_in {A = g.row.A.Denot} (view_of c.kernel.inside) c.args.pid c.args.end.nonblock ≡ None
may_wait g c = ap (λ b. refusal {A = g.row.A.Denot} b (view_of c.kernel.inside).calls.next) (ap (λ (z : Contents g.row.A.Denot). c.args.end.nonblock || not (lets_wait z c.args.pid)) c.kernel.view_is ∙ sym c.refuses_to_wait.ensures ∙ c.if-refuses_to_wait.false) ∙ ap (why {A = g.row.A.Denot}) (sym c.spent.ensures ∙ c.if-spent.false)

pub returns-in-Gives-clause-done : goal.returns-in-Gives-clause-done
returns-in-Gives-clause-done g c =
    (refl, record { opens = c.requires.opens; some = c.requires.some; gives = subst (λ r. IfSome (at c.args.kernel.now.nodes.pipes c.args.end.pipe) (λ x. r ≡ read_case c.args.n (front x) (has_writer c.args.kernel.now.opened c.args.end.pipe))) c.in-Gives.is c.case_of_read.ensures.case })

pub returns-in-EndOfFile-clause-done : goal.returns-in-EndOfFile-clause-done
returns-in-EndOfFile-clause-done g c =
    let w = (goal.at.returns-in-EndOfFile-clause-done g c).After-case_of_read in
    let p = on_pipe g w in
    rw (← c.kernel.view_is) (read-end (calls_on g w) c.args.fd c.args.n (o g w) (on_end g w) (some g w) p.0 p.1 (comes_to g w ∙ c.in-EndOfFile.is), refl)

pub returns-then-refuses_to_wait-clause-done : goal.returns-then-refuses_to_wait-clause-done
returns-then-refuses_to_wait-clause-done g c =
    let w = (goal.at.returns-then-refuses_to_wait-clause-done g c).After-case_of_read in
    let p = on_pipe g w in
    let refused = ap (λ b. refusal {A = g.row.A.Denot} b (k g w).calls.next) (ap (λ (z : Contents g.row.A.Denot). c.args.end.nonblock || not (lets_wait z c.args.pid)) c.kernel.view_is ∙ sym c.refuses_to_wait.ensures ∙ c.if-refuses_to_wait.true) in
    rw (← c.kernel.view_is) (read-refused (calls_on g w) c.args.fd c.args.n (o g w) (on_end g w) (some g w) p.0 p.1 (Fault EAGAIN) (comes_to g w ∙ c.in-Waits.is) refused, refl)

pub returns-then-spent-clause-done : goal.returns-then-spent-clause-done
returns-then-spent-clause-done g c =
    let w = (goal.at.returns-then-spent-clause-done g c).After-case_of_read in
    let p = on_pipe g w in
    let refused = ap (λ b. refusal {A = g.row.A.Denot} b (k g w).calls.next) (ap (λ (z : Contents g.row.A.Denot). c.args.end.nonblock || not (lets_wait z c.args.pid)) c.kernel.view_is ∙ sym c.refuses_to_wait.ensures ∙ c.if-refuses_to_wait.false) ∙ ap (why {A = g.row.A.Denot}) (sym c.spent.ensures ∙ c.if-spent.true) in
    rw (← c.kernel.view_is) (read-refused (calls_on g w) c.args.fd c.args.n (o g w) (on_end g w) (some g w) p.0 p.1 CallsSpent (comes_to g w ∙ c.in-Waits.is) refused, refl)

pub returns-in_err-number-in-Waits-clause-wanted : goal.returns-in_err-number-in-Waits-clause-wanted
returns-in_err-number-in-Waits-clause-wanted g c =
    let w = (goal.at.returns-in_err-number-in-Waits-clause-wanted g c).After-case_of_read in
    let p = on_pipe g w in
    let left = may_wait g (goal.at.returns-in_err-number-in-Waits-clause-wanted g c).Else-spent in
    on_err c.from_residual.result _ (rw (← c.kernel.view_is) (read-waits-parks (calls_on g w) c.args.fd c.args.n (o g w) (on_end g w) (some g w) p.0 p.1 (comes_to g w ∙ c.in-Waits.is) left))

pub returns-in_ok-number-in-Waits-clause-done : goal.returns-in_ok-number-in-Waits-clause-done
returns-in_ok-number-in-Waits-clause-done g c =
    let w = (goal.at.returns-in_ok-number-in-Waits-clause-done g c).After-case_of_read in
    let p = on_pipe g w in
    let k = view_of c.kernel.inside in
    let o = c.args.end in
    let left = may_wait g (goal.at.returns-in_ok-number-in-Waits-clause-done g c).Else-spent in
    let x = Begin c.args.pid (Call.Read c.args.fd c.args.n) in
    let call = call_on o.key c.args.pid (Call.Read c.args.fd c.args.n) 0 in
    let does = read-waits (calls_on g w) c.args.fd c.args.n o (on_end g w) (some g w) p.0 p.1 (comes_to g w ∙ c.in-Waits.is) left in
    let new : c.park_read.new.kernel ≡ with_call k call =
    c.in_ok-number-in-Waits.ensures.ok ∙ ap (λ z. with_call c.args.kernel.now (call_on o.key c.args.pid (Call.Read z c.args.n) 0)) (to_z-of_z w32 c.args.fd c.ranges.fd) ∙ ap (λ z. with_call z call) (sym c.kernel.view_is) in
    let number : c.in_ok-number-in-Waits.number ≡ k.calls.next = c.in_ok-number-in-Waits.ensures.number ∙ ap (λ z. z.calls.next) (sym c.kernel.view_is) in (
      subst (λ z. MakesAtKeys z x (Parked c.in_ok-number-in-Waits.number) c.park_read.new.kernel) c.kernel.view_is
          (subst (λ z. MakesAtKeys k x (Parked z) c.park_read.new.kernel) (sym number) (subst (λ z. MakesAtKeys k x (Parked k.calls.next) z) (sym new) does)),
      refl,
    )
