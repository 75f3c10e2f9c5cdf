use Rattle.std.proofs.Common.{◌≡◌, false, refl, sym, ap, subst, ◌∙◌, length, IfSome, Some, None}
use Rattle.std.specs.Prelude.{◌==◌, not, slice_range, Bool, Option, if◌then◌else◌, ◌||◌}
use Rattle.std.proofs.lemmas.Bool.{ne_eqb}
use Rattle.pl_model.specs.Packets.{gain}
use Rattle.pl_model.specs.declared.calls.Call.{Call}
use Rattle.pl_model.specs.declared.calls.Step.TheVariants.{Begin}
use Rattle.pl_model.specs.declared.replies.Reply.{Reply}
use Rattle.pl_model.specs.declared.replies.Reply.TheVariants.{Count, Fault, CallsSpent}
use Rattle.pl_model.specs.declared.replies.Errno.TheVariants.{EAGAIN}
use Rattle.pl_model.specs.Modes.{writes}
use Rattle.pl_model.specs.Transfer.{room, write_case}
use Rattle.pl_decisions.specs.Decided.{FitsRoom}
use Rattle.pl_state.specs.KernelView.{view_of}
use Rattle.pl_model.specs.State.{Pipe}
use Rattle.pl_state.specs.declared.access.OpenEnd.{OpenEnd}
use Rattle.pl_state.specs.Contents.{Contents, nodes_of, lets_wait}
use Rattle.pl_state.specs.Opens.{Opens, of_end}
use Rattle.pl_desc.specs.Rows.{at}
use Rattle.pl_state.specs.LastHold.{has_reader}
use Rattle.pl_state.specs.Makes.{MakesAtKeys}
use Rattle.pl_state.specs.Parking.{refusal, refusal_in}
use Rattle.pl_nodes.proofs.Keyed.{on_err}
use Rattle.pl_state.proofs.by_call.Begun.{pipe_there}
use Rattle.pl_state.proofs.by_call.Moving.{changed_sound}
use Rattle.pl_transfers.proofs.by_call.Writing.{write-ends, write-wants, write-broken, write-refused}
use Rattle.pl_state.specs.Sound.{IsSound}
use Rattle.pl_state.proofs.Known.{Caller, caller, moved_view}
use Rattle.pl_transfers.proofs.transfers.try_write_pipe.Given.{Over}
use Rattle.pl_transfers.proofs.transfers.try_write_pipe.Goals.{After-case_of_write, Else-spent}
use Rattle.pl_transfers.proofs.transfers.try_write_pipe.Goals as goal

-- the pipe, and what the write comes to
module _ (g : Over) (c : After-case_of_write g) where
  abbrev k : Contents g.row.A.Denot
  k = view_of c.kernel.inside

  abbrev o : OpenEnd
  o = c.args.end

  abbrev calls_on : Caller g.row.A.Denot
  calls_on = caller c.kernel.inside c.kernel.invariant c.args.kernel.now c.kernel.view_is c.args.pid c.requires.process

  on_end : Opens k writes c.args.pid c.args.fd (of_end o)
  on_end = subst (λ z. Opens z writes c.args.pid c.args.fd (of_end o)) (sym c.kernel.view_is) c.requires.opens

  some : (length c.args.bytes.now == 0) ≡ false
  some = ne_eqb (length c.args.bytes.now) 0 c.requires.some

  on_pipe : (p : Pipe) × (at k.nodes.pipes o.pipe ≡ Some p)
  on_pipe = pipe_there k c.kernel.invariant.0.whole o.key o.pipe on_end.on

  comes_to : write_case (length c.args.bytes.now) 0 (room on_pipe.0) (has_reader k.opened o.pipe) (not o.nonblock) ≡ c.case_of_write.result
  comes_to =
      let told = subst (λ z. IfSome (at z.nodes.pipes o.pipe) (λ x. c.case_of_write.result ≡ write_case (length c.args.bytes.now) 0 (room x) (has_reader z.opened o.pipe) (not o.nonblock))) (sym c.kernel.view_is) c.case_of_write.ensures.case in
      sym (subst (λ z. IfSome z (λ x. c.case_of_write.result ≡ write_case (length c.args.bytes.now) 0 (room x) (has_reader k.opened o.pipe) (not o.nonblock))) on_pipe.1 told)

-- why a call that may wait doesn't
abbrev why : {A : Type 0} → Bool → Option (Reply A)
why spent = if spent then Some CallsSpent else None

-- nothing keeps the call from waiting
may_wait : (g : Over) (c : Else-spent g) → refusal_in {A = g.row.A.Denot} (view_of c.kernel.inside) c.args.pid c.args.end.nonblock ≡ None
may_wait g c = ap (λ b. refusal {A = g.row.A.Denot} b (view_of c.kernel.inside).calls.next) (ap (λ (z : Contents g.row.A.Denot). c.args.end.nonblock || not (lets_wait z c.args.pid)) c.kernel.view_is ∙ sym c.refuses_to_wait.ensures ∙ c.if-refuses_to_wait.false) ∙ ap (why {A = g.row.A.Denot}) (sym c.spent.ensures ∙ c.if-spent.false)

pub returns-in_err-write_pipe-in-Ends-clause-wanted : goal.returns-in_err-write_pipe-in-Ends-clause-wanted
returns-in_err-write_pipe-in-Ends-clause-wanted g c =
    let w = (goal.at.returns-in_err-write_pipe-in-Ends-clause-wanted g c).After-case_of_write in
    let p = on_pipe g w in
    on_err c.from_residual.result _ (rw (← c.kernel.view_is) (write-wants (calls_on g w) c.args.fd c.args.bytes.now (o g w) (on_end g w) (some g w) p.0 p.1 c.in-Ends.from c.in-Ends.to (comes_to g w ∙ c.in-Ends.is)))

pub invariant_of-kernel-in-Ends : goal.invariant_of-kernel-in-Ends
invariant_of-kernel-in-Ends g c =
    let w = (goal.at.invariant_of-kernel-in-Ends g c).After-case_of_write in
    let p = on_pipe g w in
    (subst (IsSound g.row.A.Denot) (moved_view c.kernel.inside c.write_pipe.new.self c.in_ok-write_pipe-in-Ends.ensures.files) (changed_sound (k g w) c.kernel.invariant.0 (o g w).key (o g w).pipe (on_end g w).on p.0 p.1 (nodes_of c.write_pipe.new.self) (gain (slice_range c.args.bytes.now c.in-Ends.from c.in-Ends.to)) refl c.in_ok-write_pipe-in-Ends.ensures.ok), c.kernel.invariant.1)

pub returns-then-refuses_to_wait-clause-done : goal.returns-then-refuses_to_wait-clause-done
returns-then-refuses_to_wait-clause-done g c =
    let w = (goal.at.returns-then-refuses_to_wait-clause-done g c).After-case_of_write in
    let p = on_pipe g w in
    let refused = ap (λ b. refusal {A = g.row.A.Denot} b (k g w).calls.next) (ap (λ (z : Contents g.row.A.Denot). c.args.end.nonblock || not (lets_wait z c.args.pid)) c.kernel.view_is ∙ sym c.refuses_to_wait.ensures ∙ c.if-refuses_to_wait.true) in
    rw (← c.kernel.view_is) (write-refused (calls_on g w) c.args.fd c.args.bytes.now (o g w) (on_end g w) (some g w) p.0 p.1 c.in-Waits.from c.in-Waits.to (comes_to g w ∙ c.in-Waits.is) (Fault EAGAIN) refused)

pub returns-then-spent-clause-done : goal.returns-then-spent-clause-done
returns-then-spent-clause-done g c =
    let w = (goal.at.returns-then-spent-clause-done g c).After-case_of_write in
    let p = on_pipe g w in
    let refused = ap (λ b. refusal {A = g.row.A.Denot} b (k g w).calls.next) (ap (λ (z : Contents g.row.A.Denot). c.args.end.nonblock || not (lets_wait z c.args.pid)) c.kernel.view_is ∙ sym c.refuses_to_wait.ensures ∙ c.if-refuses_to_wait.false) ∙ ap (why {A = g.row.A.Denot}) (sym c.spent.ensures ∙ c.if-spent.true) in
    rw (← c.kernel.view_is) (write-refused (calls_on g w) c.args.fd c.args.bytes.now (o g w) (on_end g w) (some g w) p.0 p.1 c.in-Waits.from c.in-Waits.to (comes_to g w ∙ c.in-Waits.is) CallsSpent refused)

pub returns-in-Broken-clause-done : goal.returns-in-Broken-clause-done
returns-in-Broken-clause-done g c =
    let w = (goal.at.returns-in-Broken-clause-done g c).After-case_of_write in
    let p = on_pipe g w in
    rw (← c.kernel.view_is) (write-broken (calls_on g w) c.args.fd c.args.bytes.now (o g w) (on_end g w) (some g w) p.0 p.1 (comes_to g w ∙ c.in-Broken.is))

pub returns-in_ok-write_pipe-in-Ends-clause-done : goal.returns-in_ok-write_pipe-in-Ends-clause-done
returns-in_ok-write_pipe-in-Ends-clause-done g c =
    let w = (goal.at.returns-in_ok-write_pipe-in-Ends-clause-done g c).After-case_of_write in
    let p = on_pipe g w in
    rw (← c.kernel.view_is) (subst (MakesAtKeys (k g w) (Begin c.args.pid (Call.Write c.args.fd c.args.bytes.now)) (Count c.in-Ends.to false)) (moved_view c.kernel.inside c.write_pipe.new.self c.in_ok-write_pipe-in-Ends.ensures.files)
    (write-ends (calls_on g w) c.args.fd c.args.bytes.now (o g w) (on_end g w) (some g w) p.0 p.1 c.in-Ends.from c.in-Ends.to (comes_to g w ∙ c.in-Ends.is) (slice_range c.args.bytes.now c.in-Ends.from c.in-Ends.to) refl (nodes_of c.write_pipe.new.self) c.in_ok-write_pipe-in-Ends.ensures.ok))

pub returns-else-spent-clause-done : goal.returns-else-spent-clause-done
returns-else-spent-clause-done g c =
    let k = c.args.kernel.now in
    let o = c.args.end in (
      refl,
      record {
        opens = c.requires.opens;
        some = c.requires.some;
        from = c.in-Waits.from;
        comes = subst (λ r. IfSome (at k.nodes.pipes o.pipe) (λ x. r ≡ write_case (length c.args.bytes.now) 0 (room x) (has_reader k.opened o.pipe) (not o.nonblock))) c.in-Waits.is c.case_of_write.ensures.case;
        fits = subst (λ r. IfSome (at k.nodes.pipes o.pipe) (λ x. FitsRoom r (length c.args.bytes.now) 0 (room x))) c.in-Waits.is c.case_of_write.ensures.fits;
        left = subst (λ (z : Contents g.row.A.Denot). refusal_in z c.args.pid o.nonblock ≡ None) c.kernel.view_is (may_wait g (goal.at.returns-else-spent-clause-done g c).Else-spent);
      },
    )
