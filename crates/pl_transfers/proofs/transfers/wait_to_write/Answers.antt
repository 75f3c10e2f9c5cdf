use Rattle.std.proofs.Common.{◌≡◌, ◌≤◌, ◌<◌, false, sym, ap, subst, ◌∙◌, length, take, w32, IfSome, Some, arith}
use Rattle.std.specs.Prelude.{◌==◌, not, Result, Ok, Err, IfOk, OnOk}
use Rattle.std.proofs.lemmas.Int.{to_z-of_z}
use Rattle.std.proofs.lemmas.Bool.{ne_eqb}
use Rattle.pl_model.specs.declared.calls.Call.{Call}
use Rattle.pl_model.specs.declared.calls.Step.TheVariants.{Begin}
use Rattle.pl_model.specs.declared.cases.WriteCase.TheVariants.{Waits}
use Rattle.pl_model.specs.declared.replies.Reply.TheVariants.{Parked}
use Rattle.pl_model.specs.Transfer.{room, write_case}
use Rattle.pl_model.specs.State.{Pipe}
use Rattle.pl_decisions.specs.Decided.{FitsRoom}
use Rattle.pl_desc.specs.Rows.{at}
use Rattle.pl_state.specs.KernelView.{view_of}
use Rattle.pl_state.specs.declared.access.OpenEnd.{OpenEnd}
use Rattle.pl_state.specs.Contents.{Contents}
use Rattle.pl_state.specs.LastHold.{has_reader}
use Rattle.pl_state.specs.Makes.{MakesAtKeys}
use Rattle.pl_state.specs.Parking.{call_on, with_call, Adds}
use Rattle.pl_nodes.proofs.Keyed.{on_err}
use Rattle.pl_state.proofs.by_call.Begun.{pipe_there}
use Rattle.pl_state.proofs.Known.{Caller, caller}
use Rattle.pl_transfers.specs.Waits.{WaitsToWrite}
use Rattle.pl_transfers.proofs.by_call.BytesLeft.{waits_left}
use Rattle.pl_transfers.proofs.by_call.Writing.{from_first, write-waits, write-waits-wants}
use Rattle.pl_transfers.proofs.transfers.wait_to_write.Given.{Over}
use Rattle.pl_transfers.proofs.transfers.wait_to_write.Goals.{After-kernel}
use Rattle.pl_transfers.proofs.transfers.wait_to_write.Goals as goal

-- the pipe that it waits on, and that it waits
module _ (g : Over) (c : After-kernel g) where
  abbrev k : Contents g.row.A.Denot
  k = view_of c.kernel.inside

  abbrev o : OpenEnd
  o = c.args.end

  abbrev calls_on : Caller g.row.A.Denot
  calls_on = caller c.kernel.inside c.kernel.invariant c.args.kernel.now c.kernel.view_is c.args.pid c.requires.process

  w : WaitsToWrite k c.args.pid c.args.fd c.args.bytes o c.args.to
  w = subst (λ z. WaitsToWrite z c.args.pid c.args.fd c.args.bytes o c.args.to) (sym c.kernel.view_is) c.requires.waits

  some : (length c.args.bytes == 0) ≡ false
  some = ne_eqb (length c.args.bytes) 0 w.some

  on_pipe : (p : Pipe) × (at k.nodes.pipes o.pipe ≡ Some p)
  on_pipe = pipe_there k c.kernel.invariant.0.whole o.key o.pipe w.opens.on

  comes_to : write_case (length c.args.bytes) 0 (room on_pipe.0) (has_reader k.opened o.pipe) (not o.nonblock) ≡ Waits w.from c.args.to
  comes_to = sym (subst (λ z. IfSome z (λ x. Waits w.from c.args.to ≡ write_case (length c.args.bytes) 0 (room x) (has_reader k.opened o.pipe) (not o.nonblock))) on_pipe.1 w.comes)

  fits : FitsRoom (Waits w.from c.args.to) (length c.args.bytes) 0 (room on_pipe.0)
  fits = subst (λ z. IfSome z (λ x. FitsRoom (Waits w.from c.args.to) (length c.args.bytes) 0 (room x))) on_pipe.1 w.fits

  -- it has bytes left
  within : c.args.to < length c.args.bytes
  within = (let none = w.some in waits_left (length c.args.bytes) 0 (room on_pipe.0) (has_reader k.opened o.pipe) (not o.nonblock) w.from c.args.to (omega (arith, none)) comes_to)

pub park_write-requires-clause-may : goal.park_write-requires-clause-may
park_write-requires-clause-may g c =
    let v = (goal.at.park_write-requires-clause-may g c).After-kernel in
    (within g v, (fits g v).4)

pub park_write-requires-clause-room : goal.park_write-requires-clause-room
park_write-requires-clause-room g c =
    let v = (goal.at.park_write-requires-clause-room g c).After-kernel in
    let p = on_pipe g v in
    let f = fits g v in
    let room_for : c.args.to ≤ room p.0 = omega (arith, f.0, f.1, f.3) in
    subst (λ z. IfSome (at z.nodes.pipes c.args.end.pipe) (λ x. c.args.to ≤ room x)) c.kernel.view_is (subst (λ o. IfSome o (λ x. c.args.to ≤ room x)) (sym p.1) room_for)

pub returns-clause-wanted : goal.returns-clause-wanted
returns-clause-wanted g c =
    let v = (goal.at.returns-clause-wanted g c).After-kernel in
    let p = on_pipe g v in
    on_err c.park_write.result _ (rw (← c.kernel.view_is) (write-waits-wants (calls_on g v) c.args.fd c.args.bytes (o g v) (w g v).opens (some g v) p.0 p.1 (w g v).from c.args.to (comes_to g v) (w g v).left))

both_ok : {T E : Type 0} {P Q : T → Type 0} {R : Type 0} (r : Result T E) → ((x : T) → P x → R → Q x) → IfOk r P → OnOk r R → IfOk r Q
both_ok (Ok x) f p r = f x p r
both_ok (Err e) f p r = tt

pub returns-clause-done : goal.returns-clause-done
returns-clause-done g c =
    let v = (goal.at.returns-clause-done g c).After-kernel in
    let p = on_pipe g v in
    let k = view_of c.kernel.inside in
    let o = c.args.end in
    let x = Begin c.args.pid (Call.Write c.args.fd c.args.bytes) in
    let to = c.args.to in
    let from = (w g v).from in
    let call = call_on o.key c.args.pid (Call.Write c.args.fd c.args.bytes) to in
    let fits : FitsRoom (Waits from to) (length c.args.bytes) 0 (room p.0) = fits g v in
    let part = from_first c.args.bytes from to (omega (arith, fits.0)) in
    both_ok c.park_write.result (λ number is ok.
    let told_adds = subst (λ z. Adds (with_call c.args.kernel.now (call_on o.key c.args.pid (Call.Write z c.args.bytes) to)) o.pipe (take to c.args.bytes) c.park_write.new.kernel) (to_z-of_z w32 c.args.fd c.ranges.fd) ok in
    let by_view = subst (λ z. Adds (with_call z call) o.pipe (take to c.args.bytes) c.park_write.new.kernel) (sym c.kernel.view_is) told_adds in
    let adds = subst (λ z. Adds (with_call k call) o.pipe z c.park_write.new.kernel) (sym part) by_view in
    let does = write-waits (calls_on g v) c.args.fd c.args.bytes o (w g v).opens (some g v) p.0 p.1 from to (comes_to g v) (w g v).left c.park_write.new.kernel (within g v, fits.4) adds in
    let told : number ≡ k.calls.next = is ∙ ap (λ z. z.calls.next) (sym c.kernel.view_is) in
    subst (λ z. MakesAtKeys z x (Parked number) c.park_write.new.kernel) c.kernel.view_is (subst (λ z. MakesAtKeys k x (Parked z) c.park_write.new.kernel) (sym told) does))
    c.park_write.ensures.number c.park_write.ensures.ok
