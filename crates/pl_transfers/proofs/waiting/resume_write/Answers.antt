use Rattle.std.proofs.Common.{◌≡◌, ◌≤◌, ◌<◌, true, false, refl, sym, ap, subst, ◌∙◌, nat_eq, length, ℕ, List, Option, Some, IfSome, IsSome, Bor, arith}
use Rattle.std.specs.Prelude.{slice_range, option_map}
use Rattle.pl_model.specs.Packets.{gain}
use Rattle.pl_model.specs.declared.node.Node.TheVariants as node
use Rattle.pl_model.specs.declared.cases.WriteCase.TheVariants.{Ends, Waits}
use Rattle.pl_model.specs.declared.calls.Step.TheVariants.{Resume}
use Rattle.pl_model.specs.declared.replies.Reply.TheVariants.{Count, Fault, Parked}
use Rattle.pl_model.specs.declared.replies.Errno.TheVariants.{EPIPE}
use Rattle.pl_model.specs.Map.{get, put}
use Rattle.pl_model.specs.Settle.{settle}
use Rattle.pl_model.specs.Step.{without_call}
use Rattle.pl_model.specs.Transfer.{room, write_case}
use Rattle.pl_parked.specs.Calls.{Calls}
use Rattle.pl_parked.specs.declared.call.ParkedCall.{ParkedCall}
use Rattle.pl_decisions.specs.Decided.{FitsRoom}
use Rattle.pl_state.specs.KernelView.{view_of}
use Rattle.pl_state.specs.Opens.{OpenOn}
use Rattle.pl_desc.specs.Rows.{at}
use Rattle.pl_state.specs.Contents.{Contents, core_of, with_pipes, nodes_of}
use Rattle.pl_state.specs.LastHold.{has_reader}
use Rattle.pl_state.specs.Makes.{MakesAtKeys}
use Rattle.pl_state.specs.Parking.{WriteWaits, written}
use Rattle.pl_state.specs.Sound.{IsSound, IsWaiting, AreCounted, MayWait, IsPipe, MayKeepFile, KeepsNodes}
use Rattle.pl_model.specs.Numbers.{pipe_buf}
use Rattle.pl_nodes.proofs.Keyed.{on_err}
use Rattle.pl_state.proofs.by_call.Begun.{pipe_there}
use Rattle.pl_state.proofs.waiting.Calls.{lent_is}
use Rattle.pl_transfers.proofs.by_call.Again.{again_sound, again_held}
use Rattle.pl_state.proofs.holders.OnNodes.{is-pipe, kept-one}
use Rattle.pl_state.proofs.waiting.Ending.{kept_there}
use Rattle.pl_state.proofs.by_call.Moving.{changed_sound}
use Rattle.pl_transfers.proofs.by_call.BytesLeft.{waits_left}
use Rattle.pl_transfers.proofs.by_call.Resuming.{resume-write-broken, resume-write-cut, resume-write-ends, resume-write-waits, resume-write-ends-wants, resume-write-waits-wants}
use Rattle.pl_state.proofs.Known.{parts_of, known, CallOnPipe, moved_view}
use Rattle.pl_transfers.proofs.waiting.resume_write.Given.{Over}
use Rattle.pl_transfers.proofs.waiting.resume_write.Goals.{After-kernel, After-pipe_of-pipe, After-case_of_write, After-bytes_of, After-bytes_of-in-Waits, After-set_taken}
use Rattle.pl_transfers.proofs.waiting.resume_write.Goals as goal

-- the write that waits
waits : (g : Over) (c : After-kernel g) → WriteWaits (view_of c.kernel.inside) c.args.number c.args.key c.args.length c.args.taken
waits g c = subst (λ z. WriteWaits z c.args.number c.args.key c.args.length c.args.taken) (sym c.kernel.view_is) c.requires

-- the pipe that it waits on
module _ (g : Over) (c : After-pipe_of-pipe g) where
  abbrev write : WriteWaits (view_of c.kernel.inside) c.args.number c.args.key c.args.length c.args.taken
  write = waits g c.before

  on : OpenOn (view_of c.kernel.inside) c.args.key (node.Pipe c.pipe_of-pipe.result)
  on = subst (λ z. OpenOn z c.args.key (node.Pipe c.pipe_of-pipe.result)) (sym c.kernel.view_is) c.pipe_of-pipe.ensures

  abbrev on_pipe : CallOnPipe (view_of c.kernel.inside)
  on_pipe =
      let p = pipe_there (view_of c.kernel.inside) c.kernel.invariant.0.whole c.args.key c.pipe_of-pipe.result on in
      record { sound = c.kernel.invariant.0; number = c.args.number; call = write.call; here = write.here; key = c.args.key; kept = write.kept; pipe = c.pipe_of-pipe.result; on = on; held = p.0; there = p.1 }

  -- the bytes of the call that was found
  bytes_are : (found : Option (Bor (ParkedCall g.row.A.Denot))) (call : Bor (ParkedCall g.row.A.Denot)) (bytes : List ℕ) → option_map (λ (b : Bor (ParkedCall g.row.A.Denot)). b.now) found ≡ get nat_eq (view_of c.kernel.inside).calls.calls c.args.number
      → found ≡ Some call → bytes ≡ written call.now.call → bytes ≡ written write.call.call
  bytes_are found call bytes got is are = are ∙ ap (λ z. written z.call) (lent_is (λ (b : Bor (ParkedCall g.row.A.Denot)). b.now) found call write.call (got ∙ write.here) is)

-- what the write comes to
module _ (g : Over) (c : After-case_of_write g) where
  abbrev k : Contents g.row.A.Denot
  k = view_of c.kernel.inside

  abbrev o : CallOnPipe k
  o = on_pipe g c.before

  abbrev w : WriteWaits k c.args.number c.args.key c.args.length c.args.taken
  w = write g c.before

  comes_to : write_case (length (written w.call.call)) w.call.taken (room o.held) (has_reader k.opened o.pipe) true ≡ c.case_of_write.result
  comes_to =
      let told = subst (λ z. IfSome (at z.nodes.pipes o.pipe) (λ x. c.case_of_write.result ≡ write_case c.args.length c.args.taken (room x) (has_reader z.opened o.pipe) true)) (sym c.kernel.view_is) c.case_of_write.ensures.case in
      (λ i. write_case (sym w.whole i) (w.taken_so_far i) (room o.held) (has_reader k.opened o.pipe) true)
      ∙ sym (subst (λ z. IfSome z (λ x. c.case_of_write.result ≡ write_case c.args.length c.args.taken (room x) (has_reader k.opened o.pipe) true)) o.there told)

  fits : FitsRoom c.case_of_write.result c.args.length c.args.taken (room o.held)
  fits = subst (λ z. IfSome z (λ x. FitsRoom c.case_of_write.result c.args.length c.args.taken (room x))) o.there
      (subst (λ z. IfSome (at z.nodes.pipes o.pipe) (λ x. FitsRoom c.case_of_write.result c.args.length c.args.taken (room x))) (sym c.kernel.view_is) c.case_of_write.ensures.fits)

  -- it may wait on
  may : (from to : ℕ) → c.case_of_write.result ≡ Waits from to → MayWait w.call.call to
  may from to is =
      let room_for : FitsRoom (Waits from to) c.args.length c.args.taken (room o.held) = subst (λ r. FitsRoom r c.args.length c.args.taken (room o.held)) is fits in
      let waiting : IsWaiting g.row.A.Denot w.call = subst (λ o. IfSome o (IsWaiting g.row.A.Denot)) w.here (c.kernel.invariant.0.waiting c.args.number) in
      let before = subst (λ z. MayWait z w.call.taken) w.asked waiting.may in
      let small : length (written w.call.call) ≤ pipe_buf → to ≡ 0 = (λ s. room_for.4 (subst (λ n. n ≤ pipe_buf) (sym w.whole) s) ∙ (sym w.taken_so_far ∙ before.1 s)) in
      let within : to < length (written w.call.call) = waits_left (length (written w.call.call)) w.call.taken (room o.held) (has_reader k.opened o.pipe) true from to before.0 (comes_to ∙ is) in
      subst (λ z. MayWait z to) (sym w.asked) (within, small)

-- the calls, with more bytes taken
taken_in : (g : Over) (c : After-set_taken g) → let k = view_of c.kernel.inside in (call : ParkedCall g.row.A.Denot) → get nat_eq k.calls.calls c.args.number ≡ Some call → c.set_taken.new.self ≡ record k.calls { calls = put nat_eq k.calls.calls c.args.number (record call { taken = c.in-Waits.to }) }
taken_in g c call here = subst (λ o. IfSome o (λ call. c.set_taken.new.self ≡ record c.kernel.inside.parked { calls = put nat_eq c.kernel.inside.parked.calls c.args.number (record call { taken = c.in-Waits.to }) })) here c.set_taken.ensures

pub pipe_of-pipe-requires-clause-here : goal.pipe_of-pipe-requires-clause-here
pipe_of-pipe-requires-clause-here g c =
    let w = waits g c in
    subst (λ z. IsSome (at z.opened c.args.key)) c.kernel.view_is (kept_there (parts_of (known c.kernel.inside c.kernel.invariant)) c.args.number w.call w.here c.args.key w.kept)

pub pipe_of-pipe-requires-clause-pipe : goal.pipe_of-pipe-requires-clause-pipe
pipe_of-pipe-requires-clause-pipe g c =
    let w = waits g c in
    let keeps : KeepsNodes (at c.kernel.inside.descs.opened) w.call = subst (λ o. IfSome o (KeepsNodes (at c.kernel.inside.descs.opened))) w.here (c.kernel.invariant.0.on_nodes c.args.number) in
    let on = kept-one (at c.kernel.inside.descs.opened) w.call c.args.key w.kept keeps in
    subst (λ z. IfSome (at z.opened c.args.key) (λ o. IsPipe o.node)) c.kernel.view_is (is-pipe w.call (subst (λ z. MayKeepFile z) w.asked) (at c.kernel.inside.descs.opened c.args.key) on)

pub returns-in_err-write_pipe-in-Ends-clause-wanted : goal.returns-in_err-write_pipe-in-Ends-clause-wanted
returns-in_err-write_pipe-in-Ends-clause-wanted g c =
    let v = (goal.at.returns-in_err-write_pipe-in-Ends-clause-wanted g c).After-case_of_write in
    on_err c.from_residual.result _ (rw (← c.kernel.view_is) (resume-write-ends-wants (k g v) (o g v) (w g v).fd (written (w g v).call.call) (w g v).asked c.in-Ends.from c.in-Ends.to (comes_to g v ∙ c.in-Ends.is)))

pub invariant_of-kernel-in-Ends : goal.invariant_of-kernel-in-Ends
invariant_of-kernel-in-Ends g c =
    let o = o g (goal.at.invariant_of-kernel-in-Ends g c).After-case_of_write in
    (subst (IsSound g.row.A.Denot) (moved_view c.kernel.inside c.write_pipe.new.self c.in_ok-write_pipe-in-Ends.ensures.files) (changed_sound (view_of c.kernel.inside) o.sound o.key o.pipe o.on o.held o.there (nodes_of c.write_pipe.new.self) (gain (slice_range c.bytes_of.result.now c.in-Ends.from c.in-Ends.to)) refl c.in_ok-write_pipe-in-Ends.ensures.ok), c.kernel.invariant.1)

pub overflow_cast-result : goal.overflow_cast-result
overflow_cast-result g c =
    let v = (goal.at.overflow_cast-result g c).After-case_of_write in
    let room_for : FitsRoom (Ends c.in-Ends.from c.in-Ends.to) c.args.length c.args.taken (room (o g v).held) = subst (λ r. FitsRoom r c.args.length c.args.taken (room (o g v).held)) c.in-Ends.is (fits g v) in
    let bytes = bytes_are g v.before c.get.result c.unwrap-call.result c.bytes_of.result.now c.get.ensures c.unwrap-call.ensures c.bytes_of.ensures.value in
    omega (arith, room_for.2, c.bytes_of.ensures.few, ap length bytes, (w g v).whole)

pub returns-in_err-write_pipe-in-Waits-clause-wanted : goal.returns-in_err-write_pipe-in-Waits-clause-wanted
returns-in_err-write_pipe-in-Waits-clause-wanted g c =
    let v = (goal.at.returns-in_err-write_pipe-in-Waits-clause-wanted g c).After-case_of_write in
    on_err c.from_residual-in_err-write_pipe-in-Waits.result _ (rw (← c.kernel.view_is) (resume-write-waits-wants (k g v) (o g v) (w g v).fd (written (w g v).call.call) (w g v).asked c.in-Waits.from c.in-Waits.to (comes_to g v ∙ c.in-Waits.is)))

pub overflow_cast-to : goal.overflow_cast-to
overflow_cast-to g c =
    let v = (goal.at.overflow_cast-to g c).After-case_of_write in
    let room_for : FitsRoom (Waits c.in-Waits.from c.in-Waits.to) c.args.length c.args.taken (room (o g v).held) = subst (λ r. FitsRoom r c.args.length c.args.taken (room (o g v).held)) c.in-Waits.is (fits g v) in
    let bytes = bytes_are g v.before c.get-in-Waits.result c.unwrap-call-in-Waits.result c.bytes_of-in-Waits.result.now c.get-in-Waits.ensures c.unwrap-call-in-Waits.ensures c.bytes_of-in-Waits.ensures.value in
    omega (arith, room_for.2, c.bytes_of-in-Waits.ensures.few, ap length bytes, (w g v).whole)

pub invariant_of-kernel-in-Waits : goal.invariant_of-kernel-in-Waits
invariant_of-kernel-in-Waits g c =
    let A = g.row.A.Denot in
    let v = (goal.at.invariant_of-kernel-in-Waits g c).After-case_of_write in
    let k = view_of c.kernel.inside in
    let pipes = nodes_of c.write_pipe-in-Waits.new.self in
    let part = slice_range c.bytes_of-in-Waits.result.now c.in-Waits.from c.in-Waits.to in
    let may_on = may g v c.in-Waits.from c.in-Waits.to c.in-Waits.is in
    let moved = ap (λ (z : Contents A). record z { calls = c.set_taken.new.self }) (moved_view c.kernel.inside c.write_pipe-in-Waits.new.self c.in_ok-write_pipe-in-Waits.ensures.files) in
    let calls = taken_in g (goal.at.invariant_of-kernel-in-Waits g c).After-set_taken (w g v).call (w g v).here in (
      subst (IsSound A) (sym (ap (λ z. record (with_pipes k pipes) { calls = z }) calls) ∙ moved) (again_sound k (o g v) c.in-Waits.to may_on part pipes c.in_ok-write_pipe-in-Waits.ensures.ok),
      subst (λ (z : Calls A). AreCounted A c.kernel.inside.limits c.kernel.inside.descs z.calls) (sym calls) (again_held k (o g v) c.in-Waits.to may_on part pipes c.in_ok-write_pipe-in-Waits.ensures.ok c.kernel.inside.descs c.kernel.invariant.1),
    )

pub returns-in-Broken-clause-done : goal.returns-in-Broken-clause-done
returns-in-Broken-clause-done g c =
    let v = (goal.at.returns-in-Broken-clause-done g c).After-case_of_write in
    let new = c.end_call.new.kernel in
    let ended = subst (λ z. core_of new ≡ settle (core_of z) (without_call (core_of z) c.args.number)) (sym c.kernel.view_is) c.end_call.ensures.settled in
    subst (λ z. MakesAtKeys z (Resume c.args.number) (Fault EPIPE) new) c.kernel.view_is (resume-write-broken (k g v) (o g v) (w g v).fd (written (w g v).call.call) (w g v).asked new (comes_to g v ∙ c.in-Broken.is) ended)

pub returns-in-CutShort-clause-done : goal.returns-in-CutShort-clause-done
returns-in-CutShort-clause-done g c =
    let v = (goal.at.returns-in-CutShort-clause-done g c).After-case_of_write in
    let new = c.end_call-in-CutShort.new.kernel in
    let ended = subst (λ z. core_of new ≡ settle (core_of z) (without_call (core_of z) c.args.number)) (sym c.kernel.view_is) c.end_call-in-CutShort.ensures.settled in
    subst (λ z. MakesAtKeys z (Resume c.args.number) (Count c.args.taken true) new) c.kernel.view_is
    (subst (λ n. MakesAtKeys (k g v) (Resume c.args.number) (Count n true) new) (w g v).taken_so_far (resume-write-cut (k g v) (o g v) (w g v).fd (written (w g v).call.call) (w g v).asked new (comes_to g v ∙ c.in-CutShort.is) ended))

pub returns-in_ok-write_pipe-in-Ends-clause-done : goal.returns-in_ok-write_pipe-in-Ends-clause-done
returns-in_ok-write_pipe-in-Ends-clause-done g c =
    let v = (goal.at.returns-in_ok-write_pipe-in-Ends-clause-done g c).After-case_of_write in
    let new = c.end_call-in-Ends.new.kernel in
    let part = slice_range c.bytes_of.result.now c.in-Ends.from c.in-Ends.to in
    let bytes = bytes_are g v.before c.get.result c.unwrap-call.result c.bytes_of.result.now c.get.ensures c.unwrap-call.ensures c.bytes_of.ensures.value in
    let is_part = ap (λ z. slice_range z c.in-Ends.from c.in-Ends.to) bytes in
    subst (λ z. MakesAtKeys z (Resume c.args.number) (Count c.in-Ends.to false) new) c.kernel.view_is
    (resume-write-ends (k g v) (o g v) (w g v).fd (written (w g v).call.call) (w g v).asked c.in-Ends.from c.in-Ends.to part is_part (nodes_of c.write_pipe.new.self) c.in_ok-write_pipe-in-Ends.ensures.ok (comes_to g v ∙ c.in-Ends.is) new
    (subst (λ z. core_of new ≡ settle (core_of z) (without_call (core_of z) c.args.number)) (sym (moved_view c.kernel.inside c.write_pipe.new.self c.in_ok-write_pipe-in-Ends.ensures.files)) c.end_call-in-Ends.ensures.settled))

pub returns-in_ok-write_pipe-in-Waits-clause-done : goal.returns-in_ok-write_pipe-in-Waits-clause-done
returns-in_ok-write_pipe-in-Waits-clause-done g c =
    let v = (goal.at.returns-in_ok-write_pipe-in-Waits-clause-done g c).After-case_of_write in
    let k = view_of c.kernel.inside in
    let pipes = nodes_of c.write_pipe-in-Waits.new.self in
    let part = slice_range c.bytes_of-in-Waits.result.now c.in-Waits.from c.in-Waits.to in
    let bytes = bytes_are g v.before c.get-in-Waits.result c.unwrap-call-in-Waits.result c.bytes_of-in-Waits.result.now c.get-in-Waits.ensures c.unwrap-call-in-Waits.ensures c.bytes_of-in-Waits.ensures.value in
    let is_part = ap (λ z. slice_range z c.in-Waits.from c.in-Waits.to) bytes in
    let may_on = may g v c.in-Waits.from c.in-Waits.to c.in-Waits.is in
    let moved = ap (λ (z : Contents g.row.A.Denot). record z { calls = c.set_taken.new.self }) (moved_view c.kernel.inside c.write_pipe-in-Waits.new.self c.in_ok-write_pipe-in-Waits.ensures.files) in
    let calls = taken_in g (goal.at.returns-in_ok-write_pipe-in-Waits-clause-done g c).After-set_taken (w g v).call (w g v).here in
    rw (← c.kernel.view_is) (subst (λ z. MakesAtKeys k (Resume c.args.number) (Parked c.args.number) z) (sym (ap (λ z. record (with_pipes k pipes) { calls = z }) calls) ∙ moved)
    (resume-write-waits k (o g v) (w g v).fd (written (w g v).call.call) (w g v).asked c.in-Waits.from c.in-Waits.to part is_part pipes c.in_ok-write_pipe-in-Waits.ensures.ok (comes_to g v ∙ c.in-Waits.is) may_on))
