use Rattle.std.proofs.Common.{◌≡◌, true, sym, subst, ◌∙◌, length, IfSome, IsSome}
use Rattle.pl_model.specs.declared.node.Node.TheVariants as node
use Rattle.pl_model.specs.Transfer.{room, write_case}
use Rattle.pl_model.specs.Waking.{can_progress}
use Rattle.pl_desc.specs.Rows.{at}
use Rattle.pl_state.specs.KernelView.{view_of}
use Rattle.pl_state.specs.Opens.{OpenOn}
use Rattle.pl_state.specs.Contents.{Contents, core_of}
use Rattle.pl_state.specs.LastHold.{has_reader}
use Rattle.pl_state.specs.Parking.{WriteWaits, written}
use Rattle.pl_state.proofs.by_call.Begun.{pipe_there}
use Rattle.pl_state.proofs.waiting.Ending.{kept_there}
use Rattle.pl_state.proofs.Known.{parts_of, known, CallOnPipe}
use Rattle.pl_transfers.proofs.by_call.Progress.{write_gets_on, write-progress}
use Rattle.pl_transfers.proofs.progress.write_can_progress.Given.{Over}
use Rattle.pl_transfers.proofs.progress.write_can_progress.Goals.{After-kernel, After-case_of_write}
use Rattle.pl_transfers.proofs.progress.write_can_progress.Goals as goal

-- the write that waits
waits : (g : Over) (c : After-kernel g) → WriteWaits (view_of c.kernel.inside) c.args.number c.args.key c.args.length c.args.taken
waits g c = subst (λ z. WriteWaits z c.args.number c.args.key c.args.length c.args.taken) (sym c.kernel.view_is) c.requires

-- the pipe that it waits on, and what it comes to there
module _ (g : Over) (c : After-case_of_write g) where
  abbrev k : Contents g.row.A.Denot
  k = view_of c.kernel.inside

  write : WriteWaits k c.args.number c.args.key c.args.length c.args.taken
  write = waits g c.before.before

  on : OpenOn k c.args.key (node.Pipe c.pipe_of-pipe.result)
  on = subst (λ z. OpenOn z c.args.key (node.Pipe c.pipe_of-pipe.result)) (sym c.kernel.view_is) c.pipe_of-pipe.ensures

  abbrev o : CallOnPipe k
  o =
      let p = pipe_there k c.kernel.invariant.0.whole c.args.key c.pipe_of-pipe.result on in
      record { sound = c.kernel.invariant.0; number = c.args.number; call = write.call; here = write.here; key = c.args.key; kept = write.kept; pipe = c.pipe_of-pipe.result; on = on; held = p.0; there = p.1 }

  comes_to : write_case (length (written write.call.call)) write.call.taken (room o.held) (has_reader k.opened o.pipe) true ≡ c.case_of_write.result
  comes_to =
      let told = subst (λ z. IfSome (at z.nodes.pipes o.pipe) (λ x. c.case_of_write.result ≡ write_case c.args.length c.args.taken (room x) (has_reader z.opened o.pipe) true)) (sym c.kernel.view_is) c.case_of_write.ensures.case in
      (λ i. write_case (sym write.whole i) (write.taken_so_far i) (room o.held) (has_reader k.opened o.pipe) true)
      ∙ sym (subst (λ z. IfSome z (λ x. c.case_of_write.result ≡ write_case c.args.length c.args.taken (room x) (has_reader k.opened o.pipe) true)) o.there told)

  gets_on : write_gets_on c.args.taken c.case_of_write.result ≡ can_progress (core_of c.args.kernel.now) c.args.number
  gets_on =
      subst (λ z. write_gets_on c.args.taken c.case_of_write.result ≡ can_progress (core_of z) c.args.number) c.kernel.view_is
      (subst (λ t. write_gets_on t c.case_of_write.result ≡ can_progress (core_of k) c.args.number) write.taken_so_far
      (sym (write-progress k o write.fd (written write.call.call) write.asked c.case_of_write.result comes_to)))

pub pipe_of-pipe-requires-clause-here : goal.pipe_of-pipe-requires-clause-here
pipe_of-pipe-requires-clause-here g c =
    let w = waits g c in
    subst (λ z. IsSome (at z.opened c.args.key)) c.kernel.view_is (kept_there (parts_of (known c.kernel.inside c.kernel.invariant)) c.args.number w.call w.here c.args.key w.kept)

pub returns-in-Broken : goal.returns-in-Broken
returns-in-Broken g c = subst (λ z. write_gets_on c.args.taken z ≡ can_progress (core_of c.args.kernel.now) c.args.number) c.in-Broken.is (gets_on g (goal.at.returns-in-Broken g c).After-case_of_write)

pub returns-in-CutShort : goal.returns-in-CutShort
returns-in-CutShort g c = subst (λ z. write_gets_on c.args.taken z ≡ can_progress (core_of c.args.kernel.now) c.args.number) c.in-CutShort.is (gets_on g (goal.at.returns-in-CutShort g c).After-case_of_write)

pub returns-in-Ends : goal.returns-in-Ends
returns-in-Ends g c = subst (λ z. write_gets_on c.args.taken z ≡ can_progress (core_of c.args.kernel.now) c.args.number) c.in-Ends.is (gets_on g (goal.at.returns-in-Ends g c).After-case_of_write)

pub returns-in-Waits : goal.returns-in-Waits
returns-in-Waits g c = subst (λ z. write_gets_on c.args.taken z ≡ can_progress (core_of c.args.kernel.now) c.args.number) c.in-Waits.is (gets_on g (goal.at.returns-in-Waits g c).After-case_of_write)
