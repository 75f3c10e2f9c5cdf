use Rattle.std.proofs.Common.{◌≡◌, sym, subst, IfSome, IsSome}
use Rattle.pl_model.specs.Packets.{front}
use Rattle.pl_model.specs.declared.node.Node.TheVariants as node
use Rattle.pl_model.specs.Transfer.{read_case}
use Rattle.pl_model.specs.Waking.{can_progress}
use Rattle.pl_desc.specs.Rows.{at}
use Rattle.pl_state.specs.KernelView.{view_of}
use Rattle.pl_state.specs.Opens.{OpenOn}
use Rattle.pl_state.specs.Contents.{Contents, core_of}
use Rattle.pl_state.specs.LastHold.{has_writer}
use Rattle.pl_state.specs.Parking.{ReadWaits}
use Rattle.pl_state.specs.Sound.{IsWaiting, MayWait}
use Rattle.pl_state.proofs.by_call.Begun.{pipe_there}
use Rattle.pl_state.proofs.waiting.Ending.{kept_there}
use Rattle.pl_state.proofs.Known.{parts_of, known, CallOnPipe}
use Rattle.pl_transfers.proofs.by_call.Progress.{read_gets_on, read-progress}
use Rattle.pl_transfers.proofs.progress.read_can_progress.Given.{Over}
use Rattle.pl_transfers.proofs.progress.read_can_progress.Goals.{After-kernel, After-pipe_of-pipe, After-case_of_read}
use Rattle.pl_transfers.proofs.progress.read_can_progress.Goals as goal

-- the read that waits
waits : (g : Over) (c : After-kernel g) → ReadWaits (view_of c.kernel.inside) c.args.number c.args.key c.args.n
waits g c = subst (λ z. ReadWaits z c.args.number c.args.key c.args.n) (sym c.kernel.view_is) c.requires

-- the pipe that it waits on, and what it comes to there
module _ (g : Over) (c : After-case_of_read g) where
  abbrev k : Contents g.row.A.Denot
  k = view_of c.kernel.inside

  read : ReadWaits k c.args.number c.args.key c.args.n
  read = waits g c.before.before

  on : OpenOn k c.args.key (node.Pipe c.pipe_of-pipe.result)
  on = subst (λ z. OpenOn z c.args.key (node.Pipe c.pipe_of-pipe.result)) (sym c.kernel.view_is) c.pipe_of-pipe.ensures

  abbrev o : CallOnPipe k
  o =
      let p = pipe_there k c.kernel.invariant.0.whole c.args.key c.pipe_of-pipe.result on in
      record { sound = c.kernel.invariant.0; number = c.args.number; call = read.call; here = read.here; key = c.args.key; kept = read.kept; pipe = c.pipe_of-pipe.result; on = on; held = p.0; there = p.1 }

  comes_to : read_case c.args.n (front o.held) (has_writer k.opened o.pipe) ≡ c.case_of_read.result
  comes_to =
      let told = subst (λ z. IfSome (at z.nodes.pipes o.pipe) (λ x. c.case_of_read.result ≡ read_case c.args.n (front x) (has_writer z.opened o.pipe))) (sym c.kernel.view_is) c.case_of_read.ensures.case in
      sym (subst (λ z. IfSome z (λ x. c.case_of_read.result ≡ read_case c.args.n (front x) (has_writer k.opened o.pipe))) o.there told)

  gets_on : read_gets_on c.case_of_read.result ≡ can_progress (core_of c.args.kernel.now) c.args.number
  gets_on =
      let waiting : IsWaiting g.row.A.Denot read.call = subst (λ o. IfSome o (IsWaiting g.row.A.Denot)) read.here (c.kernel.invariant.0.waiting c.args.number) in
      let none : read.call.taken ≡ 0 = subst (λ z. MayWait z read.call.taken) read.asked waiting.may in
      subst (λ z. read_gets_on c.case_of_read.result ≡ can_progress (core_of z) c.args.number) c.kernel.view_is
      (sym (read-progress k o read.fd c.args.n read.asked none c.case_of_read.result comes_to))

pub pipe_of-pipe-requires-clause-here : goal.pipe_of-pipe-requires-clause-here
pipe_of-pipe-requires-clause-here g c =
    let w = waits g c in
    subst (λ z. IsSome (at z.opened c.args.key)) c.kernel.view_is (kept_there (parts_of (known c.kernel.inside c.kernel.invariant)) c.args.number w.call w.here c.args.key w.kept)

pub returns-in-Gives : goal.returns-in-Gives
returns-in-Gives g c = subst (λ z. read_gets_on z ≡ can_progress (core_of c.args.kernel.now) c.args.number) c.in-Gives.is (gets_on g (goal.at.returns-in-Gives g c).After-case_of_read)

pub returns-in-EndOfFile : goal.returns-in-EndOfFile
returns-in-EndOfFile g c = subst (λ z. read_gets_on z ≡ can_progress (core_of c.args.kernel.now) c.args.number) c.in-EndOfFile.is (gets_on g (goal.at.returns-in-EndOfFile g c).After-case_of_read)

pub returns-in-Waits : goal.returns-in-Waits
returns-in-Waits g c = subst (λ z. read_gets_on z ≡ can_progress (core_of c.args.kernel.now) c.args.number) c.in-Waits.is (gets_on g (goal.at.returns-in-Waits g c).After-case_of_read)
