use Rattle.std.proofs.Common.{◌≡◌, [], refl, sym, subst, ◌∙◌, take, IfSome, IsSome}
use Rattle.pl_model.specs.Packets.{front, spent, lose}
use Rattle.pl_model.specs.declared.node.Node.TheVariants as node
use Rattle.pl_model.specs.declared.calls.Step.TheVariants.{Resume}
use Rattle.pl_model.specs.declared.replies.Reply.TheVariants.{Bytes}
use Rattle.pl_model.specs.Settle.{settle}
use Rattle.pl_model.specs.Step.{without_call}
use Rattle.pl_model.specs.Transfer.{read_case}
use Rattle.pl_state.specs.KernelView.{view_of}
use Rattle.pl_state.specs.Opens.{OpenOn}
use Rattle.pl_desc.specs.Rows.{at}
use Rattle.pl_state.specs.Contents.{Contents, core_of, nodes_of}
use Rattle.pl_state.specs.LastHold.{has_writer}
use Rattle.pl_state.specs.Makes.{MakesAtKeys}
use Rattle.pl_state.specs.Parking.{ReadWaits}
use Rattle.pl_state.specs.Sound.{IsSound, MayWait, IsWaiting, IsPipe, MayKeepFile, KeepsNodes}
use Rattle.pl_nodes.proofs.Keyed.{on_err}
use Rattle.pl_state.proofs.by_call.Begun.{pipe_there}
use Rattle.pl_state.proofs.holders.OnNodes.{is-pipe, kept-one}
use Rattle.pl_state.proofs.waiting.Ending.{kept_there}
use Rattle.pl_state.proofs.by_call.Moving.{changed_sound}
use Rattle.pl_transfers.proofs.by_call.Resuming.{resume-read-gives, resume-read-wants, resume-read-end, resume-read-waits}
use Rattle.pl_state.proofs.Known.{parts_of, known, CallOnPipe, moved_view}
use Rattle.pl_transfers.proofs.waiting.resume_read.Given.{Over}
use Rattle.pl_transfers.proofs.waiting.resume_read.Goals.{After-kernel, After-pipe_of-pipe, After-case_of_read}
use Rattle.pl_transfers.proofs.waiting.resume_read.Goals as goal

-- the read that waits
waits : (g : Over) (c : After-kernel g) → ReadWaits (view_of c.kernel.inside) c.args.number c.args.key c.args.n
waits g c = subst (λ z. ReadWaits z c.args.number c.args.key c.args.n) (sym c.kernel.view_is) c.requires

-- the pipe that it waits on
module _ (g : Over) (c : After-pipe_of-pipe g) where
  abbrev read : ReadWaits (view_of c.kernel.inside) c.args.number c.args.key c.args.n
  read = waits g c.before

  on : OpenOn (view_of c.kernel.inside) c.args.key (node.Pipe c.pipe_of-pipe.result)
  on = subst (λ z. OpenOn z c.args.key (node.Pipe c.pipe_of-pipe.result)) (sym c.kernel.view_is) c.pipe_of-pipe.ensures

  abbrev on_pipe : CallOnPipe (view_of c.kernel.inside)
  on_pipe =
      let p = pipe_there (view_of c.kernel.inside) c.kernel.invariant.0.whole c.args.key c.pipe_of-pipe.result on in
      record { sound = c.kernel.invariant.0; number = c.args.number; call = read.call; here = read.here; key = c.args.key; kept = read.kept; pipe = c.pipe_of-pipe.result; on = on; held = p.0; there = p.1 }

-- what the read comes to
module _ (g : Over) (c : After-case_of_read g) where
  abbrev k : Contents g.row.A.Denot
  k = view_of c.kernel.inside

  abbrev o : CallOnPipe k
  o = on_pipe g c.before

  abbrev w : ReadWaits k c.args.number c.args.key c.args.n
  w = read g c.before

  comes_to : read_case c.args.n (front o.held) (has_writer k.opened o.pipe) ≡ c.case_of_read.result
  comes_to =
      let told = subst (λ z. IfSome (at z.nodes.pipes o.pipe) (λ x. c.case_of_read.result ≡ read_case c.args.n (front x) (has_writer z.opened o.pipe))) (sym c.kernel.view_is) c.case_of_read.ensures.case in
      sym (subst (λ z. IfSome z (λ x. c.case_of_read.result ≡ read_case c.args.n (front x) (has_writer k.opened o.pipe))) o.there told)

pub pipe_of-pipe-requires-clause-here : goal.pipe_of-pipe-requires-clause-here
pipe_of-pipe-requires-clause-here g c =
    let w = waits g c in
    subst (λ z. IsSome (at z.opened c.args.key)) c.kernel.view_is (kept_there (parts_of (known c.kernel.inside c.kernel.invariant)) c.args.number w.call w.here c.args.key w.kept)

pub pipe_of-pipe-requires-clause-pipe : goal.pipe_of-pipe-requires-clause-pipe
pipe_of-pipe-requires-clause-pipe g c =
    let w = waits g c in
    let keeps : KeepsNodes (at c.kernel.inside.descs.opened) w.call = subst (λ o. IfSome o (KeepsNodes (at c.kernel.inside.descs.opened))) w.here (c.kernel.invariant.0.on_nodes c.args.number) in
    let on = kept-one (at c.kernel.inside.descs.opened) w.call c.args.key w.kept keeps in
    subst (λ z. IfSome (at z.opened c.args.key) (λ o. IsPipe o.node)) c.kernel.view_is (is-pipe w.call (subst (λ z. MayKeepFile z) w.asked) (at c.kernel.inside.descs.opened c.args.key) on)

pub returns-in_err-bytes-in-Gives-clause-wanted : goal.returns-in_err-bytes-in-Gives-clause-wanted
returns-in_err-bytes-in-Gives-clause-wanted g c =
    let v = (goal.at.returns-in_err-bytes-in-Gives-clause-wanted g c).After-case_of_read in
    on_err c.from_residual.result _ (rw (← c.kernel.view_is) (resume-read-wants (k g v) (o g v) (w g v).fd c.args.n (w g v).asked c.in-Gives.count (comes_to g v ∙ c.in-Gives.is)))

pub invariant_of-kernel-in-Gives : goal.invariant_of-kernel-in-Gives
invariant_of-kernel-in-Gives g c =
    let o = o g (goal.at.invariant_of-kernel-in-Gives g c).After-case_of_read in
    (subst (IsSound g.row.A.Denot) (moved_view c.kernel.inside c.read_pipe.new.self c.in_ok-bytes-in-Gives.ensures.files) (changed_sound (view_of c.kernel.inside) o.sound o.key o.pipe o.on o.held o.there (nodes_of c.read_pipe.new.self) (λ x. lose (spent x c.in-Gives.count) x) refl c.in_ok-bytes-in-Gives.ensures.ok), c.kernel.invariant.1)

pub returns-in_ok-bytes-in-Gives-clause-done : goal.returns-in_ok-bytes-in-Gives-clause-done
returns-in_ok-bytes-in-Gives-clause-done g c =
    let v = (goal.at.returns-in_ok-bytes-in-Gives-clause-done g c).After-case_of_read in
    let given : c.unwrap.result ≡ c.in_ok-bytes-in-Gives.bytes.items = subst (λ o. IfSome o (λ made. made ≡ c.in_ok-bytes-in-Gives.bytes.items)) c.unwrap.ensures c.from_vec.ensures.list in
    let taken : c.in_ok-bytes-in-Gives.bytes.items ≡ take c.in-Gives.count (o g v).held.bytes = subst (λ o. IfSome o (λ x. c.in_ok-bytes-in-Gives.bytes.items ≡ take c.in-Gives.count x.bytes)) (o g v).there c.in_ok-bytes-in-Gives.ensures.bytes in
    subst (λ z. MakesAtKeys z (Resume c.args.number) (Bytes c.unwrap.result) c.end_call.new.kernel) c.kernel.view_is
    (resume-read-gives (k g v) (o g v) (w g v).fd c.args.n (w g v).asked c.in-Gives.count (comes_to g v ∙ c.in-Gives.is) c.unwrap.result (given ∙ taken) (nodes_of c.read_pipe.new.self) c.in_ok-bytes-in-Gives.ensures.ok c.end_call.new.kernel
    (subst (λ z. core_of c.end_call.new.kernel ≡ settle (core_of z) (without_call (core_of z) c.args.number)) (sym (moved_view c.kernel.inside c.read_pipe.new.self c.in_ok-bytes-in-Gives.ensures.files)) c.end_call.ensures.settled))

pub returns-in-EndOfFile-clause-done : goal.returns-in-EndOfFile-clause-done
returns-in-EndOfFile-clause-done g c =
    let v = (goal.at.returns-in-EndOfFile-clause-done g c).After-case_of_read in
    let new = c.end_call-in-EndOfFile.new.kernel in
    let ended = subst (λ z. core_of new ≡ settle (core_of z) (without_call (core_of z) c.args.number)) (sym c.kernel.view_is) c.end_call-in-EndOfFile.ensures.settled in
    rw (c.no_bytes.ensures) (subst (λ z. MakesAtKeys z (Resume c.args.number) (Bytes []) new) c.kernel.view_is (resume-read-end (k g v) (o g v) (w g v).fd c.args.n (w g v).asked new (comes_to g v ∙ c.in-EndOfFile.is) ended))

pub returns-in-Waits-clause-done : goal.returns-in-Waits-clause-done
returns-in-Waits-clause-done g c =
    let A = g.row.A.Denot in
    let v = (goal.at.returns-in-Waits-clause-done g c).After-case_of_read in
    let waiting : IsWaiting A (w g v).call = subst (λ o. IfSome o (IsWaiting A)) (w g v).here (c.kernel.invariant.0.waiting c.args.number) in
    let none : (w g v).call.taken ≡ 0 = subst (λ z. MayWait z (w g v).call.taken) (w g v).asked waiting.may in
    rw (← c.kernel.view_is) (resume-read-waits (k g v) (o g v) (w g v).fd c.args.n (w g v).asked (comes_to g v ∙ c.in-Waits.is) none)
