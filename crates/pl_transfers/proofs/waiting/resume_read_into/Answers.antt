use Rattle.std.proofs.Common.{◌≡◌, ◌≤◌, ℕ, ◌++◌, [], refl, sym, ap, subst, ◌∙◌, take, drop, length, IfSome, IsSome, arith}
use Rattle.std.proofs.lemmas.List.{length-take-le, length-append, length-drop, take_at}
use Rattle.pl_model.specs.Packets.{front, spent, lose}
use Rattle.pl_model.specs.Map.{change_at}
use Rattle.pl_model.specs.declared.node.Node.TheVariants as node
use Rattle.pl_model.specs.declared.calls.Step.TheVariants.{Resume}
use Rattle.pl_model.specs.declared.replies.Reply.TheVariants.{Bytes}
use Rattle.pl_model.specs.Settle.{settle}
use Rattle.pl_model.specs.Step.{without_call}
use Rattle.pl_model.specs.Transfer.{read_case}
use Rattle.pl_model.specs.declared.cases.ReadCase.TheVariants.{Gives}
use Rattle.pl_state.specs.KernelView.{view_of}
use Rattle.pl_state.specs.Opens.{OpenOn}
use Rattle.pl_desc.specs.Rows.{at}
use Rattle.pl_state.specs.Contents.{Contents, core_of, nodes_of}
use Rattle.pl_state.specs.LastHold.{has_writer}
use Rattle.pl_state.specs.Makes.{MakesAtKeys}
use Rattle.pl_state.specs.Parking.{ReadWaits}
use Rattle.pl_state.specs.Sound.{IsSound, MayWait, IsWaiting, IsPipe, MayKeepFile, KeepsNodes}
use Rattle.pl_state.proofs.by_call.Begun.{pipe_there}
use Rattle.pl_state.proofs.holders.OnNodes.{is-pipe, kept-one}
use Rattle.pl_state.proofs.waiting.Ending.{kept_there}
use Rattle.pl_state.proofs.by_call.Moving.{changed_sound}
use Rattle.pl_transfers.specs.Readable.{gives_again}
use Rattle.pl_transfers.proofs.by_call.Giving.{gives-few, gives-held}
use Rattle.pl_transfers.proofs.by_call.Measuring.{readable-front, readable-kept}
use Rattle.pl_transfers.proofs.by_call.Resuming.{resume-read-gives, resume-read-end, resume-read-waits}
use Rattle.pl_state.proofs.Known.{parts_of, known, CallOnPipe, moved_view}
use Rattle.pl_transfers.proofs.waiting.resume_read_into.Given.{Over}
use Rattle.pl_transfers.proofs.waiting.resume_read_into.Goals.{After-kernel, After-case_of_read}
use Rattle.pl_transfers.proofs.waiting.resume_read_into.Goals as goal

-- the read that waits
waits : (g : Over) (c : After-kernel g) → ReadWaits (view_of c.kernel.inside) c.args.number c.args.key c.args.n
waits g c = subst (λ z. ReadWaits z c.args.number c.args.key c.args.n) (sym c.kernel.view_is) c.requires.waits

-- the pipe that it waits on, and what the read comes to
module _ (g : Over) (c : After-case_of_read g) where
  abbrev k : Contents g.row.A.Denot
  k = view_of c.kernel.inside

  w : ReadWaits k c.args.number c.args.key c.args.n
  w = subst (λ z. ReadWaits z c.args.number c.args.key c.args.n) (sym c.kernel.view_is) c.requires.waits

  on : OpenOn k c.args.key (node.Pipe c.pipe_of-pipe.result)
  on = subst (λ z. OpenOn z c.args.key (node.Pipe c.pipe_of-pipe.result)) (sym c.kernel.view_is) c.pipe_of-pipe.ensures

  abbrev o : CallOnPipe k
  o =
      let p = pipe_there k c.kernel.invariant.0.whole c.args.key c.pipe_of-pipe.result on in
      record { sound = c.kernel.invariant.0; number = c.args.number; call = w.call; here = w.here; key = c.args.key; kept = w.kept; pipe = c.pipe_of-pipe.result; on = on; held = p.0; there = p.1 }

  comes_to : read_case c.args.n (front o.held) (has_writer k.opened o.pipe) ≡ c.case_of_read.result
  comes_to =
      let told = subst (λ z. IfSome (at z.nodes.pipes o.pipe) (λ x. c.case_of_read.result ≡ read_case c.args.n (front x) (has_writer z.opened o.pipe))) (sym c.kernel.view_is) c.case_of_read.ensures.case in
      sym (subst (λ z. IfSome z (λ x. c.case_of_read.result ≡ read_case c.args.n (front x) (has_writer k.opened o.pipe))) o.there told)

  -- what it gives fits the caller's bytes
  fits : (m : ℕ) → read_case c.args.n (front o.held) (has_writer k.opened o.pipe) ≡ Gives m → m ≤ length c.args.into.now
  fits m row =
      let held = front o.held in
      let within = subst (λ z. IfSome (at z.nodes.pipes o.pipe) (λ x. front x ≤ length x.bytes)) (sym c.kernel.view_is) c.case_of_read.ensures.within in
      let told =
      readable-front k c.kernel.invariant.0.whole c.args.key on.opened on.here c.pipe_of-pipe.result on.node held
      (subst (λ h. IfSome h (λ x. held ≡ front x)) (sym o.there) refl)
      (subst (λ h. IfSome h (λ x. held ≤ length x.bytes)) (sym o.there) (subst (λ h. IfSome h (λ x. front x ≤ length x.bytes)) o.there within)) in
      let again = readable-kept k c.kernel.invariant.0 c.args.number c.args.key c.args.n w on.opened on.here held told in
      let room : gives_again k c.args.number ≤ length c.args.into.now = subst (λ (z : Contents g.row.A.Denot). gives_again z c.args.number ≤ length c.args.into.now) (sym c.kernel.view_is) c.requires.room in
      let few = gives-few c.args.n held (has_writer k.opened o.pipe) m row in
      let there = gives-held c.args.n held (has_writer k.opened o.pipe) m row in
      omega (arith, again, room, few, there)

pub pipe_of-pipe-requires-clause-here : goal.pipe_of-pipe-requires-clause-here
pipe_of-pipe-requires-clause-here g c =
    let w = waits g c in
    subst (λ z. IsSome (at z.opened c.args.key)) c.kernel.view_is (kept_there (parts_of (known c.kernel.inside c.kernel.invariant)) c.args.number w.call w.here c.args.key w.kept)

pub pipe_of-pipe-requires-clause-pipe : goal.pipe_of-pipe-requires-clause-pipe
pipe_of-pipe-requires-clause-pipe g c =
    let w = waits g c in
    let keeps : KeepsNodes (at c.kernel.inside.descs.opened) w.call = subst (λ o. IfSome o (KeepsNodes (at c.kernel.inside.descs.opened))) w.here (c.kernel.invariant.0.on_nodes c.args.number) in
    let on = kept-one (at c.kernel.inside.descs.opened) w.call c.args.key w.kept keeps in
    subst (λ z. IfSome (at z.opened c.args.key) (λ o. IsPipe o.node)) c.kernel.view_is (is-pipe w.call (subst (λ z. MayKeepFile z) w.asked) (at c.kernel.inside.descs.opened c.args.key) on)

pub invariant_of-kernel : goal.invariant_of-kernel
invariant_of-kernel g c =
    let v = (goal.at.invariant_of-kernel g c).After-case_of_read in
    let o = o g v in
    let m = c.in-Gives.count in
    let size : length (take m c.args.into.now) ≡ m = length-take-le m c.args.into.now (fits g v m (comes_to g v ∙ c.in-Gives.is)) in
    let changed = subst (λ z. at c.read_pipe_into.new.self.pipes ≡ change_at o.pipe (λ x. lose (spent x z) x) (at c.kernel.inside.nodes.pipes)) size c.read_pipe_into.ensures.ok in
    (subst (IsSound g.row.A.Denot) (moved_view c.kernel.inside c.read_pipe_into.new.self c.read_pipe_into.ensures.files) (changed_sound (view_of c.kernel.inside) o.sound o.key o.pipe o.on o.held o.there (nodes_of c.read_pipe_into.new.self) (λ x. lose (spent x m) x) refl changed), c.kernel.invariant.1)

pub returns-in-Gives-clause-done : goal.returns-in-Gives-clause-done
returns-in-Gives-clause-done g c =
    let v = (goal.at.returns-in-Gives-clause-done g c).After-case_of_read in
    let o = o g v in
    let m = c.in-Gives.count in
    let row = comes_to g v ∙ c.in-Gives.is in
    let size : length (take m c.args.into.now) ≡ m = length-take-le m c.args.into.now (fits g v m row) in
    let changed = subst (λ z. at c.read_pipe_into.new.self.pipes ≡ change_at o.pipe (λ x. lose (spent x z) x) (at c.kernel.inside.nodes.pipes)) size c.read_pipe_into.ensures.ok in
    let read = c.read_pipe_into.new.into in
    let came : read ≡ take m o.held.bytes = subst (λ z. read ≡ take z o.held.bytes) size (subst (λ h. IfSome h (λ x. read ≡ take (length (take m c.args.into.now)) x.bytes)) o.there c.read_pipe_into.ensures.bytes) in
    let enough : m ≤ length o.held.bytes = subst (λ z. z ≤ length o.held.bytes) size (subst (λ h. IfSome h (λ x. length (take m c.args.into.now) ≤ length x.bytes)) o.there c.read_pipe_into.ensures.within) in
    let long : length read ≡ m = ap length came ∙ length-take-le m o.held.bytes enough in
    let front : take m (read ++ drop m c.args.into.now) ≡ take m o.held.bytes = take_at read (drop m c.args.into.now) m long ∙ came in
    subst (λ z. MakesAtKeys z (Resume c.args.number) (Bytes (take m (read ++ drop m c.args.into.now))) c.end_call.new.kernel) c.kernel.view_is
    (resume-read-gives (k g v) o (w g v).fd c.args.n (w g v).asked m row (take m (read ++ drop m c.args.into.now)) front (nodes_of c.read_pipe_into.new.self) changed c.end_call.new.kernel
    (subst (λ z. core_of c.end_call.new.kernel ≡ settle (core_of z) (without_call (core_of z) c.args.number)) (sym (moved_view c.kernel.inside c.read_pipe_into.new.self c.read_pipe_into.ensures.files)) c.end_call.ensures.settled))

pub returns-in-EndOfFile-clause-done : goal.returns-in-EndOfFile-clause-done
returns-in-EndOfFile-clause-done g c =
    let v = (goal.at.returns-in-EndOfFile-clause-done g c).After-case_of_read in
    let new = c.end_call-in-EndOfFile.new.kernel in
    let ended = subst (λ z. core_of new ≡ settle (core_of z) (without_call (core_of z) c.args.number)) (sym c.kernel.view_is) c.end_call-in-EndOfFile.ensures.settled in
    subst (λ z. MakesAtKeys z (Resume c.args.number) (Bytes []) new) c.kernel.view_is (resume-read-end (k g v) (o g v) (w g v).fd c.args.n (w g v).asked new (comes_to g v ∙ c.in-EndOfFile.is) ended)

pub returns-in-Waits-clause-done : goal.returns-in-Waits-clause-done
returns-in-Waits-clause-done g c =
    let A = g.row.A.Denot in
    let v = (goal.at.returns-in-Waits-clause-done g c).After-case_of_read in
    let waiting : IsWaiting A (w g v).call = subst (λ o. IfSome o (IsWaiting A)) (w g v).here (c.kernel.invariant.0.waiting c.args.number) in
    let none : (w g v).call.taken ≡ 0 = subst (λ z. MayWait z (w g v).call.taken) (w g v).asked waiting.may in
    rw (← c.kernel.view_is) (resume-read-waits (k g v) (o g v) (w g v).fd c.args.n (w g v).asked (comes_to g v ∙ c.in-Waits.is) none)

-- it is no more than the caller's bytes
small : (g : Over) (c : After-case_of_read g) (m : ℕ) → c.case_of_read.result ≡ Gives m → m ≤ length c.args.into.now
small g c m is = fits g c m (comes_to g c ∙ is)

pub slice_bounds-read_pipe_into-end : goal.slice_bounds-read_pipe_into-end
slice_bounds-read_pipe_into-end g c = small g (goal.at.slice_bounds-read_pipe_into-end g c).After-case_of_read c.in-Gives.count c.in-Gives.is

pub slice_bounds-read_pipe_into-end-in-Gives : goal.slice_bounds-read_pipe_into-end-in-Gives
slice_bounds-read_pipe_into-end-in-Gives g c =
    sym (length-take-le c.in-Gives.count c.args.into.now (small g (goal.at.slice_bounds-read_pipe_into-end-in-Gives g c).After-case_of_read c.in-Gives.count c.in-Gives.is))

pub returns-in-Gives-clause-within : goal.returns-in-Gives-clause-within
returns-in-Gives-clause-within g c =
    let m = c.in-Gives.count in
    let few = small g (goal.at.returns-in-Gives-clause-within g c).After-case_of_read m c.in-Gives.is in
    let all = length-append c.read_pipe_into.new.into (drop m c.args.into.now) in
    let rest = length-drop m c.args.into.now in
    let read = c.read_pipe_into.ensures in
    omega (arith, few, all, rest)
