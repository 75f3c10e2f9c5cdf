use Rattle.std.proofs.Common.{◌≡◌, ◌≢◌, ◌≤◌, ℕ, List, Some, refl, sym, ap, subst, ◌∙◌, nat_eq, length, take, Bor}
use Rattle.std.proofs.lemmas.List.{length-take-le, same_from_push}
use Rattle.pl_model.specs.Packets.{gain}
use Rattle.pl_model.specs.declared.node.Node.TheVariants as node
use Rattle.pl_model.specs.Map.{get, change_at}
use Rattle.pl_model.specs.Numbers.{last_call}
use Rattle.pl_parked.specs.Calls.{Calls}
use Rattle.pl_parked.specs.declared.call.ParkedCall.{ParkedCall}
use Rattle.pl_desc.specs.Rows.{at, is_pid, count_at}
use Rattle.pl_nodes.specs.Nodes.{SameFiles}
use Rattle.pl_state.specs.KernelView.{view_of}
use Rattle.pl_state.specs.Contents.{Contents, with_pipes, contents, nodes_of, Nodes}
use Rattle.pl_state.specs.Opens.{OpenOn}
use Rattle.pl_state.specs.Sound.{IsSound, AreCounted, MayKeep}
use Rattle.pl_state.specs.Parking.{with_call, call_on, written, Adds}
use Rattle.pl_state.proofs.by_call.Begun.{pipe_there}
use Rattle.pl_state.proofs.waiting.Calls.{get_next, lent_some, lent_is}
use Rattle.pl_state.proofs.holders.Holding.{held_once}
use Rattle.pl_state.proofs.waiting.ParkedCalls.{few_holds, park_moves_sound, held_is, park_held}
use Rattle.pl_state.proofs.Known.{Known, known}
use Rattle.pl_transfers.proofs.waiting.park_write.Given.{Over}
use Rattle.pl_transfers.proofs.waiting.park_write.Goals.{After-get, After-bytes_of-bytes, After-hold}
use Rattle.pl_transfers.proofs.waiting.park_write.Goals as goal
use Rattle.pl_desc.specs.Descs.{Descs}

-- the call stands under its number
module _ (g : Over) (c : After-get g) where
  abbrev k : Contents g.row.A.Denot
  k = view_of c.kernel.inside

  abbrev w : ParkedCall g.row.A.Denot
  w = call_on c.args.end.key c.args.pid c.args.call c.args.taken

  here : get nat_eq c.park_call.new.parked.calls c.in_ok-number.number ≡ Some w
  here =
      ap (λ (z : Calls g.row.A.Denot). get nat_eq z.calls c.in_ok-number.number) c.in_ok-number.ensures.ok ∙ ap (get nat_eq (with_call k w).calls.calls) c.in_ok-number.ensures.number
      ∙ get_next 0 k.calls.next k.calls.calls w c.kernel.invariant.0.rise

-- its bytes are those of the write
bytes_are : (g : Over) (c : After-bytes_of-bytes g) → c.bytes_of-bytes.result.now ≡ written c.args.call
bytes_are g c = c.bytes_of-bytes.ensures.value ∙ ap (λ (z : ParkedCall g.row.A.Denot). written z.call) (lent_is (λ (b : Bor (ParkedCall g.row.A.Denot)). b.now) c.get.result c.unwrap-call.result (w g c.before.before.before) (c.get.ensures ∙ here g c.before.before.before) c.unwrap-call.ensures)

-- the call is parked, and its bytes are in the pipe
module _ (g : Over) (c : After-hold g) where
  abbrev old : Contents g.row.A.Denot
  old = view_of c.kernel.inside

  abbrev holds : Known g.row.A.Denot
  holds = known c.kernel.inside c.kernel.invariant

  abbrev with_it : Contents g.row.A.Denot
  with_it = with_call old (call_on c.args.end.key c.args.pid c.args.call c.args.taken)

  abbrev pipes : Nodes
  pipes = nodes_of c.write_pipe.new.self

  abbrev more : List ℕ
  more = take c.args.taken (written c.args.call)

  adds : c.bytes_of-bytes.result.now ≡ written c.args.call → Adds with_it c.args.end.pipe more (with_pipes with_it pipes)
  adds bytes = record { pipes = c.in-Ok.ensures.ok ∙ ap (λ xs. change_at c.args.end.pipe (gain (take c.args.taken xs)) (at old.nodes.pipes)) bytes; rest = refl }

  held_with : contents c.hold.new.self (nodes_of c.kernel.inside.nodes) with_it.calls c.kernel.inside.limits ≡ with_it
  held_with = held_is holds (call_on c.args.end.key c.args.pid c.args.call c.args.taken) c.hold.new.self c.hold.ensures.rest

  held_moved : SameFiles c.kernel.inside.nodes c.write_pipe.new.self → with_pipes with_it pipes ≡ contents c.hold.new.self (nodes_of c.write_pipe.new.self) with_it.calls c.kernel.inside.limits
  held_moved same =
      sym (ap (λ (z : Contents g.row.A.Denot). with_pipes z pipes) held_with)
      ∙ (λ i. contents c.hold.new.self (record { pipes = pipes.pipes; files = sym same.files i; names = sym same.names i; limits = sym same.limits i; memory = pipes.memory }) with_it.calls c.kernel.inside.limits)

pub unwrap-call-requires : goal.unwrap-call-requires
unwrap-call-requires g c = lent_some (λ (b : Bor (ParkedCall g.row.A.Denot)). b.now) c.get.result (w g c) (c.get.ensures ∙ here g c)

pub slice_bounds-write_pipe-end : goal.slice_bounds-write_pipe-end
slice_bounds-write_pipe-end g c =
    let bytes = bytes_are g (goal.at.slice_bounds-write_pipe-end g c).After-bytes_of-bytes in
    sym (length-take-le c.args.taken c.bytes_of-bytes.result.now (subst (λ xs. c.args.taken ≤ length xs) (sym bytes) c.requires.taken))

pub hold-requires-clause-few : goal.hold-requires-clause-few
hold-requires-clause-few g c = few_holds c.kernel.inside.descs (view_of c.kernel.inside) c.kernel.invariant.0 c.kernel.invariant.1 c.args.end.key

pub invariant_of-kernel-in-Ok : goal.invariant_of-kernel-in-Ok
invariant_of-kernel-in-Ok g c =
    let A = g.row.A.Denot in
    let v = (goal.at.invariant_of-kernel-in-Ok g c).After-hold in
    let bytes = bytes_are g (goal.at.invariant_of-kernel-in-Ok g c).After-bytes_of-bytes in
    let k = old g v in
    let on : OpenOn k c.args.end.key (node.Pipe c.args.end.pipe) = subst (λ (z : Contents A). OpenOn z c.args.end.key (node.Pipe c.args.end.pipe)) (sym c.kernel.view_is) c.requires.on in
    let left : k.calls.next ≢ last_call = subst (λ (z : Contents A). z.calls.next ≢ last_call) (sym c.kernel.view_is) c.requires.left in
    let p = pipe_there k c.kernel.invariant.0.whole c.args.end.key c.args.end.pipe on in
    let process = ap (λ (z : Contents A). is_pid z.tables c.args.pid) c.kernel.view_is ∙ c.requires.process in
    let sound = park_moves_sound k c.kernel.invariant.0 c.args.end.key on.opened on.here left c.args.pid c.args.call c.args.taken c.requires.one c.requires.may process (subst (MayKeep (call_on c.args.end.key c.args.pid c.args.call c.args.taken)) (sym on.node) c.requires.keeps) c.args.end.pipe on p.0 p.1 (more g v) (with_pipes (with_it g v) (pipes g v)) (adds g v bytes) in
    let are = park_held (holds g v) (call_on c.args.end.key c.args.pid c.args.call c.args.taken) c.hold.new.self c.hold.ensures.rest (held_once c.args.end.key (count_at (holds g v).descs.loose) (count_at c.hold.new.self.loose) c.hold.ensures.loose) (ap (λ (d : Descs). d.limits) c.hold.ensures.rest) c.hold.ensures.tidy in
    subst (λ (z : Calls A). IsSound A (contents c.hold.new.self (nodes_of c.write_pipe.new.self) z k.limits) × AreCounted A c.kernel.inside.limits c.hold.new.self z.calls) (sym c.in_ok-number.ensures.ok) (subst (IsSound A) (held_moved g v c.in-Ok.ensures.files) sound, are)

pub returns-in-Ok-clause-ok : goal.returns-in-Ok-clause-ok
returns-in-Ok-clause-ok g c =
    let A = g.row.A.Denot in
    let v = (goal.at.returns-in-Ok-clause-ok g c).After-hold in
    let bytes = bytes_are g (goal.at.returns-in-Ok-clause-ok g c).After-bytes_of-bytes in
    let new = ap (λ (z : Calls A). contents c.hold.new.self (nodes_of c.write_pipe.new.self) z c.kernel.inside.limits) c.in_ok-number.ensures.ok ∙ sym (held_moved g v c.in-Ok.ensures.files) in
    subst (λ (z : Contents A). Adds (with_call z (call_on c.args.end.key c.args.pid c.args.call c.args.taken)) c.args.end.pipe (more g v) (contents c.hold.new.self (nodes_of c.write_pipe.new.self) c.park_call.new.parked c.kernel.inside.limits)) c.kernel.view_is
    (subst (λ (z : Contents A). Adds (with_it g v) c.args.end.pipe (more g v) z) (sym new) (adds g v bytes))

-- the call is taken back, and all is as it was
pub invariant_of-kernel-in-Err : goal.invariant_of-kernel-in-Err
invariant_of-kernel-in-Err g c =
    let A = g.row.A.Denot in
    let k = c.kernel.inside in
    let more : c.park_call.new.parked ≡ (with_call (view_of k) (call_on c.args.end.key c.args.pid c.args.call c.args.taken)).calls = c.in_ok-number.ensures.ok in
    let calls = (same_from_push c.unpark.new.self.calls k.parked.calls _ _ (sym c.unpark.ensures.calls ∙ ap (λ (z : Calls A). z.calls) more)).0 in
    let next = c.unpark.ensures.next ∙ c.in_ok-number.ensures.number in
    let parked : c.unpark.new.self ≡ k.parked = λ i. record { calls = calls i; next = next i } in
    subst (λ (z : Calls A). IsSound A (contents k.descs (nodes_of c.write_pipe.new.self) z k.limits) × AreCounted A k.limits k.descs z.calls) (sym parked)
    (subst (λ n. IsSound A (contents k.descs (nodes_of n) k.parked k.limits) × AreCounted A k.limits k.descs k.parked.calls) (sym c.in-Err.ensures.unchanged) c.kernel.invariant)
