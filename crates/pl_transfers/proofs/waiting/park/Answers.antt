use Rattle.std.proofs.Common.{◌≢◌, IsSome, sym, ap, subst, ◌∙◌, IfSome}
use Rattle.pl_model.specs.Numbers.{last_call}
use Rattle.pl_parked.specs.Calls.{Calls}
use Rattle.pl_desc.specs.Rows.{at, is_pid, count_at}
use Rattle.pl_state.specs.KernelView.{view_of}
use Rattle.pl_state.specs.Contents.{Contents, contents, nodes_of}
use Rattle.pl_state.specs.Sound.{IsSound, AreCounted, MayKeep, OnNode}
use Rattle.pl_state.specs.Parking.{call_on, with_call}
use Rattle.pl_state.proofs.by_call.Begun.{there}
use Rattle.pl_state.proofs.holders.Holding.{held_once}
use Rattle.pl_state.proofs.waiting.ParkedCalls.{few_holds, park_sound, held_is, park_held}
use Rattle.pl_state.proofs.Known.{known}
use Rattle.pl_transfers.proofs.waiting.park.Goals as goal
use Rattle.pl_desc.specs.Descs.{Descs}

pub hold-requires-clause-few : goal.hold-requires-clause-few
hold-requires-clause-few g c = few_holds c.kernel.inside.descs (view_of c.kernel.inside) c.kernel.invariant.0 c.kernel.invariant.1 c.args.key

pub invariant_of-kernel-2 : goal.invariant_of-kernel-2
invariant_of-kernel-2 g c =
    let A = g.row.A.Denot in
    let k = c.kernel.inside in
    let m = known k c.kernel.invariant in
    let o = there (at k.descs.opened c.args.key) (subst (λ (z : Contents A). IsSome (at z.opened c.args.key)) (sym c.kernel.view_is) c.requires.here) in
    let call = call_on c.args.key c.args.pid c.args.call c.args.taken in
    let pipe : MayKeep call o.0.node = subst (λ o. IfSome o (λ o. MayKeep call o.node)) o.1 (subst (λ (z : Contents A). OnNode (at z.opened) call c.args.key) (sym c.kernel.view_is) c.requires.pipe) in
    let left : k.parked.next ≢ last_call = subst (λ (z : Contents A). z.calls.next ≢ last_call) (sym c.kernel.view_is) c.requires.left in
    let process = ap (λ (z : Contents A). is_pid z.tables c.args.pid) c.kernel.view_is ∙ c.requires.process in
    let w = call_on c.args.key c.args.pid c.args.call c.args.taken in
    let is = held_is m w c.hold.new.self c.hold.ensures.rest in
    let sound = park_sound (view_of k) c.kernel.invariant.0 c.args.key o.0 o.1 left c.args.pid c.args.call c.args.taken c.requires.one c.requires.may process pipe in
    let are = park_held m w c.hold.new.self c.hold.ensures.rest (held_once c.args.key (count_at k.descs.loose) (count_at c.hold.new.self.loose) c.hold.ensures.loose) (ap (λ (d : Descs). d.limits) c.hold.ensures.rest) c.hold.ensures.tidy in
    subst (λ (z : Calls A). IsSound A (contents c.hold.new.self (nodes_of k.nodes) z k.limits) × AreCounted A c.kernel.inside.limits c.hold.new.self z.calls) (sym c.in_ok-number.ensures.ok) (subst (IsSound A) (sym is) sound, are)

pub returns-clause-ok : goal.returns-clause-ok
returns-clause-ok g c =
    let k = c.kernel.inside in
    let m = known k c.kernel.invariant in
    let w = call_on c.args.key c.args.pid c.args.call c.args.taken in
    ap (λ z. contents c.hold.new.self (nodes_of k.nodes) z k.limits) c.in_ok-number.ensures.ok
    ∙ held_is m w c.hold.new.self c.hold.ensures.rest
    ∙ ap (λ z. with_call z w) c.kernel.view_is
