use Rattle.std.proofs.Common.{◌≡◌, ◌≢◌, ◌+◌, ◌≤◌, ◌^◌, ℕ, List, Some, true, length, IsSome, sym, ap, subst, ◌∙◌, nat_eq, Bor}
use Rattle.std.specs.Set.{is_member}
use Rattle.pl_model.specs.Map.{get}
use Rattle.pl_model.specs.Numbers.{last_call}
use Rattle.pl_parked.specs.declared.call.ParkedCall.{ParkedCall}
use Rattle.pl_parked.specs.Calls.{Calls}
use Rattle.pl_desc.specs.Rows.{at, is_pid, count_at}
use Rattle.pl_state.specs.KernelView.{view_of}
use Rattle.pl_state.specs.Contents.{Contents, contents, nodes_of}
use Rattle.pl_state.specs.Sound.{IsSound, AreCounted, KeepsNodes, times}
use Rattle.pl_state.specs.Parking.{with_call}
use Rattle.pl_state.proofs.Known.{known}
use Rattle.pl_state.proofs.waiting.Calls.{get_next, lent_some, lent_is}
use Rattle.pl_state.proofs.waiting.ParkedCalls.{few_to_hold, call_sound, held_is, park_held}
use Rattle.pl_state.proofs.holding.park.Given.{Over}
use Rattle.pl_state.proofs.holding.park.Goals.{After-get, After-as_slice}
use Rattle.pl_state.proofs.holding.park.Goals as goal
use Rattle.pl_desc.specs.Descs.{Descs}

-- the call stands under its number
here : (g : Over) (c : After-get g) → get nat_eq c.park.new.self.calls c.in-Ok.number ≡ Some c.args.call
here g c =
    ap (λ (z : Calls g.row.A.Denot). get nat_eq z.calls c.in-Ok.number) c.in-Ok.ensures.ok ∙ ap (get nat_eq (with_call (view_of c.kernel.inside) c.args.call).calls.calls) c.in-Ok.ensures.number
    ∙ get_next 0 c.kernel.inside.parked.next c.kernel.inside.parked.calls c.args.call c.kernel.invariant.0.rise

-- and keeps what it kept
kept_is : (g : Over) (c : After-as_slice g) → c.as_slice.result.now ≡ c.args.call.kept
kept_is g c =
    let v = (goal.at.After-as_slice g c).After-get in
    c.as_slice.ensures ∙ ap (λ (z : ParkedCall g.row.A.Denot). z.kept) (lent_is (λ (b : Bor (ParkedCall g.row.A.Denot)). b.now) c.get.result c.unwrap-call.result c.args.call (c.get.ensures ∙ here g v) c.unwrap-call.ensures)

pub unwrap-call-requires : goal.unwrap-call-requires
unwrap-call-requires g c = lent_some (λ (b : Bor (ParkedCall g.row.A.Denot)). b.now) c.get.result c.args.call (c.get.ensures ∙ here g c)

pub hold_all-requires-clause-here : goal.hold_all-requires-clause-here
hold_all-requires-clause-here g c =
    subst (λ ks. (key : ℕ) → is_member nat_eq ks key ≡ true → IsSome (at c.kernel.inside.descs.opened key)) (sym (kept_is g c))
    (subst (λ (z : Contents g.row.A.Denot). (key : ℕ) → is_member nat_eq c.args.call.kept key ≡ true → IsSome (at z.opened key)) (sym c.kernel.view_is) c.requires.here)

pub hold_all-requires-clause-few : goal.hold_all-requires-clause-few
hold_all-requires-clause-few g c =
    subst (λ (ks : List ℕ). (key : ℕ) → count_at c.kernel.inside.descs.loose key + length ks ≤ 2 ^ 100) (sym (kept_is g c))
    (few_to_hold c.kernel.inside.descs (view_of c.kernel.inside) c.kernel.invariant.0 c.kernel.invariant.1 c.args.call.kept c.requires.waits.few)

pub invariant_of-kernel-2 : goal.invariant_of-kernel-2
invariant_of-kernel-2 g c =
    let A = g.row.A.Denot in
    let k = c.kernel.inside in
    let v = view_of k in
    let w = c.args.call in
    let m = known k c.kernel.invariant in
    let nodes : KeepsNodes (at v.opened) w = subst (λ (z : Contents A). KeepsNodes (at z.opened) w) (sym c.kernel.view_is) c.requires.nodes in
    let open_ones = subst (λ (z : Contents A). (key : ℕ) → is_member nat_eq w.kept key ≡ true → IsSome (at z.opened key)) (sym c.kernel.view_is) c.requires.here in
    let left : k.parked.next ≢ last_call = subst (λ (z : Contents A). z.calls.next ≢ last_call) (sym c.kernel.view_is) c.requires.left in
    let process = ap (λ (z : Contents A). is_pid z.tables w.pid) c.kernel.view_is ∙ c.requires.process in
    let is = held_is m w c.hold_all.new.descs c.hold_all.ensures.rest in
    let sound = call_sound v c.kernel.invariant.0 w c.requires.waits open_ones left nodes process in
    let loose = subst (λ ks. (key : ℕ) → count_at c.hold_all.new.descs.loose key ≡ count_at k.descs.loose key + times ks key) (kept_is g (goal.at.invariant_of-kernel-2 g c).After-as_slice) c.hold_all.ensures.loose in
    let are = park_held m w c.hold_all.new.descs c.hold_all.ensures.rest loose (ap (λ (d : Descs). d.limits) c.hold_all.ensures.rest) c.hold_all.ensures.tidy in
    subst (λ (z : Calls A). IsSound A (contents c.hold_all.new.descs (nodes_of k.nodes) z k.limits) × AreCounted A c.kernel.inside.limits c.hold_all.new.descs z.calls) (sym c.in-Ok.ensures.ok) (subst (IsSound A) (sym is) sound, are)
