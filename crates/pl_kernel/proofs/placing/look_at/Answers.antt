use Rattle.std.proofs.Common.{◌≡◌, ◌<◌, true, Some, Bor, refl, sym, ◌∙◌, ap, subst, nat_eq, arith}
use Rattle.std.specs.Prelude.{IsSome, option_map}
use Rattle.std.specs.Set.{is_member}
use Rattle.pl_model.specs.Map.{get}
use Rattle.pl_model.specs.State.{Core}
use Rattle.pl_model.specs.Numbered.{numbers}
use Rattle.pl_parked.specs.declared.call.ParkedCall.{ParkedCall}
use Rattle.pl_desc.specs.Rows.{at}
use Rattle.pl_state.specs.Contents.{Contents, core_of, waiting_of}
use Rattle.pl_state.proofs.by_call.Exiting.{below_next}
use Rattle.pl_state.proofs.Known.{known, parts_of}
use Rattle.pl_state.proofs.waiting.Ending.{member_there}
use Rattle.pl_kernel.specs.Queues.{ends, places, is_placed}
use Rattle.pl_kernel.specs.Index.{Adds}
use Rattle.pl_kernel.proofs.index.Leaving.{IsKnown}
use Rattle.pl_kernel.proofs.index.Known.{known_in}
use Rattle.pl_kernel.proofs.index.Touching.{call-found, parked-in}
use Rattle.pl_kernel.proofs.index.Looking.{tried-at, looked-at}
use Rattle.pl_kernel.proofs.placing.look_at.Given.{Over}
use Rattle.pl_kernel.proofs.placing.look_at.Goals.{In-Some, After-place}
use Rattle.pl_kernel.proofs.placing.look_at.Goals as goal

-- the call of the number
module _ (g : Over) (c : In-Some g) where
  abbrev k : Contents g.row.A.Denot
  k = c.args.state.now

  abbrev call : ParkedCall g.row.A.Denot
  call = c.in-Some.call.now

  inside : get nat_eq c.state.inside.parked.calls c.args.number ≡ Some call
  inside = sym c.get.ensures ∙ ap (option_map (λ (b : Bor (ParkedCall g.row.A.Denot)). b.now)) c.in-Some.is

  here : get nat_eq (core_of k).parked c.args.number ≡ Some (waiting_of call)
  here = parked-in k c.args.number call (ap (λ (z : Contents g.row.A.Denot). get nat_eq z.calls.calls c.args.number) (sym c.state.view_is) ∙ inside)

  is_known : IsKnown (core_of k)
  is_known = known_in k (known c.state.inside c.state.invariant) c.state.view_is

  -- its number is below the next one
  below : c.args.number < c.state.inside.parked.next
  below = below_next 0 c.state.inside.parked.next c.args.number c.state.inside.parked.calls call c.state.invariant.0.rise inside

pub place-requires-clause-described : goal.place-requires-clause-described
place-requires-clause-described g c = λ key member.
    let w = (goal.at.place-requires-clause-described g c).In-Some in
    subst (λ (z : Contents g.row.A.Denot). IsSome (at z.opened key)) c.state.view_is
    (member_there (parts_of (known c.state.inside c.state.invariant)) c.args.number (call g w) (inside g w) key (ap (λ ks. is_member nat_eq ks key) (sym c.as_slice-kept.ensures) ∙ member))

pub place-requires-clause-parked : goal.place-requires-clause-parked
place-requires-clause-parked g c = subst (λ o. IsSome o) (sym (here g (goal.at.place-requires-clause-parked g c).In-Some)) refl

pub overflow_add-number : goal.overflow_add-number
overflow_add-number g c =
    let low = below g (goal.at.overflow_add-number g c).In-Some in
    let next = c.next_number-next.ensures.value in
    let fits = c.next_number-next.type_inv in
    omega (arith, low, next, fits)

-- it was placed in some of its queues, or in all
module _ (g : Over) (c : After-place g) where
  abbrev core : Core g.row.A.Denot numbers
  core = core_of c.args.state.now

  adds : Adds core c.args.waiters.now c.place.new.waiters c.args.number (places (waiting_of c.in-Some.call.now).call (ends core (waiting_of c.in-Some.call.now).kept)) c.place.result
  adds = subst (λ ks. Adds core c.args.waiters.now c.place.new.waiters c.args.number (places (waiting_of c.in-Some.call.now).call (ends core ks)) c.place.result) c.as_slice-kept.ensures c.place.ensures.adds

pub returns-then-not-place-clause-knows : goal.returns-then-not-place-clause-knows
returns-then-not-place-clause-knows g c =
    let w = (goal.at.returns-then-not-place-clause-knows g c).In-Some in
    let p = (goal.at.returns-then-not-place-clause-knows g c).After-place in
    let v = waiting_of (call g w) in
    tried-at (core g p) c.args.waiters.now c.place.new.waiters c.requires.knows c.args.number v (here g w) ((is_known g w).order.below c.args.number v (here g w)) c.requires.from c.place.result (adds g p)

pub returns-clause-knows : goal.returns-clause-knows
returns-clause-knows g c =
    let w = (goal.at.returns-clause-knows g c).In-Some in
    let p = (goal.at.returns-clause-knows g c).After-place in
    let number = c.args.number in
    let v = waiting_of (call g w) in
    let l = c.look_to.ensures in
    looked-at (core g p) c.args.waiters.now c.place.new.waiters c.requires.knows number v (here g w) ((is_known g w).order.below number v (here g w)) c.requires.from c.place.result (adds g p)
    c.look_to.new.self c.if-not-place.false (subst (λ ks. is_placed v.call (ends (core g p) ks) ≡ true) c.as_slice-kept.ensures (c.place.ensures.whole c.if-not-place.false))
    (λ other z late there. (let f = call-found c.args.state.now other z there in c.requires.first other late (subst (λ o. IsSome o) (sym f.1) refl)))
    l.queues l.touched l.least l.looked
