use Rattle.std.proofs.Common.{◌≡◌, ◌+◌, ◌<◌, Option, None, Some, IsSome, refl, sym, ◌∙◌, subst, nat_eq, arith, true, false}
use Rattle.pl_model.specs.Map.{get}
use Rattle.pl_model.specs.Waking.{can_progress}
use Rattle.pl_parked.specs.declared.call.ParkedCall.{ParkedCall}
use Rattle.pl_state.specs.Contents.{Contents, core_of}
use Rattle.pl_state.specs.KernelView.{view_of}
use Rattle.pl_state.proofs.by_call.Exiting.{below_next}
use Rattle.pl_kernel.specs.Progress.{is_ready, IsLeastFrom}
use Rattle.pl_kernel.proofs.NextReady.{NoneYet, none_left, it_is, it_is_not}
use Rattle.pl_kernel.proofs.asking.ask_all.Given.{Over}
use Rattle.pl_kernel.proofs.asking.ask_all.Goals.{After-next_from, In-Some, After-next_number-next}
use Rattle.pl_kernel.proofs.asking.ask_all.Goals as goal

pub loop-number-init : goal.loop-number-init
loop-number-init g c = (omega arith, λ other on early. absurd (omega (arith, on, early)))

module _ (g : Over) (c : After-next_from g) where
  -- no call that was passed is ready, of the kernel as it is inside
  none : NoneYet (is_ready (core_of (view_of c.state.inside))) c.args.from c.loop-number.least
  none = subst (λ (k : Contents g.row.A.Denot). NoneYet (is_ready (core_of k)) c.args.from c.loop-number.least) (sym c.state.view_is) c.loop-number.invariant.1

pub returns-then-can_progress : goal.returns-then-can_progress
returns-then-can_progress g c =
    let w = (goal.at.returns-then-can_progress g c).After-next_from in
    subst (λ (k : Contents g.row.A.Denot). IsLeastFrom (is_ready (core_of k)) c.args.from (Some c.in-Some.number)) c.state.view_is
    (it_is (view_of c.state.inside) c.state.invariant.0 c.args.from c.loop-number.least c.loop-number.invariant.0 (none g w) c.in-Some.number c.in-Some.ensures.parked.0 c.in-Some.ensures.parked.1 c.in-Some.ensures.least
    (subst (λ (k : Contents g.row.A.Denot). can_progress (core_of k) c.in-Some.number ≡ true) (sym c.state.view_is) (sym c.can_progress.ensures ∙ c.if-can_progress.true)))

module _ (g : Over) (c : In-Some g) where
  -- a number is below the next one
  below : c.in-Some.number < c.state.inside.parked.next
  below = by (get nat_eq c.state.inside.parked.calls c.in-Some.number) refl c.in-Some.ensures.parked.1
    where
      by : (o : Option (ParkedCall g.row.A.Denot)) → get nat_eq c.state.inside.parked.calls c.in-Some.number ≡ o → IsSome o → c.in-Some.number < c.state.inside.parked.next
      by None is there = absurd (cc)
      by (Some w) is there = below_next 0 c.state.inside.parked.next c.in-Some.number c.state.inside.parked.calls w c.state.invariant.0.rise is

pub overflow_add-least : goal.overflow_add-least
overflow_add-least g c =
    let low = below g ((goal.at.overflow_add-least g c).In-Some) in
    let next = c.next_number-next.ensures.value in
    let fits = c.next_number-next.type_inv in
    omega (arith, low, next, fits)

pub loop-number-preserved : goal.loop-number-preserved
loop-number-preserved g c =
    let w = (goal.at.loop-number-preserved g c).After-next_from in
    let up = c.loop-number.invariant.0 in
    let on = c.in-Some.ensures.parked.0 in (
      omega (arith, up, on),
      subst (λ (k : Contents g.row.A.Denot). NoneYet (is_ready (core_of k)) c.args.from (c.in-Some.number + 1)) c.state.view_is
          (it_is_not (view_of c.state.inside) c.state.invariant.0 c.args.from c.loop-number.least up (none g w) c.in-Some.number on c.in-Some.ensures.parked.1 c.in-Some.ensures.least
          (subst (λ (k : Contents g.row.A.Denot). can_progress (core_of k) c.in-Some.number ≡ false) (sym c.state.view_is) (sym c.can_progress.ensures ∙ c.if-can_progress.false))),
    )

pub loop-number-smaller : goal.loop-number-smaller
loop-number-smaller g c =
    let low = below g ((goal.at.loop-number-smaller g c).In-Some) in
    let on = c.in-Some.ensures.parked.0 in
    let next = c.next_number-next.ensures.value in
    let fits = c.next_number-next.type_inv in
    omega (arith, low, on, next, fits)

pub returns : goal.returns
returns g c =
    let w = (goal.at.returns g c).After-next_from in
    subst (λ (k : Contents g.row.A.Denot). IsLeastFrom (is_ready (core_of k)) c.args.from None) c.state.view_is
    (none_left (view_of c.state.inside) c.state.invariant.0 c.args.from c.loop-number.least c.loop-number.invariant.0 (none g w) c.in_default.ensures.none)
