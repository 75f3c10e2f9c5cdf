use Rattle.std.proofs.Common.{◌≡◌, ℕ, Some, IfSome, IsSome, true, sym, ap, subst, ◌∙◌, nat_eq, Bor}
use Rattle.std.specs.Prelude.{option_map}
use Rattle.std.specs.List.{list_any}
use Rattle.std.specs.Set.{is_member}
use Rattle.pl_model.specs.Map.{get}
use Rattle.pl_model.specs.Poll.{is_ready}
use Rattle.pl_model.specs.Waking.{can_progress}
use Rattle.pl_parked.specs.declared.call.ParkedCall.{ParkedCall}
use Rattle.pl_desc.specs.Rows.{at}
use Rattle.pl_state.specs.Contents.{Contents, core_of}
use Rattle.pl_state.specs.KernelView.{view_of}
use Rattle.pl_state.specs.Sound.{IsWaiting, MayWait}
use Rattle.pl_state.proofs.Known.{known, parts_of}
use Rattle.pl_state.proofs.waiting.Ending.{member_there}
use Rattle.pl_state.proofs.by_call.Resumed.{none-progresses}
use Rattle.pl_polls.specs.declared.masks.Descriptions.TheVariants.{Kept}
use Rattle.pl_polls.specs.Masks.{AreCurrent, masks_of}
use Rattle.pl_polls.proofs.by_call.Retrying.{found, kept_masks, poll-progress}
use Rattle.pl_polls.proofs.waiting.poll_can_progress.Given.{Over}
use Rattle.pl_polls.proofs.waiting.poll_can_progress.Goals.{In-Some}
use Rattle.pl_polls.proofs.waiting.poll_can_progress.Goals as goal

-- the call of the number
module _ (g : Over) (c : In-Some g) where
  abbrev w : ParkedCall g.row.A.Denot
  w = c.in-Some.call.now

  here : get nat_eq c.kernel.inside.parked.calls c.args.number ≡ Some w
  here = sym c.get.ensures ∙ ap (option_map (λ (b : Bor (ParkedCall g.row.A.Denot)). b.now)) c.in-Some.is

pub returns-in_default : goal.returns-in_default
returns-in_default g c =
    let k = view_of c.kernel.inside in
    rw (← c.kernel.view_is) (sym (none-progresses k c.kernel.invariant.0 c.args.number (sym c.get.ensures ∙ ap (option_map (λ (b : Bor (ParkedCall g.row.A.Denot)). b.now)) c.in_default.is)))

pub is_ready-requires-clause-current : goal.is_ready-requires-clause-current
is_ready-requires-clause-current g c =
    let v = (goal.at.is_ready-requires-clause-current g c).In-Some in
    subst (λ (z : Contents g.row.A.Denot). AreCurrent z (Kept c.as_slice.result)) c.kernel.view_is
    (subst (λ ks. (key : ℕ) → is_member nat_eq ks key ≡ true → IsSome (at (view_of c.kernel.inside).opened key)) (sym c.as_slice.ensures) (member_there (parts_of (known c.kernel.inside c.kernel.invariant)) c.args.number (w g v) (here g v)))

pub returns : goal.returns
returns g c =
    let A = g.row.A.Denot in
    let v = (goal.at.returns g c).In-Some in
    let k = view_of c.kernel.inside in
    let p = c.in-Poll in
    let waits : IsWaiting A (w g v) = subst (λ o. IfSome o (IsWaiting A)) (here g v) (c.kernel.invariant.0.waiting c.args.number) in
    let may = subst (λ z. MayWait z (w g v).taken) p.is waits.may in
    let looked = (λ i. masks_of (sym c.kernel.view_is i) (Kept c.as_slice.result) (c.as_slice-2.ensures i)) ∙ kept_masks k c.kernel.invariant.0 c.args.number (w g v) (here g v) p.entries p.wait p.is c.as_slice.result c.as_slice.ensures in
    let f = found k c.kernel.invariant.0 c.args.number (w g v) (here g v) p.entries p.wait p.is in
    c.is_ready.ensures ∙ ap (list_any is_ready) looked
    ∙ subst (λ z. list_any is_ready f ≡ can_progress (core_of z) c.args.number) c.kernel.view_is (sym (poll-progress k c.kernel.invariant.0 c.args.number (w g v) (here g v) p.entries p.wait p.is may.0))
